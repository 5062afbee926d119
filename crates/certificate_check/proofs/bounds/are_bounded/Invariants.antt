use Rattle.std.proofs.Common.{◌≤◌, ℕ}
use Rattle.route_base.specs.Net.{setting_of}
use Rattle.certificate.specs.ByNode.{item_at}
use Rattle.certificate_check.specs.Inside.Steps.{IsBoundedArc}
use Rattle.certificate_check.proofs.bounds.are_bounded.Given as goal

abbrev pub invariant-loop-k : goal.invariant-loop-k
invariant-loop-k l = (a : ℕ) → 1 ≤ a → a ≤ l.k → IsBoundedArc (setting_of l.net) (item_at l.bounds) a
