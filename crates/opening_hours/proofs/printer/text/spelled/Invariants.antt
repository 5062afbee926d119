use Rattle.std.proofs.Common.{◌≡◌, ◌++◌, length}
use Rattle.opening_hours.specs.CanonicalText.{spell}
use Rattle.opening_hours.proofs.printer.text.spelled.Given as goal

abbrev pub invariant-loop-rest : goal.invariant-loop-rest
invariant-loop-rest l = l.out.items ++ spell l.rest ≡ spell l.tokens

abbrev pub decreases-loop-rest : goal.decreases-loop-rest
decreases-loop-rest l = length l.rest
