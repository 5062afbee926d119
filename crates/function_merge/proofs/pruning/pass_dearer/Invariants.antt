use Rattle.std.proofs.Common.{◌≡◌, ◌-◌, ◌≤◌, true, length}
use Rattle.std.specs.List.{AllWithin}
use Rattle.function_merge.specs.Inside.Prefixes.{stays_cheaper}
use Rattle.function_merge.proofs.pruning.pass_dearer.Given as goal

abbrev pub invariant-pass : goal.invariant-pass
invariant-pass l = record {
  within : l.place ≤ length l.pairs;
  before : AllWithin (λ p. stays_cheaper l.piece l.bound p ≡ true) l.pairs 0 l.place;
}

abbrev pub decreases-pass : goal.decreases-pass
decreases-pass l = length l.pairs - l.place
