use Rattle.std.proofs.Common.{◌≤◌, ◌<◌, length}
use Rattle.std.specs.List.{AllWithin}
use Rattle.function_merge.proofs.suffixes.beginning_by.Given as goal

abbrev pub invariant-back : goal.invariant-back
invariant-back l = record {
  within : l.count ≤ length l.pieces;
  after : AllWithin (λ p. l.minute < p.lo) l.pieces l.count (length l.pieces);
}

abbrev pub decreases-back : goal.decreases-back
decreases-back l = l.count
