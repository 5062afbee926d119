use Rattle.std.proofs.Common.{◌≡◌, ◌*◌, min}
use Rattle.drive_states.specs.Inside.BitRows.{bit_of, sum_below}
use Rattle.drive_states.proofs.bits.count_below.Given as goal

abbrev pub invariant-loop-i : goal.invariant-loop-i
invariant-loop-i l = l.count ≡ sum_below (bit_of l.row) (min l.end (64 * l.i))
