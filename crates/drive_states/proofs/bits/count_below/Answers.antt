use Rattle.std.proofs.Common.{◌+◌, ◌*◌, ℕ, min, ap, ◌∙◌, arith}
use Rattle.std.specs.Int.Count.{ones}
use Rattle.drive_states.proofs.BitWords.{bits_few, ones_few, counted_on}
use Rattle.drive_states.proofs.bits.count_below.Goals as goal

pub overflow_add-count : goal.overflow_add-count
overflow_add-count c = omega (
  arith,
  c.loop-i.invariant,
  bits_few c.args.row.now (min c.args.end (64 * c.loop-i.i)),
  ap ones c.low_bits.ensures,
  ones_few c.word_at.result c.min.result,
  c.min.ensures,
  c.requires,
)

pub loop-i-preserved : goal.loop-i-preserved
loop-i-preserved c = ap (λ (m : ℕ). c.loop-i.count + m) (ap ones c.low_bits.ensures)
    ∙ counted_on c.args.row.now c.args.end c.loop-i.i c.loop-i.count c.word_at.result c.min.result (omega (arith, c.loop-i-test.true)) c.min.ensures
    c.word_at.ensures.value c.loop-i.invariant
