use Rattle.std.proofs.Common.{◌/◌, ◌≤◌, ◌<◌, ℕ, inl, inr, ⊎_elim, get_or, ap, ◌∙◌, arith, refl}
use Rattle.std.specs.Int.{bit_at}
use Rattle.std.proofs.lemmas.Bool.{cases_lt}
use Rattle.drive_states.proofs.BitWords.{joined_none, joined_few, joined_step, joined_all, joined_count, later_any}
use Rattle.drive_states.proofs.bits.join_words.Goals as goal

pub loop-i-init : goal.loop-i-init
loop-i-init c = record {
  joined = joined_none c.args.row.now c.args.from.now c.args.by c.args.most;
  before = inl (refl, refl);
  fits = omega arith;
}

pub overflow_add-fresh : goal.overflow_add-fresh
overflow_add-fresh c =
    let small = joined_few c.loop-i.row c.args.row.now c.args.from.now c.args.by c.args.most c.loop-i.i c.loop-i.fresh c.loop-i.invariant.joined in
    omega (arith, small, c.lacking-fresh.ensures.few, c.requires.most)

pub loop-i-preserved : goal.loop-i-preserved
loop-i-preserved c = record {
  joined = joined_step c.loop-i.row c.args.row.now c.args.from.now c.args.by c.args.most c.loop-i.i c.loop-i.fresh c.moved_up.result c.min.result
      c.lacking-fresh.result c.low_bits-later.result c.low_bits-later.ensures (omega (arith, c.loop-i-test.true, c.min-count.ensures, c.saturating_sub.ensures))
      c.min.ensures (omega (arith, c.loop-i-test.true, c.min-count.ensures, c.saturating_sub.ensures, c.requires.room, c.loop-i.auto.row))
      (λ k low. ap (λ (m : ℕ). bit_at m k) c.moved_up.ensures
      ∙ later_any c.args.from.now c.args.by c.loop-i.i c.word_at-word.result c.loop-i.before k (omega arith) c.word_at-word.ensures.value
      c.loop-i.invariant.before c.loop-i.invariant.fits low) c.loop-i.invariant.joined c.lacking-fresh.ensures.count;
  before = inr (omega arith, c.word_at-word.ensures.value ∙ ap (λ (j : ℕ). get_or c.args.from.now j 0) (omega arith));
  fits = c.word_at-word.ensures.fits;
}

pub returns-clause-bits : goal.returns-clause-bits
returns-clause-bits c =
    joined_all c.loop-i.row c.args.row.now c.args.from.now c.args.by c.args.most c.loop-i.i c.loop-i.fresh c.loop-i.invariant.joined
    (⊎_elim
    (λ (over : c.args.most / 64 < c.loop-i.i). inl (omega (arith, over)))
    (λ (low : c.loop-i.i ≤ c.args.most / 64).
    inr (omega (arith, low, c.loop-i-test.false, c.min-count.ensures, c.saturating_sub.ensures)))
    (cases_lt (c.args.most / 64) c.loop-i.i))

pub returns-clause-count : goal.returns-clause-count
returns-clause-count c =
    joined_count c.loop-i.row c.args.row.now c.args.from.now c.args.by c.args.most c.loop-i.i c.loop-i.fresh c.loop-i.invariant.joined
