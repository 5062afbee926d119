use Rattle.std.proofs.Common.{⊎_elim, ◌≤◌, ◌<◌, ◌+◌, ◌∙◌, ℕ, arith, rules}
use Rattle.cost_functions.specs.Lines.{line_at}
use Rattle.cost_functions.proofs.Places.{pieces_rest}
use Rattle.function_merge.specs.Rejection.{IsNoBetter}
use Rattle.function_merge.proofs.FirstPieces.{first_of, rest_values}
use Rattle.function_merge.proofs.Rejecting.{rest_ends, shown_until}
use Rattle.function_merge.proofs.rejection.is_covered.Goals.{Else-not-is_no_higher}
use Rattle.function_merge.proofs.rejection.is_covered.Goals as goal

-- the minutes up to the end of the first piece that is left are shown
shown : (c : Else-not-is_no_higher) → (t : ℕ) → c.args.piece.lo ≤ t → t ≤ c.args.piece.hi → t + c.args.minutes ≤ (first_of c.cover.left.now).hi
    → IsNoBetter c.args.f.now (t + c.args.minutes) (line_at c.args.piece t + c.args.cost)
shown c =
    let inv = c.cover.invariant in
    shown_until c.args.f.now c.cover.left.now c.args.piece c.cover.from c.args.minutes c.args.cost c.in-len1-up.len_at_least inv.pieces inv.values
    (c.if-not-is_no_higher.ensures.begins (search rules)) (c.if-not-is_no_higher.ensures.low (search rules)) inv.shown

pub cover-preserved : goal.cover-preserved
cover-preserved c =
    let left = c.cover.left.now in
    let inv = c.cover.invariant in
    let some = c.in-len1-up.len_at_least in
    let ends = c.if-piece-minutes.false in
    let reach = inv.reach 0 (first_of left) (omega (arith, some)) in
    record {
      count = omega (arith, inv.count, c.if-looked-ge-MOST_LOOKED_AT.false);
      low = omega (arith, inv.low, reach);
      high = omega (arith, ends, reach);
      pieces = pieces_rest left some inv.pieces;
      reach = rest_ends c.args.f.now left c.args.piece c.cover.from c.args.minutes c.args.cost some inv.pieces inv.values _ (omega (arith, reach));
      values = λ t late. rest_values left some inv.pieces t (omega (arith, late, reach)) ∙ inv.values t (omega (arith, late, reach));
      shown = λ t low early. shown (goal.at.cover-preserved c).Else-not-is_no_higher t low (omega (arith, early, ends, reach)) (omega (arith, early, reach));
    }

pub returns-then-piece-minutes : goal.returns-then-piece-minutes
returns-then-piece-minutes c = λ _ t low upto.
    shown (goal.at.returns-then-piece-minutes c).Else-not-is_no_higher t low upto (omega (arith, upto, c.if-piece-minutes.true))
