use Rattle.std.proofs.Common.{◌≡◌, ⊎_elim, ℕ, ◌+◌, ◌≤◌, ◌<◌, Option, Some, None, List, [], All, length, refl, sym, ◌∙◌, ap, subst, arith}
use Rattle.std.proofs.lemmas.Bool.{eqb-true}
use Rattle.cost_functions.specs.Lines.{line_at}
use Rattle.cost_functions.specs.Pieces.{value_at}
use Rattle.cost_functions.specs.declared.pieces.Piece.{Piece}
use Rattle.cost_functions.specs.Building.{IsSettled}
use Rattle.cost_functions.proofs.Settling.{settled_nothing, settled_skip, settled_whole}
use Rattle.function_merge.specs.Least.{better_part_at}
use Rattle.function_merge.specs.Inside.Segments.{piece_of, improves}
use Rattle.function_merge.proofs.FirstPieces.{first_of, first_is, first_none, no_pieces, reach_all}
use Rattle.function_merge.proofs.Betters.{part_none, part_in, part_missing, part_same}
use Rattle.function_merge.proofs.bettering.better_part.Goals as goal
use Rattle.function_merge.proofs.bettering.better_part.Goals.{else-sweep-test, then-sweep-test+in_default-next_segment}

pub sweep-preserved : goal.sweep-preserved
sweep-preserved c =
    let inv = c.sweep.invariant in
    let f = c.args.f.now in
    let g = c.args.g.now in
    let s = piece_of c.in-Some.segment in
    let is = c.in-Some.ensures.some in
    let end = ap (λ (p : Piece). p.hi) c.piece-from.ensures in
    let starts = is.starts in
    let filled = is.filled in
    let same = λ (t : ℕ) (late : c.sweep.from ≤ t). part_same c.sweep.left.now c.sweep.other.now f g t (inv.first_values t late) (inv.second_values t late) in
    record {
      settled = subst (λ n. IsSettled (better_part_at f g) c.add_better.new.built (n + 1)) (sym end)
          (c.in_ok-add_better.ensures (better_part_at f g)
          (settled_skip (better_part_at f g) c.sweep.built c.sweep.from s.lo starts inv.settled
          (λ t late early. sym (same t late) ∙ part_none c.sweep.left.now c.sweep.other.now t (is.gap_better t late early)))
          (λ t late upto. sym (same t (omega (arith, starts, late)))
          ∙ part_in c.sweep.left.now c.sweep.other.now t (line_at s t) (improves c.in-Some.segment) (is.better t late upto) (is.least t late upto)));
      first = c.skip_pieces-left.ensures.left;
      second = c.skip_pieces-other.ensures.left;
      first_values = λ t late. c.skip_pieces-left.ensures.values t late ∙ inv.first_values t (omega (arith, late, starts, filled, end));
      second_values = λ t late. c.skip_pieces-other.ensures.values t late ∙ inv.second_values t (omega (arith, late, starts, filled, end));
    }

pub returns-in_default-clause-values : goal.returns-in_default-clause-values
returns-in_default-clause-values c = λ t.
    ap (λ ps. value_at ps t) (c.finish.ensures.same ∙ c.again-built.ensures)
    ∙ no_pieces [] t (omega arith)
    ∙ sym (part_missing c.args.f.now c.args.g.now t (no_pieces c.args.g.now t (omega (arith, c.in_default.len_below))))

pub sweep-init : goal.sweep-init
sweep-init c =
    let g = c.args.g.now in
    let are = c.requires.second in
    let some : 1 ≤ length g = omega (arith, c.in-len1-up.len_at_least) in
    let is = first_is g some are in
    record {
      settled = subst (λ ps. IsSettled (better_part_at c.args.f.now g) ps (first_of g).lo) (sym c.again-built.ensures)
          (settled_skip (better_part_at c.args.f.now g) [] 0 (first_of g).lo (omega arith) (settled_nothing (better_part_at c.args.f.now g))
          (λ t late early. part_missing c.args.f.now g t (first_none g some are t early)));
      first = record {
        pieces = c.find_pieces-left.ensures.pieces;
        small = c.find_pieces-left.ensures.small c.requires.first_small;
        reach = c.find_pieces-left.ensures.reach;
      };
      second = record { pieces = are; small = c.requires.second_small; reach = reach_all g some are (first_of g).lo is.filled };
      first_values = c.find_pieces-left.ensures.values;
      second_values = λ t late. refl;
    }

pub returns-clause-values : goal.returns-clause-values
returns-clause-values c = λ t.
    let inv = c.sweep.invariant in
    let f = c.args.f.now in
    let g = c.args.g.now in
    let gone : (u : ℕ) → c.sweep.from ≤ u → better_part_at f g u ≡ None = λ u late.
    elim c.sweep-test.branch [
      | else-sweep-test w ↦ part_missing f g u (sym (inv.second_values u late) ∙ no_pieces c.sweep.other.now u
          (let none = eqb-true (length c.sweep.other.now) 0 (sym c.is_empty.ensures ∙ w.sweep-test.false) in omega (arith, none)))
      | then-sweep-test+in_default-next_segment w ↦
          sym (part_same c.sweep.left.now c.sweep.other.now f g u (inv.first_values u late) (inv.second_values u late))
          ∙ part_none c.sweep.left.now c.sweep.other.now u (w.in_default-next_segment.ensures.none_better refl u late)
    ] in
    ap (λ ps. value_at ps t) c.finish-2.ensures.same ∙ settled_whole (better_part_at f g) c.sweep.built c.sweep.from inv.settled gone t
