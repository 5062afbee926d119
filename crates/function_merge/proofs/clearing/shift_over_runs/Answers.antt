use Rattle.std.proofs.Common.{⊎_elim, ◌<◌, ◌≤◌, ◌-◌, ◌+◌, ◌≡◌, Some, ℕ, [], get_or, refl, ◌∙◌, ap, sym, subst, arith}
use Rattle.std.specs.Option.{option_map}
use Rattle.std.proofs.lemmas.Bool.{cases_lt}
use Rattle.std.proofs.lemmas.List.{nil_from_length}
use Rattle.route_base.specs.Runs.{any_has}
use Rattle.cost_functions.specs.Pieces.{value_at}
use Rattle.function_merge.specs.Pruning.{IsPruned}
use Rattle.function_merge.specs.Inside.Prefixes.{IsPrunedUpTo}
use Rattle.function_merge.proofs.PrunedPieces.{pruned_skip, pruned_whole, pruned_nothing, arrived_later}
use Rattle.function_merge.specs.Moves.{kept_at, moved_at}
use Rattle.function_merge.proofs.KeptParts.{moved_early, moved_late, kept_nowhere, kept_nothing, IsNextPart, first_part}
use Rattle.function_merge.proofs.FirstPieces.{first_of}
use Rattle.cost_functions.specs.Lines.{line_at}
use Rattle.function_merge.proofs.clearing.shift_over_runs.Goals.{After-min-end, in_default, in-len1-up+in_default-open}
use Rattle.function_merge.proofs.clearing.shift_over_runs.Goals as goal
use Rattle.cost_functions.proofs.Values.{none_after}
use Rattle.std.proofs.lemmas.List.Elements.{All-nil}

pub sweep-init : goal.sweep-init
sweep-init c =
    let m = c.args.minutes in
    let kept = kept_at c.args.pieces.now c.args.runs.now in
    let wanted = moved_at m c.args.cost kept in
    let start = c.first_common-from.result in
    record {
      count = c.arrived_at-arrived.ensures.within;
      arrived = arrived_later c.args.bound c.args.pairs.now c.arrived_at-arrived.result c.saturating_add-begin.result (start + m)
          (omega (arith, c.saturating_add-begin.ensures)) c.arrived_at-arrived.ensures.before;
      pruned =
          subst (λ ps. IsPrunedUpTo c.args.until c.args.pairs.now c.args.bound wanted ps (start + m)) (sym c.again-built.ensures)
          (pruned_skip c.args.until c.args.pairs.now c.args.bound wanted [] 0 (pruned_nothing c.args.until c.args.pairs.now c.args.bound wanted) (start + m)
          (omega arith)
          (λ u from before.
          ⊎_elim
          (λ (early : u < m). moved_early m c.args.cost kept u early)
          (λ (late : m ≤ u). moved_late m c.args.cost kept u (u - m) (omega (arith, late))
          ∙ ap (option_map (λ v. v + c.args.cost)) (c.first_common-from.ensures (u - m) (omega (arith, before, late))))
          (cases_lt u m)));
      pieces = c.pieces_since-left.ensures.pieces;
      runs = c.runs_since-open.ensures.runs;
      values = c.pieces_since-left.ensures.values;
      minutes = c.runs_since-open.ensures.minutes;
    }

-- the minutes at which the first piece and the first run are next
next : (c : After-min-end) → IsNextPart (kept_at c.args.pieces.now c.args.runs.now) c.sweep.from (first_of c.sweep.left.now)
    (get_or c.sweep.open.now 0 (record { lo = 0; hi = 0 }))
next c =
    let inv = c.sweep.invariant in
    first_part c.args.pieces.now c.args.runs.now c.sweep.from c.sweep.left.now c.sweep.open.now c.in-len1-up.len_at_least
    c.in-len1-up-open.len_at_least inv.pieces inv.runs inv.values inv.minutes

-- the last of them has a value
last : (c : After-min-end) → c.max-lo.result < c.min-end.result
    → kept_at c.args.pieces.now c.args.runs.now (c.min-end.result - 1) ≡ Some (line_at (first_of c.sweep.left.now) (c.min-end.result - 1))
last c some = (next c).part (c.min-end.result - 1) (omega (arith, c.max.ensures, c.max-lo.ensures, some)) (omega (arith, c.min-end.ensures, some))

pub add_moved-requires-clause-minutes : goal.add_moved-requires-clause-minutes
add_moved-requires-clause-minutes c = λ some.
    (let fit = c.requires.fit.minutes_fit _ _ (last (goal.at.add_moved-requires-clause-minutes c).After-min-end some) in omega (arith, fit, some))

pub add_moved-requires-clause-small : goal.add_moved-requires-clause-small
add_moved-requires-clause-small c = λ some. c.requires.fit.values_fit _ _ (last (goal.at.add_moved-requires-clause-small c).After-min-end some)

pub sweep-preserved : goal.sweep-preserved
sweep-preserved c =
    let inv = c.sweep.invariant in
    let m = c.args.minutes in
    let kept = kept_at c.args.pieces.now c.args.runs.now in
    let wanted = moved_at m c.args.cost kept in
    let parts = next (goal.at.sweep-preserved c).After-min-end in
    let late : c.sweep.from ≤ c.max-lo.result = omega (arith, c.max.ensures, c.max-lo.ensures) in
    let skipped = pruned_skip c.args.until c.args.pairs.now c.args.bound wanted c.sweep.built (c.sweep.from + m) inv.pruned (c.max-lo.result + m)
    (omega (arith, late))
    (λ u from before.
    (moved_late m c.args.cost kept u (u - m) (omega arith) ∙ ap (option_map (λ v. v + c.args.cost))
    (parts.gap (u - m) (omega arith) (omega (arith, before, c.max.ensures, c.max-lo.ensures))))) in
    record {
      count = c.in_ok-arrived.ensures.within;
      arrived = arrived_later c.args.bound c.args.pairs.now c.in_ok-arrived.arrived (c.max-lo.result + m) (c.max-from.result + m)
          (omega (arith, c.max-from.ensures)) c.in_ok-arrived.ensures.arrived;
      pruned = subst (λ (n : ℕ). IsPrunedUpTo c.args.until c.args.pairs.now c.args.bound wanted c.add_moved.new.built (n + m)) (sym c.max-from.ensures)
          (c.in_ok-arrived.ensures.pruned wanted skipped (λ t from before. (moved_late m c.args.cost kept (t + m) t refl
          ∙ ap (option_map (λ v. v + c.args.cost)) (parts.part t (omega (arith, c.max.ensures, c.max-lo.ensures, from))
          (omega (arith, c.min-end.ensures, before))))));
      pieces = c.pieces_from-left.ensures.pieces;
      runs = c.runs_from-open.ensures.runs;
      values = λ t from. c.pieces_from-left.ensures.values t from ∙ inv.values t (omega (arith, late, c.max-from.ensures, from));
      minutes = λ t from. c.runs_from-open.ensures.minutes t from ∙ inv.minutes t (omega (arith, late, c.max-from.ensures, from));
    }

pub returns-clause-values : goal.returns-clause-values
returns-clause-values c =
    let inv = c.sweep.invariant in
    let m = c.args.minutes in
    let kept = kept_at c.args.pieces.now c.args.runs.now in
    let wanted = moved_at m c.args.cost kept in
    subst (λ ps. IsPruned c.args.until c.args.pairs.now c.args.bound wanted (value_at ps)) (sym c.finish.ensures.same)
    (pruned_whole c.args.until c.args.pairs.now c.args.bound wanted c.sweep.built (c.sweep.from + m) inv.pruned (λ u late.
    (let at = u - m in
    let after : c.sweep.from ≤ at = omega arith in
    moved_late m c.args.cost kept u at (omega arith) ∙ ap (option_map (λ v. v + c.args.cost))
    (elim c.if-left-lt1.branch [
      | in_default w ↦ kept_nothing c.args.pieces.now c.args.runs.now at (sym (inv.values at after)
          ∙ ap (λ xs. value_at xs at) (nil_from_length c.sweep.left.now (omega (arith, w.in_default.len_below))) ∙ none_after [] at (All-nil (λ p. p.hi < at)))
      | in-len1-up+in_default-open w ↦ kept_nowhere c.args.pieces.now c.args.runs.now at (sym (inv.minutes at after)
          ∙ ap (λ xs. any_has xs at) (nil_from_length c.sweep.open.now (omega (arith, w.in_default-open.len_below))))
    ]))))
