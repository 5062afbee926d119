use Rattle.std.proofs.Common.{◌-◌, sym, ◌∙◌, ap, subst, arith}
use Rattle.cost_functions.specs.Building.{AreBuilt}
use Rattle.cost_functions.specs.Pieces.{AreSmallPieces}
use Rattle.function_merge.specs.Least.{better_part_at}
use Rattle.propagation.proofs.Lowering.{value_is}
use Rattle.ruled_states.proofs.Cutting.{cut_better}
use Rattle.ruled_states.proofs.dominance.cut_by.Goals as goal

pub better_part-requires-clause-first_small : goal.better_part-requires-clause-first_small
better_part-requires-clause-first_small g c =
    let f = c.index-functions-place.result in
    let built = subst AreBuilt (sym c.index-functions-place.is) (c.requires.built (c.args.place.number - 1) f (omega (arith, c.requires.low, c.requires.high))) in
    subst AreSmallPieces (sym c.pieces.ensures.items) built.small

pub returns-clause-values : goal.returns-clause-values
returns-clause-values g c =
    let f = c.index-functions-place.result in
    cut_better (g.R.Ruler.ruling c.args.ruler.now) c.args.functions.now c.args.state c.args.place f c.args.costs c.in_ok-left.left
    (λ t. value_is c.args.functions.now c.args.place.number f c.requires.low c.requires.high c.index-functions-place.is t)
    (λ t. c.in_ok-left.ensures.values t ∙ ap (λ ps. better_part_at ps c.pieces-2.result.now t) c.pieces.ensures.items
    ∙ ap (λ ps. better_part_at f ps t) c.pieces-2.ensures.items)
    c.if-place-state.false
    (sym c.is_no_worse.ensures ∙ c.if-not-is_no_worse.false)
