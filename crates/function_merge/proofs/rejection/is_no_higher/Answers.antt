use Rattle.std.proofs.Common.{◌≡◌, ◌+◌, ◌-◌, ◌≤◌, ap, ◌∙◌, arith, rules}
use Rattle.cost_functions.specs.Lines.{line_at}
use Rattle.function_merge.proofs.Rejecting.{flat_no_higher, steep_no_higher}
use Rattle.function_merge.proofs.rejection.is_no_higher.Goals as goal

pub returns-then-own-piece-clause-low : goal.returns-then-own-piece-clause-low
returns-then-own-piece-clause-low c = λ _ t later upto within.
    flat_no_higher c.args.own c.args.piece c.args.from c.args.minutes c.args.cost t c.if-from-minutes.false c.requires.from later
    (omega (arith, c.value.ensures, c.value-2.ensures, c.if-value-cost.false)) c.if-own-piece.true

pub returns-clause-low : goal.returns-clause-low
returns-clause-low c = λ fine t later upto within.
    steep_no_higher c.args.own c.args.piece c.args.from c.args.minutes c.args.cost t c.if-from-minutes.false c.requires.from later
    c.min-last.result (omega (arith, c.min-last.ensures, upto, within))
    (let low : c.value-3.result ≤ c.value-4.result + c.args.cost = search rules in omega (arith, c.value-3.ensures, c.value-4.ensures, low))
    (omega (arith, c.if-own-piece.false))
