use Rattle.std.proofs.Common.{sym, ◌∙◌, ap, arith}
use Rattle.std.proofs.lemmas.Nat.{mul-le}
use Rattle.route_base.specs.declared.limits.TheConstants.{HEAVIEST_WEIGHT, LAST_INSTANT}
use Rattle.ruled_search.specs.Inside.Tasks.{state_bound}
use Rattle.ruled_search.proofs.Making.{barred_long_rest, barred_dear_rest, barred_rest_end, rest_way_made}
use Rattle.ruled_search.proofs.ways.rest_way.Goals as goal

pub returns-then-rest-task-clause-barred : goal.returns-then-rest-task-clause-barred
returns-then-rest-task-clause-barred g c = λ none. barred_long_rest g.R.Ruler.ruling c.args.task c.args.node c.args.state
    (omega (arith, c.requires.high, c.requires.asked.good.nodes)) c.args.place (c.requires.asked.numbers.rests c.args.place c.args.rest c.requires.rest)
    c.args.rest c.requires.rest c.args.park c.requires.park c.if-rest-task.true

pub returns-then-cost-gt-HIGHEST_COST-clause-barred : goal.returns-then-cost-gt-HIGHEST_COST-clause-barred
returns-then-cost-gt-HIGHEST_COST-clause-barred g c = λ none. barred_dear_rest g.R.Ruler.ruling c.args.task c.args.node c.args.state
    (omega (arith, c.requires.high, c.requires.asked.good.nodes)) c.args.place (c.requires.asked.numbers.rests c.args.place c.args.rest c.requires.rest)
    c.args.rest c.requires.rest c.args.park c.requires.park c.requires.asked (omega (arith, c.if-cost-gt-HIGHEST_COST.true))

pub returns-in_err-bound-clause-barred : goal.returns-in_err-bound-clause-barred
returns-in_err-bound-clause-barred g c = λ none. barred_rest_end g.R.Ruler.ruling c.args.task c.args.node c.args.state
    (omega (arith, c.requires.high, c.requires.asked.good.nodes)) c.args.place (c.requires.asked.numbers.rests c.args.place c.args.rest c.requires.rest)
    c.args.rest c.requires.rest c.args.park c.requires.park
    (ap (state_bound (g.R.Ruler.ruling c.args.task.ruler.now) c.args.task.bounds.now c.args.node.0) (sym c.rest-after.ensures)
    ∙ sym c.bound_at.ensures ∙ c.in_err-bound.was)

pub returns-clause-way : goal.returns-clause-way
returns-clause-way g c = rest_way_made g.R.Ruler.ruling c.args.task c.args.node c.args.state
    (omega (arith, c.requires.high, c.requires.asked.good.nodes)) c.args.place (c.requires.asked.numbers.rests c.args.place c.args.rest c.requires.rest)
    c.args.rest c.requires.rest c.args.park c.requires.park c.requires.asked c.requires.low c.requires.high c.if-rest-task.false
    (omega (arith, c.if-cost-gt-HIGHEST_COST.false)) c.rest-after.result c.rest-after.ensures c.in_ok-bound.bound (sym c.bound_at.ensures ∙ c.in_ok-bound.was)

pub overflow_mul-cost : goal.overflow_mul-cost
overflow_mul-cost g c =
    let small = mul-le c.args.rest c.args.park.weight LAST_INSTANT HEAVIEST_WEIGHT
    (omega (arith, c.if-rest-task.false, c.requires.asked.ends.until)) c.requires.good.weight in
    omega (arith, small)
