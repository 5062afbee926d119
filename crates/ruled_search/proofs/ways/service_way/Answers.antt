use Rattle.std.proofs.Common.{sym, ◌∙◌, ap, arith}
use Rattle.std.specs.Option.{option_map}
use Rattle.ruled_states.specs.Inside.Services.{service_at}
use Rattle.ruled_search.proofs.Making.{barred_no_service, barred_elsewhere, barred_long_service, barred_service, barred_service_end, service_made}
use Rattle.ruled_search.proofs.ways.service_way.Goals as goal

pub returns-in_err-service-clause-barred : goal.returns-in_err-service-clause-barred
returns-in_err-service-clause-barred g c = λ none. barred_no_service g.R.Ruler.ruling c.args.task c.args.node c.args.state
    (omega (arith, c.requires.high, c.requires.asked.good.nodes)) c.args.place c.ranges.place.fits
    (sym c.service.ensures ∙ ap (option_map service_at) c.in_err-service.was)

pub returns-then-service-node-clause-barred : goal.returns-then-service-node-clause-barred
returns-then-service-node-clause-barred g c = λ none.
    let is = sym c.service.ensures ∙ ap (option_map service_at) c.in_ok-service.was in
    let small = c.requires.asked.numbers.services c.args.place (service_at c.in_ok-service.service) is in
    barred_elsewhere g.R.Ruler.ruling c.args.task c.args.node c.args.state
    (omega (arith, c.requires.high, c.requires.asked.good.nodes)) c.args.place small.0 (service_at c.in_ok-service.service) is small.1
    (λ same. c.if-service-node.true same)

pub returns-then-service-task-clause-barred : goal.returns-then-service-task-clause-barred
returns-then-service-task-clause-barred g c = λ none.
    let is = sym c.service.ensures ∙ ap (option_map service_at) c.in_ok-service.was in
    let small = c.requires.asked.numbers.services c.args.place (service_at c.in_ok-service.service) is in
    barred_long_service g.R.Ruler.ruling c.args.task c.args.node c.args.state
    (omega (arith, c.requires.high, c.requires.asked.good.nodes)) c.args.place small.0 (service_at c.in_ok-service.service) is
    c.if-service-node.false c.if-service-task.true

pub returns-in_err-after-clause-barred : goal.returns-in_err-after-clause-barred
returns-in_err-after-clause-barred g c = λ none.
    let is = sym c.service.ensures ∙ ap (option_map service_at) c.in_ok-service.was in
    let small = c.requires.asked.numbers.services c.args.place (service_at c.in_ok-service.service) is in
    barred_service g.R.Ruler.ruling c.args.task c.args.node c.args.state
    (omega (arith, c.requires.high, c.requires.asked.good.nodes)) c.args.place small.0 (service_at c.in_ok-service.service) is
    (sym c.serve.ensures ∙ c.in_err-after.was)

pub returns-in_err-bound-clause-barred : goal.returns-in_err-bound-clause-barred
returns-in_err-bound-clause-barred g c = λ none.
    let is = sym c.service.ensures ∙ ap (option_map service_at) c.in_ok-service.was in
    let small = c.requires.asked.numbers.services c.args.place (service_at c.in_ok-service.service) is in
    barred_service_end g.R.Ruler.ruling c.args.task c.args.node c.args.state
    (omega (arith, c.requires.high, c.requires.asked.good.nodes)) c.args.place small.0 (service_at c.in_ok-service.service) is
    c.if-service-node.false c.in_ok-after.after (sym c.serve.ensures ∙ c.in_ok-after.was) (sym c.bound_at.ensures ∙ c.in_err-bound.was)

pub returns-clause-way : goal.returns-clause-way
returns-clause-way g c =
    let is = sym c.service.ensures ∙ ap (option_map service_at) c.in_ok-service.was in
    let small = c.requires.asked.numbers.services c.args.place (service_at c.in_ok-service.service) is in
    service_made g.R.Ruler.ruling c.args.task c.args.node c.args.state
    (omega (arith, c.requires.high, c.requires.asked.good.nodes)) c.args.place small.0 (service_at c.in_ok-service.service) is
    c.if-service-node.false c.in_ok-after.after (sym c.serve.ensures ∙ c.in_ok-after.was) c.requires.asked c.requires.low c.requires.high
    c.if-service-task.false c.in_ok-bound.bound (sym c.bound_at.ensures ∙ c.in_ok-bound.was)
