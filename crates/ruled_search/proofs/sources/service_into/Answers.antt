use Rattle.std.proofs.Common.{◌≡◌, IsTrue, true, false, sym, ◌∙◌, ap, rules}
use Rattle.std.specs.Option.{option_map}
use Rattle.ruled_states.specs.Inside.Services.{service_at}
use Rattle.ruled_search.proofs.Numbering.{solved_numbered}
use Rattle.ruled_search.proofs.Sourcing.{service_found, service_missed_at}
use Rattle.ruled_search.proofs.sources.service_into.Goals as goal

pub returns-then-service-node-clause-none : goal.returns-then-service-node-clause-none
returns-then-service-node-clause-none g c _ = service_missed_at c.requires.solved c.args.spot c.requires.spot c.requires.upto c.args.place
    (service_at c.in_ok-service.service) (sym c.service.ensures ∙ ap (option_map service_at) c.in_ok-service.was)
    (λ node early begins ends k allowed known. absurd (c.if-service-node.true node))

pub returns-then-not-is_within-clause-none : goal.returns-then-not-is_within-clause-none
returns-then-not-is_within-clause-none g c _ = service_missed_at c.requires.solved c.args.spot c.requires.spot c.requires.upto c.args.place
    (service_at c.in_ok-service.service) (sym c.service.ensures ∙ ap (option_map service_at) c.in_ok-service.was)
    (λ node early begins ends k allowed known.
    let bad : true ≡ false = sym (c.is_within.ensures.1 (early, begins, ends)) ∙ c.if-not-is_within.true in cc)

pub least_into-requires-clause-numbered : goal.least_into-requires-clause-numbered
least_into-requires-clause-numbered g c = solved_numbered c.requires.solved

pub returns-clause-some : goal.returns-clause-some
returns-clause-some g c =
    let free : IsTrue c.is_within.result = search rules in
    let within = c.is_within.ensures.0 free in
    service_found c.requires.solved c.args.spot c.requires.spot c.requires.upto c.args.place (service_at c.in_ok-service.service)
    (sym c.service.ensures ∙ ap (option_map service_at) c.in_ok-service.was) c.if-service-node.false within.0 within.1 within.2
    c.least_into.result c.in_ok-from.from c.in_ok-from.was c.least_into.ensures
