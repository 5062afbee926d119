use Rattle.std.proofs.Common.{ap, sym, ◌∙◌, arith}
use Rattle.std.specs.Option.{option_map}
use Rattle.ruled_states.specs.Inside.Services.{service_at}
use Rattle.ruled_search.proofs.Starting.{no_service_starts, service_starts}
use Rattle.ruled_search.proofs.moves.served_run.Goals as goal

pub returns-in_default-clause-run : goal.returns-in_default-clause-run
returns-in_default-clause-run g c = no_service_starts g.R.Ruler.ruling c.args.task c.args.way c.requires.way c.args.place c.requires.place
    (sym c.service.ensures ∙ ap (option_map service_at) c.in_default.is)

pub returns-clause-run : goal.returns-clause-run
returns-clause-run g c = service_starts g.R.Ruler.ruling c.args.task c.args.way c.requires.way c.args.place c.requires.place
    (service_at c.in-Some.service) c.min-to.result _ (sym c.service.ensures ∙ ap (option_map service_at) c.in-Some.is)
    (omega (arith, c.min-to.ensures)) (omega (arith, c.min-to.ensures)) (λ t low high. omega (arith, c.min-to.ensures, low, high))
    c.window_starts.ensures.each
