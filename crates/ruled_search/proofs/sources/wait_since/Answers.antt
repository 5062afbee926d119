use Rattle.std.proofs.Common.{IsTrue, Option, refl, sym, ◌∙◌, ap, subst, arith, rules}
use Rattle.std.specs.Prelude.{IsNone}
use Rattle.std.specs.Option.{option_map}
use Rattle.route_base.specs.declared.types.Park.{Park}
use Rattle.ruled_search.specs.declared.sources.Spot.{Spot}
use Rattle.ruled_search.proofs.Numbering.{solved_numbered}
use Rattle.ruled_search.proofs.Sourcing.{wait_found, wait_missed_at}
use Rattle.ruled_search.proofs.sources.wait_since.Goals as goal

pub spot_at-requires : goal.spot_at-requires
spot_at-requires g c = record { numbered = solved_numbered c.requires.solved }

pub returns-in_err-from-clause-none : goal.returns-in_err-from-clause-none
returns-in_err-from-clause-none g c _ next = wait_missed_at c.requires.solved c.args.spot c.requires.spot c.requires.upto c.args.since
    c.in_ok-park.park.weight next (ap (option_map (λ (w : Park). w.weight)) (sym c.park.ensures.value ∙ c.in_ok-park.was))
    (λ known. c.spot_at.ensures.none (subst (λ (o : Option Spot). IsNone o) (sym c.in_err-from.was) refl) c.args.spot.info c.requires.spot known)

pub returns-clause-some : goal.returns-clause-some
returns-clause-some g c =
    let free : IsTrue c.is_wait_open.result = search rules in
    wait_found c.requires.solved c.args.spot c.requires.spot c.requires.upto c.args.since c.in_ok-park.park.weight _
    (omega (arith, c.if-since-spot.false)) (ap (option_map (λ (w : Park). w.weight)) (sym c.park.ensures.value ∙ c.in_ok-park.was))
    (c.is_wait_open.ensures.0 free) refl (omega (arith, c.if-paid-spot.false)) c.in_ok-from.from c.in_ok-from.ensures.some
