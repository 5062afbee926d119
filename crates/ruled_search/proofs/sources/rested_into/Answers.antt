use Rattle.std.proofs.Common.{◌≡◌, IsTrue, Option, ℕ, Some, None, true, false, refl, sym, ◌∙◌, ap, subst, arith, rules}
use Rattle.std.specs.Prelude.{IsNone}
use Rattle.std.specs.Option.{option_map}
use Rattle.route_base.specs.declared.types.Park.{Park}
use Rattle.ruled_search.specs.declared.sources.Spot.{Spot}
use Rattle.ruled_search.proofs.Numbering.{solved_numbered}
use Rattle.ruled_search.proofs.Sourcing.{rest_found, rest_missed, rest_missed_at}
use Rattle.ruled_search.proofs.sources.rested_into.Goals as goal

pub returns-in_err-park-clause-none : goal.returns-in_err-park-clause-none
returns-in_err-park-clause-none g c _ = rest_missed c.requires.solved c.args.spot c.requires.spot c.requires.upto c.args.place
    (λ rest weight is rated early cheap opens k after known.
    let bad : ◌≡◌ {A = Option ℕ} None (Some weight) = ap (option_map (λ (w : Park). w.weight)) (sym (sym c.park.ensures.value ∙ c.in_err-park.was)) ∙ rated in cc)

pub returns-then-paid-spot-clause-none : goal.returns-then-paid-spot-clause-none
returns-then-paid-spot-clause-none g c _ = rest_missed_at c.requires.solved c.args.spot c.requires.spot c.requires.upto c.args.place c.args.rest
    c.in_ok-park.park.weight c.requires.rest (ap (option_map (λ (w : Park). w.weight)) (sym c.park.ensures.value ∙ c.in_ok-park.was))
    (λ early cheap opens k after known. omega (arith, cheap, c.if-paid-spot.true))

pub returns-then-not-is_wait_open-clause-none : goal.returns-then-not-is_wait_open-clause-none
returns-then-not-is_wait_open-clause-none g c _ = rest_missed_at c.requires.solved c.args.spot c.requires.spot c.requires.upto c.args.place c.args.rest
    c.in_ok-park.park.weight c.requires.rest (ap (option_map (λ (w : Park). w.weight)) (sym c.park.ensures.value ∙ c.in_ok-park.was))
    (λ early cheap opens k after known. let bad : true ≡ false = sym (c.is_wait_open.ensures.1 opens) ∙ c.if-not-is_wait_open.true in cc)

pub least_into-requires-clause-numbered : goal.least_into-requires-clause-numbered
least_into-requires-clause-numbered g c = solved_numbered c.requires.solved

pub returns-in_err-from-clause-none : goal.returns-in_err-from-clause-none
returns-in_err-from-clause-none g c _ = rest_missed_at c.requires.solved c.args.spot c.requires.spot c.requires.upto c.args.place c.args.rest
    c.in_ok-park.park.weight c.requires.rest (ap (option_map (λ (w : Park). w.weight)) (sym c.park.ensures.value ∙ c.in_ok-park.was))
    (λ early cheap opens k after known. c.least_into.ensures.none (subst (λ (o : Option Spot). IsNone o) (sym c.in_err-from.was) refl) k after known)

pub returns-clause-some : goal.returns-clause-some
returns-clause-some g c =
    let free : IsTrue c.is_wait_open.result = search rules in
    rest_found c.requires.solved c.args.spot c.requires.spot c.requires.upto c.args.place c.args.rest
    c.in_ok-park.park.weight c.requires.rest (ap (option_map (λ (w : Park). w.weight)) (sym c.park.ensures.value ∙ c.in_ok-park.was))
    (omega (arith, c.if-rest-spot.false)) (omega (arith, c.if-paid-spot.false)) (c.is_wait_open.ensures.0 free)
    c.least_into.result c.in_ok-from.from c.in_ok-from.was c.least_into.ensures
