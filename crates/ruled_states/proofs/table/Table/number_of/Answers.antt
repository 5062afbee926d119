use Rattle.std.proofs.Common.{◌∙◌, ap, arith}
use Rattle.ruled_states.specs.declared.table.Place.{Place}
use Rattle.ruled_states.proofs.table.Table.number_of.Goals as goal

pub returns-clause-none : goal.returns-clause-none
returns-clause-none c = λ gone n is.
    let p = c.places-place-items.ensures.full c.args.state n is in
    let over = c.loop-place-test.false in
    c.loop-place.invariant p.1.0 p.0 (omega (arith, p.1.1, over)) (ap (λ (w : Place). w.state) p.1.2 ∙ p.2)
