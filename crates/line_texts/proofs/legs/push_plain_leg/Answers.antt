use Rattle.std.proofs.Common.{subst, sym}
use Rattle.std.specs.Prelude.{Result, Ok, Err, OnErr}
use Rattle.route_base.specs.declared.types.Leg.{Leg}
use Rattle.line_texts.specs.Begun.{IsBegun}
use Rattle.line_texts.specs.Legs.{plain_leg_text}
use Rattle.line_texts.proofs.Beginnings.{begun-longer}
use Rattle.line_texts.proofs.legs.push_plain_leg.Goals as goal

on_err : {T E P : Type 0} (r : Result T E) → P → OnErr r P
on_err (Ok x) p = tt
on_err (Err e) p = p

pub returns-in_err-push_field-in-Drive-clause-begun : goal.returns-in_err-push_field-in-Drive-clause-begun
returns-in_err-push_field-in-Drive-clause-begun c =
    on_err _ (subst (λ (w : Leg). IsBegun c.args.out.now.items (plain_leg_text w) c.push_field.new.out.items) (sym c.in-Drive.is)
    (begun-longer _ _ _ _ c.in_err-push_field-in-Drive.ensures.begun))

pub returns-in_err-push_field-in-Wait-clause-begun : goal.returns-in_err-push_field-in-Wait-clause-begun
returns-in_err-push_field-in-Wait-clause-begun c =
    on_err _ (subst (λ (w : Leg). IsBegun c.args.out.now.items (plain_leg_text w) c.push_field-in-Wait.new.out.items) (sym c.in-Wait.is)
    (begun-longer _ _ _ _ c.in_err-push_field-in-Wait.ensures.begun))
