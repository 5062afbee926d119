use Rattle.std.proofs.Common.{Some, None, refl, sym, ◌∙◌}
use Rattle.road_access.proofs.RulingAccess.{let_in_by}
use Rattle.trip_explain.proofs.closed_minutes.let_in_from.Goals as goal

pub returns-in_default-clause-let_in : goal.returns-in_default-clause-let_in
returns-in_default-clause-let_in c =
    let_in_by c.args.network.now c.args.vehicle.now c.args.a.0 c.args.t None (sym c.arc_ruling-steady.ensures.ruling ∙ c.in_default.is)

pub returns-then-lets_in-clause-let_in : goal.returns-then-lets_in-clause-let_in
returns-then-lets_in-clause-let_in c =
    let_in_by c.args.network.now c.args.vehicle.now c.args.a.0 c.args.t (Some c.in-Some.ruling)
    (sym c.arc_ruling-steady.ensures.ruling ∙ c.in-Some.is)
    ∙ sym c.lets_in.ensures ∙ c.if-lets_in.true

pub returns-clause-barred : goal.returns-clause-barred
returns-clause-barred c =
    let given = sym c.arc_ruling-steady.ensures.ruling ∙ c.in-Some.is in
    record {
      ruling = c.in-Some.ruling;
      barred = let_in_by c.args.network.now c.args.vehicle.now c.args.a.0 c.args.t (Some c.in-Some.ruling) given
          ∙ sym c.lets_in.ensures ∙ c.if-lets_in.false;
      given = given;
      is = refl;
    }
