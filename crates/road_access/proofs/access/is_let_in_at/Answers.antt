use Rattle.std.proofs.Common.{Some, None, sym, ◌∙◌}
use Rattle.road_access.proofs.RulingAccess.{let_in_by}
use Rattle.road_access.proofs.access.is_let_in_at.Goals as goal

pub returns-in-Some : goal.returns-in-Some
returns-in-Some c =
    c.lets_in.ensures
    ∙ sym (let_in_by c.args.network.now c.args.vehicle.now c.args.a.0 c.args.t (Some c.in-Some.ruling) (sym c.arc_ruling.ensures.ruling ∙ c.in-Some.is))

pub returns-in-None : goal.returns-in-None
returns-in-None c =
    sym (let_in_by c.args.network.now c.args.vehicle.now c.args.a.0 c.args.t None (sym c.arc_ruling.ensures.ruling ∙ c.in-None.is))
