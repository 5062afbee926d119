use Rattle.road_access.proofs.ShownWalls.{shown_in_area}
use Rattle.trip_explain.proofs.closed_minutes.wall_of.Goals as goal

pub returns-clause-value : goal.returns-clause-value
returns-clause-value c =
    shown_in_area c.args.network.now c.args.a.0 c.args.t c.area_of.result c.zone_of.result.now c.wall.result
    c.area_of.ensures.value c.zone_of.ensures c.wall.ensures.value
