use Rattle.std.proofs.Common.{take}
use Rattle.route_base.specs.Replay.{LeadTo}
use Rattle.network_tables.specs.RoadSetting.{road_setting}
use Rattle.trip_explain.specs.Inside.{IsSpot, position_of}
use Rattle.trip_explain.proofs.trips.explain.Given as goal

abbrev pub invariant-loop-i : goal.invariant-loop-i
invariant-loop-i l = record {
  led : LeadTo (road_setting l.network l.vehicle) l.request (take l.i l.legs) (position_of l.at);
  spot : IsSpot l.network l.request.until l.at;
}
