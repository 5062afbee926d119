use Rattle.std.proofs.Common.{take}
use Rattle.route_base.specs.Net.{setting_of}
use Rattle.route_base.specs.Replay.{LeadTo, IsSpot, position_of}
use Rattle.route_base.proofs.itinerary.replay.Given as goal

abbrev pub invariant-loop-i : goal.invariant-loop-i
invariant-loop-i l = record {
  led : LeadTo (setting_of l.net) l.request (take l.i l.legs) (position_of l.at);
  spot : IsSpot l.net l.at;
}
