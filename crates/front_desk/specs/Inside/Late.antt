-- Requests for latest departures over a net (source: own).
use Rattle.std.specs.Prelude.{◌-◌, ◌≤◌, ◌<◌, length}
use Rattle.route_base.specs.Net.{Net, IsGoodRequest}
use Rattle.route_base.specs.declared.limits.TheConstants.{LONGEST_HORIZON, MOST_NODES, MOST_ARCS}
use Rattle.route_base.specs.declared.types.Request.{Request}
use Rattle.front_transport.specs.CheapArcs.{HasCheapArcs}

-- the latest departures of the request can be searched for over the net
pub record IsLateRequest (net : Net) (request : Request) : Type 0 where
  pub good : IsGoodRequest net request
  pub in_time : request.depart ≤ request.until
  pub horizon : request.until - request.depart < LONGEST_HORIZON
  pub cheap : HasCheapArcs net
  pub nodes : net.nodes ≤ MOST_NODES
  pub arcs : length net.arcs ≤ MOST_ARCS
