-- The parts of nets: arcs of roads, parks behind options, and nets by their parts.
use Rattle.std.proofs.Common.{◌≡◌, Option, Some, ℕ, List}
use Rattle.route_base.specs.Setting.{Road}
use Rattle.route_base.specs.Net.{Net, IsGoodArc, IsGoodNet, at_number, road_of, setting_of}
use Rattle.route_base.specs.declared.types.TimedArc.{TimedArc}
use Rattle.route_base.specs.declared.types.Park.{Park}
use Rattle.route_base.specs.declared.types.Run.{Run}
use Rattle.route_base.proofs.Arcs.{good_arc}
use Rattle.route_base.proofs.Logic.{map_some}

-- the net of these parts
unfoldable pub net_of : ℕ → List TimedArc → List (List Run) → List (Option Park) → Net
net_of nodes arcs closed parks = record { nodes = nodes; arcs = arcs; closed = closed; parks = parks }

-- the arc of a road
pub road_arc : (net : Net) → IsGoodNet net → (a : ℕ) (road : Road) → (setting_of net).road a ≡ Some road
    → (arc : TimedArc) × (at_number net.arcs a ≡ Some arc) × (road_of arc ≡ road) × IsGoodArc net arc
road_arc net good a road is =
    let found = map_some (at_number net.arcs a) road_of road is in
    (found.0, found.1, found.2, good_arc net good a found.0 found.1)
