-- The ends of the arc of a drive.
use Rattle.std.proofs.Common.{◌≡◌, ℕ, Some, sym, ◌∙◌, ap}
use Rattle.std.specs.Option.{option_map}
use Rattle.route_base.specs.Setting.{Road}
use Rattle.route_base.specs.Itinerary.{Position, Drives}
use Rattle.route_base.specs.Net.{Net, road_of, setting_of, at_number}
use Rattle.route_base.specs.declared.types.TimedArc.{TimedArc}
use Rattle.route_base.proofs.Logic.{map_some}
use Rattle.node_arcs.specs.Stars.{EndsAt, node_at}
use Rattle.node_arcs.specs.declared.links.End.TheVariants.{Tail, Head}

module _ (net : Net) (until a : ℕ) (p q : Position) (drives : Drives (setting_of net) until a p q) where
  arc : (arc : TimedArc) × (at_number net.arcs a ≡ Some arc) × (road_of arc ≡ drives.road)
  arc = map_some (at_number net.arcs a) road_of drives.road drives.is

  -- a drive begins at its arc's tail
  pub drives_tail : EndsAt net Tail p.node a
  drives_tail = ap (option_map (node_at Tail)) arc.1 ∙ ap (λ n. Some n) (ap (λ (r : Road). r.tail) arc.2 ∙ drives.tail)

  -- a drive ends at its arc's head
  pub drives_head : EndsAt net Head q.node a
  drives_head = ap (option_map (node_at Head)) arc.1 ∙ ap (λ n. Some n) (ap (λ (r : Road). r.head) arc.2 ∙ sym drives.node)
