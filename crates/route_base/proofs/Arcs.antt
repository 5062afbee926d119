-- What is known of the arcs of a well-formed net, and of the roads that they are.
use Rattle.std.proofs.Common.{◌≡◌, ℕ, ◌≤◌, Option, Some, sym, ◌∙◌, ap, arith}
use Rattle.std.specs.Option.{option_map}
use Rattle.std.proofs.lemmas.Option.{same_Some}
use Rattle.route_base.specs.Setting.{Setting, Road}
use Rattle.route_base.specs.Net.{Net, IsGoodNet, IsGoodArc, road_of, at_number, setting_of}
use Rattle.route_base.specs.declared.types.TimedArc.{TimedArc}
use Rattle.route_base.proofs.Logic.{map_some}
use Rattle.route_base.proofs.Numbered.{at_number-all}

-- each road takes time
abbrev pub TakesTime : Setting → Type 0
TakesTime s = (a : ℕ) (road : Road) → s.road a ≡ Some road → 1 ≤ road.minutes

-- the road of an arc is that of its number
pub road_is : (o : Option TimedArc) (arc : TimedArc) (road : Road) → o ≡ Some arc → option_map road_of o ≡ Some road → road_of arc ≡ road
road_is o arc road is by = same_Some (road_of arc) road (sym (ap (option_map road_of) is) ∙ by)

module _ (net : Net) (good : IsGoodNet net) where
  pub good_arc : (a : ℕ) (arc : TimedArc) → at_number net.arcs a ≡ Some arc → IsGoodArc net arc
  good_arc a arc is = at_number-all (IsGoodArc net) net.arcs a arc good.each_arc is

  pub takes_time : TakesTime (setting_of net)
  takes_time a road is =
      let arc = map_some (at_number net.arcs a) road_of road is in
      omega (arith, (good_arc a arc.0 arc.1).minutes, ap (λ (w : Road). w.minutes) arc.2)
