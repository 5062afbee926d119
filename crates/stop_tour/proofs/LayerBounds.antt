-- The bounds of layers hold along each arc of the layered net.
use Rattle.std.proofs.Common.{◌≡◌, ⊎_elim, ℕ, zero, suc, ◌+◌, ◌-◌, ◌*◌, ◌≤◌, ◌<◌, Option, Some, None, List, [], ◌∷◌, length, flat_map, All}
use Rattle.std.proofs.Common.{refl, sym, ◌∙◌, ap, subst, arith, length-append}
use Rattle.std.specs.Option.{option_map, option_and_then, option_flatten}
use Rattle.std.proofs.lemmas.Bool.{cases_eq}
use Rattle.std.proofs.lemmas.Option.{same_Some}
use Rattle.route_base.specs.Setting.{Road}
use Rattle.route_base.specs.Net.{Net, at_number, road_of, setting_of, IsGoodNet}
use Rattle.route_base.specs.Relaxing.{AreBounds, IsBoundThrough}
use Rattle.route_base.specs.declared.types.Bound.{Bound}
use Rattle.route_base.specs.declared.types.TimedArc.{TimedArc}
use Rattle.route_base.proofs.Arcs.{good_arc}
use Rattle.route_base.proofs.Logic.{map_some, then_some}
use Rattle.route_base.proofs.Numbered.{at_number-all, number_within}
use Rattle.front_transport.proofs.Places.{at_left, at_right, at_last}
use Rattle.potentials.specs.Sums.{AreBoundsTo, bound_at}
use Rattle.stop_tour.specs.Inside.LayerBounds.{sum_of, zero_bound, bound_of_service, bound_in, ahead_of, bounds_of, bound_over, AreLayers, AreTourBounds}
use Rattle.stop_tour.specs.Inside.Layers.{service, tour_net}
use Rattle.stop_tour.specs.Tours.{IsGoodStop}
use Rattle.stop_tour.specs.declared.layer_bounds.LayerBounds.{LayerBounds}
use Rattle.stop_tour.specs.declared.stops.Stop.{Stop}
use Rattle.stop_tour.proofs.LayerPlaces.{IsInLayer}
use Rattle.stop_tour.proofs.Layered.{arc_kinds}

-- along an arc of a layer
through_layer : (road : Road) (far near rest : Bound) → IsBoundThrough road far near → IsBoundThrough road (sum_of far rest) (sum_of near rest)
through_layer road far near rest through = record { minutes = omega (arith, through.minutes); cost = omega (arith, through.cost) }

-- along a service
through_service : (road : Road) (stop : Stop) (next : Bound) → road.minutes ≡ stop.service
    → IsBoundThrough road next (sum_of zero_bound (sum_of (bound_of_service stop) next))
through_service road stop next minutes = record { minutes = omega (arith, minutes); cost = omega arith }

long : (layer : LayerBounds) (nodes : ℕ) → length (bounds_of layer nodes) ≡ nodes
long layer zero = refl
long layer (suc k) = omega (arith, length-append (bounds_of layer k) (bound_in layer (k + 1) ∷ []), long layer k)

-- the bound of a node at its place
at_place : (layer : LayerBounds) (nodes v : ℕ) → 1 ≤ v → v ≤ nodes → at_number (bounds_of layer nodes) v ≡ Some (bound_in layer v)
at_place layer zero v low high = absurd (omega (arith, low, high))
at_place layer (suc k) v low high = ⊎_elim
    (λ (last : v ≡ k + 1).
    (let place : v ≡ length (bounds_of layer k) + 1 = omega (arith, last, long layer k) in
    ap (at_number (bounds_of layer (suc k))) place ∙ at_last (bounds_of layer k) (bound_in layer (k + 1))
    ∙ ap (λ (n : ℕ). Some (bound_in layer n)) (sym last)))
    (λ (other : v ≡ k + 1 → ⊥). at_left (bounds_of layer k) (bound_in layer (k + 1) ∷ []) v (bound_in layer v)
    (at_place layer k v low (omega (arith, high, other))))
    (cases_eq v (k + 1))

module _ (nodes : ℕ) where
  abbrev all_of : List LayerBounds → List (Option Bound)
  all_of layers = flat_map (λ layer. bounds_of layer nodes) layers

  long_all : (layers : List LayerBounds) → length (all_of layers) ≡ length layers * nodes
  long_all [] = omega arith
  long_all (layer ∷ layers) = omega (arith, length-append (bounds_of layer nodes) (all_of layers), long layer nodes, long_all layers)

  at_places : (layers : List LayerBounds) (j v : ℕ) → 1 ≤ v → v ≤ nodes → j < length layers
      → at_number (all_of layers) (j * nodes + v) ≡ Some (bound_over layers j v)
  at_places [] j v low high below = absurd (omega (arith, below))
  at_places (layer ∷ layers) zero v low high below =
      let place : zero * nodes + v ≡ v = omega arith in
      ap (at_number (all_of (layer ∷ layers))) place
      ∙ at_left (bounds_of layer nodes) (all_of layers) v (bound_in layer v) (at_place layer nodes v low high)
  at_places (layer ∷ layers) (suc j) v low high below =
      let place : suc j * nodes + v ≡ length (bounds_of layer nodes) + (j * nodes + v) = omega (arith, long layer nodes) in
      ap (at_number (all_of (layer ∷ layers))) place
      ∙ at_right (bounds_of layer nodes) (all_of layers) (j * nodes + v) (bound_over layers j v)
      (at_places layers j v low high (omega (arith, below)))

module _ (net : Net) (goal : ℕ) where
  HasBound : Road → Option Bound → Bound → Type 0
  HasBound road near h = (b : Bound) × (near ≡ Some b) × IsBoundThrough road h b

  as_many : (stops : List Stop) (layers : List LayerBounds) → AreLayers net goal stops layers → length layers ≡ suc (length stops)
  as_many [] [] are = absurd are
  as_many [] (layer ∷ layers) are = ap (λ (w : List LayerBounds). suc (length w)) are.0
  as_many (stop ∷ stops) [] are = absurd are
  as_many (stop ∷ stops) (layer ∷ layers) are = ap suc (as_many stops layers are.1)

  -- the bounds of a layer hold along its arcs
  in_layer : (target : ℕ) (layer : LayerBounds) → AreBoundsTo net target layer.roads → (a : ℕ) (road : Road) (h : Bound)
      → (setting_of net).road a ≡ Some road → bound_in layer road.head ≡ Some h → HasBound road (bound_in layer road.tail) h
  unfolding HasBound
  in_layer target layer least a road h is there =
      let far = then_some (bound_at layer.roads road.head) (λ near. option_map (sum_of near) layer.ahead) h there in
      let rest = map_some layer.ahead (sum_of far.0) h far.2 in
      let near = least.bounds.each a road far.0 is far.1 in (
        sum_of near.0 rest.0,
        ap (option_and_then (λ (b : Bound). option_map (sum_of b) layer.ahead)) near.1 ∙ ap (option_map (sum_of near.0)) rest.1,
        subst (λ (w : Bound). IsBoundThrough road w (sum_of near.0 rest.0)) rest.2 (through_layer road far.0 near.0 rest.0 near.2),
      )

  along_layers : (stops : List Stop) (layers : List LayerBounds) → AreLayers net goal stops layers → (j a : ℕ) (road : Road) (h : Bound)
      → (setting_of net).road a ≡ Some road → bound_over layers j road.head ≡ Some h → HasBound road (bound_over layers j road.tail) h
  along_layers [] [] are j a road h is there = absurd are
  along_layers [] (layer ∷ layers) are zero a road h is there = in_layer goal layer are.1.roads a road h is there
  along_layers [] (layer ∷ layers) are (suc j) a road h is there =
      let none : None ≡ Some h = sym (ap (λ (w : List LayerBounds). bound_over w j road.head) are.0) ∙ there in absurd (cc)
  along_layers (stop ∷ stops) [] are j a road h is there = absurd are
  along_layers (stop ∷ stops) (layer ∷ layers) are zero a road h is there = in_layer stop.node.0 layer are.0.roads a road h is there
  along_layers (stop ∷ stops) (layer ∷ layers) are (suc j) a road h is there = along_layers stops layers are.1 j a road h is there

  -- at its stop a layer has the bound of the service, and on from there
  at_stop : (stops : List Stop) (layers : List LayerBounds) → AreLayers net goal stops layers → (j : ℕ) (stop : Stop) (h : Bound)
      → at_number stops (suc j) ≡ Some stop → bound_over layers (suc j) stop.node.0 ≡ Some h
      → bound_over layers j stop.node.0 ≡ Some (sum_of zero_bound (sum_of (bound_of_service stop) h))
  at_stop [] layers are j stop h is there = absurd (cc)
  at_stop (first ∷ stops) [] are j stop h is there = absurd are
  at_stop (first ∷ stops) (layer ∷ layers) are zero stop h is there =
      let same : first ≡ stop = same_Some first stop is in
      let ahead : layer.ahead ≡ Some (sum_of (bound_of_service stop) h) =
      are.0.ahead ∙ ap (λ (w : Stop). ahead_of w (bound_over layers zero w.node.0)) same ∙ ap (ahead_of stop) there in
      ap (λ (w : Stop). bound_in layer w.node.0) (sym same)
      ∙ ap (option_and_then (λ (b : Bound). option_map (sum_of b) layer.ahead)) are.0.roads.bounds.goal
      ∙ ap (option_map (sum_of zero_bound)) ahead
  at_stop (first ∷ stops) (layer ∷ layers) are (suc j) stop h is there = at_stop stops layers are.1 j stop h is there

  at_goal : (stops : List Stop) (layers : List LayerBounds) → AreLayers net goal stops layers → bound_over layers (length stops) goal ≡ Some zero_bound
  at_goal [] [] are = absurd are
  at_goal [] (layer ∷ layers) are =
      ap (option_and_then (λ (b : Bound). option_map (sum_of b) layer.ahead)) are.1.roads.bounds.goal ∙ ap (option_map (sum_of zero_bound)) are.1.ahead
  at_goal (stop ∷ stops) [] are = absurd are
  at_goal (stop ∷ stops) (layer ∷ layers) are = at_goal stops layers are.1

module _ (net : Net) (good : IsGoodNet net) (stops : List Stop) (each_stop : All (IsGoodStop net) stops) (until goal : ℕ)
    (low : 1 ≤ goal) (high : goal ≤ net.nodes) (over : List (Option Bound)) (bounds : AreTourBounds net goal stops over) where
  bound_here : (j v : ℕ) → j ≤ length stops → 1 ≤ v → v ≤ net.nodes → bound_at over (j * net.nodes + v) ≡ bound_over bounds.layers j v
  bound_here j v within some few =
      ap option_flatten (ap (λ (w : List (Option Bound)). at_number w (j * net.nodes + v)) bounds.are
      ∙ at_places net.nodes bounds.layers j v some few (omega (arith, within, as_many net goal stops bounds.layers bounds.each)))

  HasBoundOver : Road → Bound → Type 0
  HasBoundOver road h = (b : Bound) × (bound_at over road.tail ≡ Some b) × IsBoundThrough road h b

  along_layer : (x : ℕ) (arc : TimedArc) (h : Bound)
      → IsInLayer net.nodes (length net.closed) (length stops) net.arcs (suc (length stops)) x arc
      → bound_at over arc.head.0 ≡ Some h → HasBoundOver (road_of arc) h
  unfolding HasBound HasBoundOver
  along_layer x arc h layer there =
      let base : TimedArc = layer.base in
      let fine = good_arc net good layer.a base layer.is in
      let within : layer.j ≤ length stops = omega (arith, layer.below) in
      let tail : layer.j * net.nodes + base.tail.0 ≡ arc.tail.0 = ap (λ (w : TimedArc). w.tail.0) layer.same in
      let head : layer.j * net.nodes + base.head.0 ≡ arc.head.0 = ap (λ (w : TimedArc). w.head.0) layer.same in
      let near = along_layers net goal stops bounds.layers bounds.each layer.j layer.a (road_of base) h (ap (option_map road_of) layer.is)
      (sym (bound_here layer.j base.head.0 within fine.head.0 fine.head.1) ∙ ap (bound_at over) head ∙ there) in (
        near.0,
        ap (bound_at over) (sym tail) ∙ bound_here layer.j base.tail.0 within fine.tail.0 fine.tail.1 ∙ near.1,
        record {
          minutes = omega (arith, near.2.minutes, ap (λ (w : TimedArc). w.minutes) layer.same);
          cost = omega (arith, near.2.cost, ap (λ (w : TimedArc). w.cost) layer.same);
        },
      )

  along_service : (arc : TimedArc) (h : Bound) (i : ℕ) (stop : Stop) → at_number stops i ≡ Some stop
      → service net.nodes (suc (length stops) * length net.closed) (0 + (i - 1)) stop ≡ arc → bound_at over arc.head.0 ≡ Some h
      → HasBoundOver (road_of arc) h
  unfolding HasBoundOver
  along_service arc h i stop is same there =
      let inside = number_within stops i stop is in
      let fine : IsGoodStop net stop = at_number-all (IsGoodStop net) stops i stop each_stop is in
      let j : ℕ = 0 + (i - 1) in
      let number : i ≡ suc j = omega (arith, inside.0) in
      let next : j + 1 ≡ suc j = omega arith in
      let tail : j * net.nodes + stop.node.0 ≡ arc.tail.0 = ap (λ (w : TimedArc). w.tail.0) same in
      let head : suc j * net.nodes + stop.node.0 ≡ arc.head.0 =
      ap (λ (n : ℕ). n * net.nodes + stop.node.0) (sym next) ∙ ap (λ (w : TimedArc). w.head.0) same in
      let far : bound_over bounds.layers (suc j) stop.node.0 ≡ Some h =
      sym (bound_here (suc j) stop.node.0 (omega (arith, inside.1, number)) fine.node.0 fine.node.1) ∙ ap (bound_at over) head ∙ there in (
        sum_of zero_bound (sum_of (bound_of_service stop) h),
        ap (bound_at over) (sym tail) ∙ bound_here j stop.node.0 (omega (arith, inside.1)) fine.node.0 fine.node.1
            ∙ at_stop net goal stops bounds.layers bounds.each j stop h (ap (at_number stops) (sym number) ∙ is) far,
        through_service (road_of arc) stop h (sym (ap (λ (w : TimedArc). w.minutes) same)),
      )

  -- the bounds of the layered net hold along each arc
  pub tour_bounds_hold : AreBounds (setting_of (tour_net net stops until)) (length stops * net.nodes + goal) (bound_at over)
  unfolding HasBoundOver
  tour_bounds_hold = record {
    goal = bound_here (length stops) goal (omega arith) low high ∙ at_goal net goal stops bounds.layers bounds.each;
    each = λ x road h is there.
        (let found = map_some (at_number (tour_net net stops until).arcs x) road_of road is in
        let at_head : bound_at over found.0.head.0 ≡ Some h = ap (λ (w : Road). bound_at over w.head) found.2 ∙ there in
        subst (λ (w : Road). HasBoundOver w h) found.2
        (⊎_elim
        (λ (layer : IsInLayer net.nodes (length net.closed) (length stops) net.arcs (suc (length stops)) x found.0).
        along_layer x found.0 h layer at_head)
        (λ (one : (i : ℕ) × (stop : Stop) × (at_number stops i ≡ Some stop) × (service net.nodes (suc (length stops) * length net.closed) (0 + (i - 1)) stop
        ≡ found.0)
        × (x ≡ suc (length stops) * length net.arcs + i)).
        along_service found.0 h one.0 one.1 one.2 one.3 at_head)
        (arc_kinds net good stops each_stop until x found.0 found.1)));
  }

  -- each node of the layered net has its place
  pub tour_bounds_long : length over ≡ suc (length stops) * net.nodes
  tour_bounds_long =
      ap (λ (w : List (Option Bound)). length w) bounds.are ∙ long_all net.nodes bounds.layers
      ∙ ap (λ (n : ℕ). n * net.nodes) (as_many net goal stops bounds.layers bounds.each)
