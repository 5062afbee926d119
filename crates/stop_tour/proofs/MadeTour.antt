-- The layered net as it is made, and routes over it.
use Rattle.std.proofs.Common.{◌≡◌, ℕ, suc, ◌+◌, ◌-◌, ◌*◌, ◌≤◌, Option, List, [], ◌∷◌, ◌++◌, length, map, get_or, replicate, All, ◌∙◌, ap, arith}
use Rattle.std.specs.Prelude.{Vec}
use Rattle.std.specs.declared.alloc.Global.{Global}
use Rattle.std.proofs.lemmas.List.Elements.{All-cons, All-nil}
use Rattle.route_base.specs.Itinerary.{Position, wait, Walks}
use Rattle.route_base.specs.Legs.{steps_of, CostsFit}
use Rattle.route_base.specs.Front.{IsRight}
use Rattle.route_base.specs.Net.{Net, net_from, at_number, road_of, setting_of, IsGoodNet}
use Rattle.route_base.specs.declared.types.Leg.{Leg}
use Rattle.route_base.specs.declared.types.Leg.TheVariants.{Drive, Wait}
use Rattle.route_base.specs.declared.types.Park.{Park}
use Rattle.route_base.specs.declared.types.Request.{Request}
use Rattle.route_base.specs.declared.types.Route.{Route}
use Rattle.route_base.specs.declared.types.Run.{Run}
use Rattle.route_base.specs.declared.types.TimedArc.{TimedArc}
use Rattle.route_base.proofs.Numbered.{number_within}
use Rattle.route_base.proofs.Costs.{fits}
use Rattle.route_base.proofs.Logic.{map_some}
use Rattle.stop_tour.specs.Inside.Layers.{layered, copies, services, outside, layered_lists, tour_net, tour_request}
use Rattle.stop_tour.specs.Tours.{IsGoodStop, tour_size_of}
use Rattle.front_transport.specs.CheapArcs.{HasCheapArcs}
use Rattle.front_transport.specs.declared.limits.TheConstants.{MOST_STATES}
use Rattle.front_transport.proofs.Growing.{walk_after}
use Rattle.front_transport.proofs.NetParts.{net_of}
use Rattle.route_base.specs.declared.limits.TheConstants.{LONGEST_HORIZON}
use Rattle.stop_tour.specs.Inside.Unlayering.{IsNumbered}
use Rattle.stop_tour.specs.declared.stops.Stop.{Stop}
use Rattle.stop_tour.proofs.GoodLayers.{cheap_tour}

pub made_tour : (net : Net) (stops : List Stop) (until seen place held : ℕ) (arcs made : List TimedArc) (closed lists old : List (Vec Run Global))
    (parks rated : List (Option Park))
    → seen ≡ net.nodes → held ≡ length net.closed → place ≡ (length stops + 1) * held
    → arcs ≡ layered net.nodes held (length stops) net.arcs (length stops + 1) → made ≡ arcs ++ services seen place 0 stops
    → map (λ v. v.items) lists ≡ layered_lists until (map (λ v. v.items) old) stops → map (λ v. v.items) old ≡ net.closed
    → map (λ v. v.items) closed ≡ map (λ v. v.items) lists ++ map (outside until) stops → rated ≡ net.parks → parks ≡ copies rated (length stops + 1)
    → net_from ((length stops + 1) * seen) made closed parks ≡ tour_net net stops until
unfolding net_of
made_tour net stops until seen place held arcs made closed lists old rows rated seen_is held_is place_is arcs_is made_is lists_is old_is closed_is rated_is
    rows_is =
    let next : length stops + 1 ≡ suc (length stops) = omega arith in
    let behind : place ≡ suc (length stops) * length net.closed =
    place_is ∙ ap (λ (k : ℕ). k * held) next ∙ ap (λ (k : ℕ). suc (length stops) * k) held_is in
    let roads : arcs ≡ layered net.nodes (length net.closed) (length stops) net.arcs (suc (length stops)) =
    arcs_is ∙ ap (λ (h : ℕ). layered net.nodes h (length stops) net.arcs (length stops + 1)) held_is
    ∙ ap (layered net.nodes (length net.closed) (length stops) net.arcs) next in
    let all : made ≡ layered net.nodes (length net.closed) (length stops) net.arcs (suc (length stops))
    ++ services net.nodes (suc (length stops) * length net.closed) 0 stops =
    made_is ∙ ap (λ (w : List TimedArc). w ++ services seen place 0 stops) roads
    ∙ ap (λ (k : ℕ). layered net.nodes (length net.closed) (length stops) net.arcs (suc (length stops)) ++ services k place 0 stops) seen_is
    ∙ ap (λ (k : ℕ). layered net.nodes (length net.closed) (length stops) net.arcs (suc (length stops)) ++ services net.nodes k 0 stops) behind in
    ap (λ (k : ℕ). net_of k made (map (λ v. v.items) closed) rows) (ap (λ (k : ℕ). k * seen) next ∙ ap (λ (k : ℕ). suc (length stops) * k) seen_is)
    ∙ ap (λ (w : List TimedArc). net_of (suc (length stops) * net.nodes) w (map (λ v. v.items) closed) rows) all
    ∙ ap (λ (w : List (List Run)). net_of (suc (length stops) * net.nodes)
    (layered net.nodes (length net.closed) (length stops) net.arcs (suc (length stops)) ++ services net.nodes (suc (length stops) * length net.closed) 0 stops)
    w rows)
    (closed_is ∙ ap (λ (w : List (List Run)). w ++ map (outside until) stops)
    (lists_is ∙ ap (λ (w : List (List Run)). layered_lists until w stops) old_is))
    ∙ ap (λ (w : List (Option Park)). net_of (suc (length stops) * net.nodes)
    (layered net.nodes (length net.closed) (length stops) net.arcs (suc (length stops)) ++ services net.nodes (suc (length stops) * length net.closed) 0 stops)
    (layered_lists until net.closed stops ++ map (outside until) stops) w)
    (rows_is ∙ ap (λ (w : List (Option Park)). copies w (length stops + 1)) rated_is ∙ ap (copies net.parks) next)

-- each drive of a walk has a number from 1 on
pub numbered : (net : Net) (until : ℕ) (legs : List Leg) (p q : Position) → Walks (setting_of net) until (steps_of legs) p q → All IsNumbered legs
numbered net until [] p q walk = All-nil IsNumbered
numbered net until (Drive x ∷ legs) p q walk =
    let found = map_some (at_number net.arcs x.0) road_of walk.1.road walk.1.is in
    All-cons IsNumbered (Drive x) legs (number_within net.arcs x.0 found.0 found.1).0 (numbered net until legs walk.0 q walk.2)
numbered net until (Wait k ∷ legs) p q walk =
    let after = walk_after (setting_of net) until (replicate k wait) (steps_of legs) p q walk in
    All-cons IsNumbered (Wait k) legs (omega arith) (numbered net until legs after.0 q after.1)

pub routes_numbered : (net : Net) (r : Request) (routes : List Route) → IsRight (setting_of net) r routes → All (λ x. All IsNumbered x.legs) routes
routes_numbered net r routes right k d within = numbered net r.until (get_or routes k d).legs _ _ (right.legs k d within).0.walk

pub tour_fits : (net : Net) (good : IsGoodNet net) (stops : List Stop) (each_stop : All (IsGoodStop net) stops) (r : Request) → 1 ≤ net.nodes
    → tour_size_of net stops ≤ MOST_STATES → HasCheapArcs net → r.depart ≤ r.until → r.until - r.depart ≤ LONGEST_HORIZON
    → CostsFit (setting_of (tour_net net stops r.until)) (tour_request net stops r)
tour_fits net good stops each_stop r some size cheap in_order short =
    fits (setting_of (tour_net net stops r.until)) (tour_request net stops r) (cheap_tour net good stops each_stop r.until some size cheap) in_order
    (omega (arith, in_order, short))
