-- The timed net of a network is good and stands for its road setting.
use Rattle.std.proofs.Common.{◌≡◌, ◌⊎◌, ⊎_elim, All, ℕ, zero, suc, ◌+◌, ◌*◌, ◌^◌, ◌≤◌, ◌<◌, ◌&&◌, Bool, inl, inr}
use Rattle.std.proofs.Common.{Some, None, Option, List, [], ◌∷◌, ◌++◌, length, get_or, slice_get}
use Rattle.std.proofs.Common.{refl, sym, ◌∙◌, ap, subst, arith, add-one}
use Rattle.std.specs.Prelude.{IfSome, IsSome, nat_eq, not}
use Rattle.std.specs.Map.{lookup}
use Rattle.std.specs.Option.{option_map, option_flatten, ForSome}
use Rattle.std.proofs.lemmas.Bool.{cases_lt, and_from, eqb-true, le-leb, lt-ltb}
use Rattle.std.proofs.lemmas.List.{length_push, length-append, get_or_append_left, get_or-append-add}
use Rattle.std.proofs.lemmas.List.Elements.{All-append, All-contains}
use Rattle.std.proofs.lemmas.Map.Views.{Contains-from_lookup}
use Rattle.std.proofs.lemmas.Option.{slice_get-get_or, slice_get_past, slice_get_within, unwrap_or-slice_get}
use Rattle.route_base.specs.Net.{Net, IsGoodNet, IsGoodArc, IsGoodPark, setting_of, at_number, road_of, runs_at, runs_by, shut_by}
use Rattle.route_base.specs.Runs.{any_has, has_minute, AreRuns}
use Rattle.route_base.specs.Matching.{StandsFor}
use Rattle.route_base.specs.Setting.{Road}
use Rattle.route_base.specs.declared.limits.TheConstants.{DEAREST_MINUTE}
use Rattle.route_base.specs.declared.types.ArcId.{ArcId}
use Rattle.route_base.specs.declared.types.Park.{Park}
use Rattle.route_base.specs.declared.types.Run.{Run}
use Rattle.route_base.specs.declared.types.TimedArc.{TimedArc}
use Rattle.route_base.proofs.Logic.{map_some}
use Rattle.route_base.proofs.Numbered.{at_number-all, within_number}
use Rattle.dimacs_reader.specs.GraphModel.{IsGoodGraph, IsGoodGraphArc}
use Rattle.dimacs_reader.specs.declared.graph.GraphArc.{GraphArc}
use Rattle.vehicle_classes.specs.VehicleModel.{VehicleModel}
use Rattle.network_tables.specs.Access.{area_at, is_closed, is_open_by, is_park_open}
use Rattle.network_tables.specs.NetworkModel.{NetworkModel, IsGoodNetwork, IsParkedWithin, park_of, toll_at, weight_at}
use Rattle.network_tables.specs.NetworkModel.{IsGoodParked}
use Rattle.network_tables.specs.Parking.{ParkRow, Parked, park_for}
use Rattle.network_tables.specs.Parks.{HasTimetable, ParkLists, Timetable, park_with, parks_with}
use Rattle.network_tables.specs.RoadSetting.{road_setting, road_over}
use Rattle.network_tables.specs.declared.parks.RatedNode.{RatedNode}
use Rattle.ban_expansion.specs.ArcGroups.{GroupsModel, AreGroups}
use Rattle.ban_expansion.specs.Bans.{HasNoDearMinute, IsNetFor, IsShutWithin}
use Rattle.ban_expansion.specs.Inside.GroupedNets.{HasClosed, AreClosedLists, IsTimedArc, AreTimed, timed_over}
use Rattle.ban_expansion.specs.Inside.ShutLists.{AreParks, AreShutLists, HasShut, park_over}
use Rattle.ban_expansion.proofs.ItemLists.{got_pushed, zip_all, zip_at, zip_length}
use Rattle.network_tables.proofs.RatedRows.{row_of}

-- an arc that nothing has
no_timed_arc : TimedArc
no_timed_arc = record { tail = record { 0 = 0 }; head = record { 0 = 0 }; minutes = 0; cost = 0; closed = 0 }

-- the next arc is timed too
pub timed_next : (network : NetworkModel) (groups : List ℕ) (n : ℕ) (arcs : List TimedArc) (arc : TimedArc) → AreTimed network groups n arcs
    → IsTimedArc network groups n arc → AreTimed network groups (n + 1) (arcs ++ arc ∷ [])
timed_next network groups n arcs arc all timed = record {
  counted = omega (arith, length_push arcs arc, all.counted);
  each = λ k other at.
      got_pushed (IsTimedArc network groups k other) arcs arc k other at (all.each k other)
      (λ last same. subst (λ (j : ℕ). IsTimedArc network groups j other) (sym all.counted ∙ sym last)
      (subst (λ (a : TimedArc). IsTimedArc network groups n a) same timed));
}

-- a park has the weight of its node's row
weight_kept : (first : ℕ) (timetables : List Timetable) (o : Option RatedNode) → option_map (λ (park : Park). park.weight) (option_map (park_over first) o)
    ≡ option_map (λ (row : ParkRow). row.weight) (option_map (park_with timetables) o)
weight_kept first timetables None = refl
weight_kept first timetables (Some node) = refl

-- a row that is found has what holds of each
found_good : (P : Parked → Type 0) (rows : List Parked) (v : ℕ) (row : ParkRow) → All P rows → park_for rows v ≡ Some row → P (v, row)
found_good P rows v row all is = All-contains P rows (v, row) all (Contains-from_lookup eqb-true v row rows is)

some_inside : {A B : Type 0} (f : A → B) (o : Option A) → IsSome (option_map f o) → IsSome o
some_inside f None h = h
some_inside f (Some x) h = refl

abbrev net_over : NetworkModel → List TimedArc → List (List Run) → List (List Run) → List (Option Park) → Net
net_over network arcs lists shut held = record { nodes = network.graph.nodes; arcs = arcs; closed = lists ++ shut; parks = held }

module _ (network : NetworkModel) (vehicle : VehicleModel) (window : Run) (all : GroupsModel) (arcs : List TimedArc) (lists : List (List Run))
    (parks : ParkLists) (shut : List (List Run)) (held : List (Option Park))
    (good : IsGoodNetwork network) (graph : IsGoodGraph network.graph) (groups : AreGroups network all)
    (timed : AreTimed network all.groups (length network.graph.arcs) arcs) (sets : AreClosedLists network vehicle window all.firsts lists)
    (rows : parks_with parks ≡ network.parks) (few : length lists + length parks.timetables < 2 ^ 32)
    (shuts : AreShutLists network window parks.timetables shut) (placed : AreParks parks (length lists) network.graph.nodes held) where
  as_many : length lists ≡ length all.firsts
  as_many = zip_length (HasClosed network vehicle window) all.firsts lists sets

  good_arc : (k : ℕ) (arc : TimedArc) → IsTimedArc network all.groups k arc → IsGoodArc (net_over network arcs lists shut held) arc
  good_arc k arc is =
      let found = map_some (slice_get network.graph.arcs k) (timed_over arc.closed (toll_at network (k + 1))) arc is.is in
      let named = at_number-all (IsGoodGraphArc network.graph.nodes) network.graph.arcs (suc k) found.0 graph.each_arc found.1 in
      let group = groups.each k arc.closed is.group in
      subst (IsGoodArc (net_over network arcs lists shut held)) found.2 (record {
        tail = named.tail;
        head = named.head;
        minutes = named.minutes;
        cost = omega (arith, named.minutes.1, good.tolls (k + 1));
        closed = omega (arith, slice_get_within all.firsts arc.closed group.first group.there, as_many, length-append lists shut);
      })

  as_many_shut : length shut ≡ length parks.timetables
  as_many_shut = zip_length (HasShut network window) parks.timetables shut shuts

  row_at : (v : ℕ) → park_of network v ≡ option_map (park_with parks.timetables) (lookup (nat_eq v) parks.rated)
  row_at v = row_of network parks v rows

  -- the park of a node
  abbrev node_park : ℕ → Option Park
  node_park v = option_map (park_over (length lists)) (lookup (nat_eq v) parks.rated)

  -- a node has its park
  park_here : (k : ℕ) → k < network.graph.nodes → slice_get held k ≡ Some (node_park (suc k))
  park_here k within =
      let here = slice_get-get_or held k None (omega (arith, within, placed.counted)) in
      here ∙ ap (λ (o : Option Park). Some o) ((placed.each k (get_or held k None) here).is) ∙ ap (λ (v : ℕ). Some (node_park v)) (add-one k)

  good_park : (v : ℕ) (o : Option RatedNode) → lookup (nat_eq v) parks.rated ≡ o → IfSome o (HasTimetable parks.timetables)
      → ForSome (option_map (park_over (length lists)) o) (IsGoodPark (net_over network arcs lists shut held))
  good_park v None is there park same = absurd (cc)
  good_park v (Some node) is there park same =
      let found : park_of network v ≡ Some (park_with parks.timetables node) = row_at v ∙ ap (option_map (park_with parks.timetables)) is in
      let row = found_good (IsGoodParked (length network.areas)) network.parks v (park_with parks.timetables node) good.parks found in
      let over : park_over (length lists) node ≡ park = cc in
      subst (IsGoodPark (net_over network arcs lists shut held)) over (record {
        weight = omega (arith, row.small);
        shut = omega (arith, there, as_many_shut, length-append lists shut);
      })

  pub good_net : IsGoodNet (net_over network arcs lists shut held)
  good_net = record {
    nodes = omega (arith, graph.nodes);
    arcs = omega (arith, graph.arcs, timed.counted);
    closed = omega (arith, few, as_many_shut, length-append lists shut);
    parks = placed.counted;
    each_arc = λ k d within. good_arc k (get_or arcs k d) (timed.each k (get_or arcs k d) (slice_get-get_or arcs k d within));
    each_runs = All-append AreRuns lists shut
        (zip_all (HasClosed network vehicle window) AreRuns (λ first runs has. has.runs) all.firsts lists sets)
        (zip_all (HasShut network window) AreRuns (λ timetable runs has. has.runs) parks.timetables shut shuts);
    each_park = λ k d within.
        let at = placed.each k (get_or held k d) (slice_get-get_or held k d within) in
        subst (λ (o : Option Park). ForSome o (IsGoodPark (net_over network arcs lists shut held))) (sym at.is)
        (good_park (k + 1) (lookup (nat_eq (k + 1)) parks.rated) refl at.there);
  }

  -- the road of an arc's number
  abbrev road_with : ℕ → GraphArc → Road
  road_with a arc = road_over (toll_at network a) arc

  road_at : (k : ℕ) (arc : TimedArc) → IsTimedArc network all.groups k arc
      → Some (road_of arc) ≡ option_map (road_with (suc k)) (slice_get network.graph.arcs k)
  road_at k arc is =
      let found = map_some (slice_get network.graph.arcs k) (timed_over arc.closed (toll_at network (k + 1))) arc is.is in
      ap (λ (a : TimedArc). Some (road_of a)) (sym found.2) ∙ ap (λ (a : ℕ). Some (road_with a found.0)) (add-one k)
      ∙ sym (ap (option_map (road_with (suc k))) found.1)

  same_road : (a : ℕ) → option_map road_of (at_number arcs a) ≡ option_map (road_with a) (at_number network.graph.arcs a)
  same_road zero = refl
  same_road (suc k) =
      ⊎_elim
      (λ (within : k < length network.graph.arcs).
      let here = slice_get-get_or arcs k no_timed_arc (omega (arith, within, timed.counted)) in
      ap (option_map road_of) here ∙ road_at k (get_or arcs k no_timed_arc) (timed.each k (get_or arcs k no_timed_arc) here))
      (λ (past : length network.graph.arcs ≤ k).
      ap (option_map road_of) (slice_get_past arcs k (omega (arith, past, timed.counted)))
      ∙ sym (ap (option_map (road_with (suc k))) (slice_get_past network.graph.arcs k past)))
      (cases_lt k (length network.graph.arcs))

  closed_minutes : (a t : ℕ) → IsSome (at_number network.graph.arcs a)
      → any_has (runs_at (net_over network arcs lists shut held) a) t ≡ (has_minute t window && is_closed network vehicle a t)
  closed_minutes zero t there = absurd (cc)
  closed_minutes (suc k) t there =
      let within : k < length network.graph.arcs = omega (arith, within_number network.graph.arcs (suc k) there) in
      let arc = get_or arcs k no_timed_arc in
      let here = slice_get-get_or arcs k no_timed_arc (omega (arith, within, timed.counted)) in
      let group = groups.each k arc.closed (timed.each k arc here).group in
      let set = zip_at (HasClosed network vehicle window) all.firsts lists arc.closed group.first [] sets group.there in
      ap (λ (o : Option TimedArc). any_has (runs_by (net_over network arcs lists shut held) o) t) here
      ∙ ap (λ (runs : List Run). any_has runs t) (unwrap_or-slice_get (lists ++ shut) arc.closed []
      ∙ get_or_append_left lists shut [] arc.closed (omega (arith, as_many, slice_get_within all.firsts arc.closed group.first group.there)))
      ∙ set.minutes t
      ∙ ap (λ (b : Bool). has_minute t window && b) (sym (group.alike vehicle t))
      ∙ ap (λ (n : ℕ). has_minute t window && is_closed network vehicle n t) (add-one k)

  -- there is no row for a node outside the network
  no_row : (v : ℕ) (o : Option ParkRow) → park_of network v ≡ o → (v < 1) ⊎ (network.graph.nodes < v) → o ≡ None
  no_row v None is outside = refl
  no_row v (Some row) is outside =
      let here = found_good (IsParkedWithin network.graph.nodes) network.parks v row good.rated is in
      absurd (⊎_elim (λ (low : v < 1). omega (arith, low, here.0)) (λ (high : network.graph.nodes < v). omega (arith, high, here.1)) outside)

  same_weight : (v : ℕ) → (setting_of (net_over network arcs lists shut held)).weight v ≡ weight_at network v
  same_weight zero =
      sym (ap (option_map (λ (row : ParkRow). row.weight)) (no_row 0 (park_of network 0) refl (inl (omega arith))))
  same_weight (suc k) =
      ⊎_elim
      (λ (within : k < network.graph.nodes).
      ap (λ o. option_map (λ (park : Park). park.weight) (option_flatten o)) (park_here k within)
      ∙ weight_kept (length lists) parks.timetables (lookup (nat_eq (suc k)) parks.rated)
      ∙ sym (ap (option_map (λ (row : ParkRow). row.weight)) (row_at (suc k))))
      (λ (past : network.graph.nodes ≤ k).
      ap (λ o. option_map (λ (park : Park). park.weight) (option_flatten o)) (slice_get_past held k (omega (arith, past, placed.counted)))
      ∙ sym (ap (option_map (λ (row : ParkRow). row.weight)) (no_row (suc k) (park_of network (suc k)) refl (inr (omega (arith, past))))))
      (cases_lt k network.graph.nodes)

  -- the minutes at which a rated node is shut
  shut_over : (o : Option RatedNode) → IfSome o (HasTimetable parks.timetables) → IsSome o → (t : ℕ)
      → any_has (shut_by (net_over network arcs lists shut held) (option_map (park_over (length lists)) o)) t
      ≡ (has_minute t window && not (is_park_open network (option_map (park_with parks.timetables) o) t))
  shut_over None there some t = absurd (cc)
  shut_over (Some node) there some t =
      let none : Timetable = record { area = 0; hours = None } in
      let k = node.timetable in
      let set = zip_at (HasShut network window) parks.timetables shut k (get_or parks.timetables k none) [] shuts
      (slice_get-get_or parks.timetables k none (there)) in
      ap (λ (runs : List Run). any_has runs t) (unwrap_or-slice_get (lists ++ shut) (length lists + k) [] ∙ get_or-append-add lists shut k [])
      ∙ set.minutes t
      ∙ ap (λ (timetable : Timetable). has_minute t window && not (is_open_by timetable.hours (area_at network timetable.area) t))
      (sym (unwrap_or-slice_get parks.timetables k none))

  no_weight : IsSome {T = ℕ} None → ⊥
  no_weight some = absurd (cc)

  shut_minutes : (v t : ℕ) → IsSome (weight_at network v)
      → (setting_of (net_over network arcs lists shut held)).wait_shut v t ≡ (has_minute t window && not (is_park_open network (park_of network v) t))
  shut_minutes zero t rated = absurd (subst (λ (o : Option ParkRow). IsSome (option_map (λ (row : ParkRow). row.weight) o) → ⊥)
      (sym (no_row 0 (park_of network 0) refl (inl (omega arith)))) no_weight rated)
  shut_minutes (suc k) t rated =
      ⊎_elim
      (λ (within : k < network.graph.nodes).
      let here = slice_get-get_or held k None (omega (arith, within, placed.counted)) in
      let at = placed.each k (get_or held k None) here in
      let there = subst (λ (v : ℕ). IfSome (lookup (nat_eq v) parks.rated) (HasTimetable parks.timetables)) (add-one k) at.there in
      let row = subst (λ (o : Option ParkRow). IsSome (option_map (λ (row : ParkRow). row.weight) o)) (row_at (suc k)) rated in
      let some = some_inside (park_with parks.timetables) (lookup (nat_eq (suc k)) parks.rated) (some_inside (λ (row : ParkRow). row.weight) _ row) in
      ap (λ o. any_has (shut_by (net_over network arcs lists shut held) (option_flatten o)) t) (park_here k within)
      ∙ shut_over (lookup (nat_eq (suc k)) parks.rated) there some t
      ∙ sym (ap (λ (o : Option ParkRow). has_minute t window && not (is_park_open network o t)) (row_at (suc k))))
      (λ (past : network.graph.nodes ≤ k).
      absurd (subst (λ (o : Option ParkRow). IsSome (option_map (λ (row : ParkRow). row.weight) o) → ⊥)
      (sym (no_row (suc k) (park_of network (suc k)) refl (inr (omega (arith, past))))) no_weight rated))
      (cases_lt k network.graph.nodes)

  pub net_stands : StandsFor (setting_of (net_over network arcs lists shut held)) (road_setting network vehicle) window
  net_stands = record {
    nodes = refl;
    arcs = timed.counted;
    road = same_road;
    weight = same_weight;
    shut = λ a t there from to.
        closed_minutes a t (some_inside (road_with a) (at_number network.graph.arcs a) there)
        ∙ ap (λ (b : Bool). b && is_closed network vehicle a t) (and_from _ _ (le-leb window.lo t from) (lt-ltb t window.hi to));
    wait_shut = λ v t there from to.
        shut_minutes v t there
        ∙ ap (λ (b : Bool). b && not (is_park_open network (park_of network v) t)) (and_from _ _ (le-leb window.lo t from) (lt-ltb t window.hi to));
  }

  pub net_shut : IsShutWithin network vehicle window (setting_of (net_over network arcs lists shut held))
  net_shut = record {
    roads = λ a t there. closed_minutes a t (some_inside (road_with a) (at_number network.graph.arcs a) (subst IsSome (same_road a) there));
    waits = λ v t there. shut_minutes v t (subst IsSome (same_weight v) there);
  }

  -- a toll is at most 100.000, and each arc has a minute
  pub net_cheap : HasNoDearMinute (setting_of (net_over network arcs lists shut held))
  net_cheap a road is =
      let found = map_some (at_number network.graph.arcs a) (road_with a) road (sym (same_road a) ∙ is) in
      let arc = at_number-all (IsGoodGraphArc network.graph.nodes) network.graph.arcs a found.0 graph.each_arc found.1 in
      subst (λ (r : Road). r.cost ≤ DEAREST_MINUTE * r.minutes) found.2 (omega (arith, arc.minutes.0, good.tolls a))

-- a net of these parts
abbrev pub net_with : ℕ → List TimedArc → List (List Run) → List (Option Park) → Net
net_with n arcs closed parks = record { nodes = n; arcs = arcs; closed = closed; parks = parks }

pub net_made : (network : NetworkModel) (vehicle : VehicleModel) (window : Run) (all : GroupsModel) (arcs : List TimedArc) (lists : List (List Run))
    (parks : ParkLists) (shut : List (List Run)) (held : List (Option Park))
    → IsGoodNetwork network → IsGoodGraph network.graph → AreGroups network all
    → AreTimed network all.groups (length network.graph.arcs) arcs → AreClosedLists network vehicle window all.firsts lists
    → parks_with parks ≡ network.parks → length lists + length parks.timetables < 2 ^ 32 → AreShutLists network window parks.timetables shut
    → {n count : ℕ} {closed : List (List Run)} → n ≡ network.graph.nodes → closed ≡ lists ++ shut → count ≡ length lists
    → AreParks parks count n held
    → IsGoodNet (net_with n arcs closed held) × IsNetFor network vehicle window (setting_of (net_with n arcs closed held))
net_made network vehicle window all arcs lists parks shut held good graph groups timed sets rows few shuts nodes closed count placed =
    let here : AreParks parks (length lists) network.graph.nodes held =
    subst (λ (p : ℕ × ℕ). AreParks parks p.0 p.1 held) (λ i. (count i, nodes i)) placed in
    let same : net_over network arcs lists shut held ≡ net_with _ arcs _ held = λ i. net_with (sym nodes i) arcs (sym closed i) held in (
      subst IsGoodNet same (good_net network vehicle window all arcs lists parks shut held good graph groups timed sets rows few shuts here),
      subst (λ (n : Net). IsNetFor network vehicle window (setting_of n)) same (record {
        stands = net_stands network vehicle window all arcs lists parks shut held good graph groups timed sets rows few shuts here;
        exact = net_shut network vehicle window all arcs lists parks shut held good graph groups timed sets rows few shuts here;
        cheap = net_cheap network vehicle window all arcs lists parks shut held good graph groups timed sets rows few shuts here;
      }),
    )

-- the first arcs may be named otherwise
pub same_firsts : (network : NetworkModel) (vehicle : VehicleModel) (window : Run) {firsts given : List ArcId} (lists : List (List Run)) → given ≡ firsts
    → AreClosedLists network vehicle window given lists → AreClosedLists network vehicle window firsts lists
same_firsts network vehicle window lists same sets = subst (λ (arcs : List ArcId). AreClosedLists network vehicle window arcs lists) same sets
