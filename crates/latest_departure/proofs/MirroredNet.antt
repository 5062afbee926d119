-- The mirrored net is well-formed, and its setting mirrors that of the net, both ways.
use Rattle.std.proofs.Common.{◌≡◌, ◌⊎◌, inl, inr, ⊎_elim, ℕ, ◌+◌, ◌*◌, ◌≤◌, ◌<◌, ◌^◌, false, Option, Some, List, [], ◌∷◌, ◌++◌, length, map, refl, sym, ◌∙◌, ap}
use Rattle.std.proofs.Common.{subst, arith, length-append}
use Rattle.std.specs.Prelude.{⊤, Vec}
use Rattle.std.specs.declared.alloc.Global.{Global}
use Rattle.std.specs.Option.{option_map, option_flatten, ForSome}
use Rattle.std.proofs.lemmas.List.{length-map}
use Rattle.std.proofs.lemmas.List.Elements.{All-push, All-map}
use Rattle.route_base.specs.Setting.{Road}
use Rattle.route_base.specs.Runs.{any_has, AreRuns}
use Rattle.route_base.specs.Net.{Net, net_from, at_number, park_at, road_of, runs_by, runs_at, setting_of, shut_by, shut_runs_at, IsGoodArc, IsGoodNet}
use Rattle.route_base.specs.Net.{IsGoodPark}
use Rattle.route_base.specs.declared.limits.TheConstants.{DEAREST_MINUTE, MOST_NET_NODES}
use Rattle.route_base.specs.declared.types.Park.{Park}
use Rattle.route_base.specs.declared.types.TimedArc.{TimedArc}
use Rattle.route_base.specs.declared.types.Run.{Run}
use Rattle.route_base.proofs.Numbered.{at_number-all, at_number-map, number_within}
use Rattle.route_base.proofs.Parks.{good_park, rated_park, weight_small}
use Rattle.route_base.proofs.SomeWalk.{IsNumberedUpTo}
use Rattle.route_base.proofs.Arcs.{TakesTime, good_arc}
use Rattle.latest_departure.specs.Inside.Mirror.{mirrored_runs, turned, gate, free_park, mirrored}
use Rattle.front_transport.specs.CheapArcs.{HasCheapArcs}
use Rattle.route_base.proofs.Costs.{IsCheap}
use Rattle.latest_departure.proofs.MirroredRuns.{runs_mirror, runs_rise}
use Rattle.route_base.proofs.Logic.{flat_some, map_some}
use Rattle.front_transport.proofs.ListPlaces.{list_at, list_last}
use Rattle.front_transport.proofs.NetParts.{net_of, road_arc}
use Rattle.front_transport.proofs.Places.{at_left, at_either, at_last}
use Rattle.latest_departure.proofs.TurnedWalks.{turned_road, IsMirror}

-- the parts as they are made are those of the mirrored net
pub made_of : (net : Net) (goal sum nodes place : ℕ) (arcs seen : List TimedArc) (closed lists : List (Vec Run Global)) (parks rated : List (Option Park))
    → nodes ≡ net.nodes → place ≡ length net.closed → seen ≡ net.arcs → map (λ v. v.items) lists ≡ net.closed → rated ≡ net.parks
    → arcs ≡ map turned seen ++ record { tail = record { 0 = nodes + 1 }; head = record { 0 = goal }; minutes = 1; cost = 0; closed = place } ∷ []
    → map (λ v. v.items) closed ≡ map (mirrored_runs sum) (map (λ v. v.items) lists) ++ [] ∷ []
    → parks ≡ rated ++ Some (free_park place) ∷ []
    → net_from (nodes + 1) arcs closed parks ≡ mirrored net goal sum
unfolding net_of
made_of net goal sum nodes place arcs seen closed lists rows rated nodes_is place_is seen_is lists_is rated_is arcs_made closed_made rows_made =
    let last : ℕ → ℕ → TimedArc = λ n k. record { tail = record { 0 = n + 1 }; head = record { 0 = goal }; minutes = 1; cost = 0; closed = k } in
    ap (λ (w : ℕ). net_of (w + 1) arcs (map (λ v. v.items) closed) rows) nodes_is
    ∙ ap (λ (w : List TimedArc). net_of (net.nodes + 1) w (map (λ v. v.items) closed) rows)
    (arcs_made ∙ ap (λ (w : List TimedArc). map turned w ++ last nodes place ∷ []) seen_is
    ∙ ap (λ (w : ℕ). map turned net.arcs ++ last w place ∷ []) nodes_is
    ∙ ap (λ (w : ℕ). map turned net.arcs ++ last net.nodes w ∷ []) place_is)
    ∙ ap (λ (w : List (List Run)). net_of (net.nodes + 1) (map turned net.arcs ++ last net.nodes (length net.closed) ∷ []) w rows)
    (closed_made ∙ ap (λ (w : List (List Run)). map (mirrored_runs sum) w ++ [] ∷ []) lists_is)
    ∙ ap (λ (w : List (Option Park)). net_of (net.nodes + 1) (map turned net.arcs ++ last net.nodes (length net.closed) ∷ [])
    (map (mirrored_runs sum) net.closed ++ [] ∷ []) w)
    (rows_made ∙ ap (λ (w : List (Option Park)). w ++ Some (free_park place) ∷ []) rated_is
    ∙ ap (λ (k : ℕ). net.parks ++ Some (free_park k) ∷ []) place_is)

-- the gate as a road
abbrev pub gate_road : Net → ℕ → Road
gate_road net goal = record { tail = net.nodes + 1; head = goal; minutes = 1; cost = 0 }

module _ (net : Net) (good : IsGoodNet net) (goal sum : ℕ) where
  pub z : Net
  z = mirrored net goal sum

  pub z_is : z ≡ mirrored net goal sum
  unfolding z
  z_is = refl

  last : TimedArc
  last = gate net goal

  turned_at : (a : ℕ) (arc : TimedArc) → at_number net.arcs a ≡ Some arc → at_number z.arcs a ≡ Some (turned arc)
  unfolding z
  turned_at a arc is = at_left (map turned net.arcs) (gate net goal ∷ []) a (turned arc)
      (at_number-map turned net.arcs a ∙ ap (option_map turned) is)

  turned_from : (a : ℕ) (b : TimedArc) → at_number z.arcs a ≡ Some b
      → ((arc : TimedArc) × (at_number net.arcs a ≡ Some arc) × (turned arc ≡ b)) ⊎ ((a ≡ length net.arcs + 1) × (last ≡ b))
  unfolding z last
  turned_from a b is = ⊎_elim
      (λ (left : at_number (map turned net.arcs) a ≡ Some b). inl (map_some (at_number net.arcs a) turned b (sym (at_number-map turned net.arcs a) ∙ left)))
      (λ (right : (a ≡ length (map turned net.arcs) + 1) × (last ≡ b)). inr (omega (arith, right.0, length-map net.arcs turned), right.1))
      (at_either (map turned net.arcs) last a b is)

  runs_turned : (a : ℕ) (arc : TimedArc) → at_number net.arcs a ≡ Some arc → runs_at z a ≡ mirrored_runs sum (runs_at net a)
  unfolding z
  runs_turned a arc is =
      let fine : IsGoodArc net arc = good_arc net good a arc is in
      ap (runs_by z) (turned_at a arc is) ∙ list_at (mirrored_runs sum) net.closed arc.closed fine.closed
      ∙ ap (λ (o : Option TimedArc). mirrored_runs sum (runs_by net o)) (sym is)

  shut_there : (a : ℕ) (road : Road) → (setting_of net).road a ≡ Some road → (t u : ℕ) → t + u + 1 ≡ sum → (setting_of net).shut a t ≡ (setting_of z).shut a u
  shut_there a road is t u pair =
      let found = road_arc net good a road is in
      sym (ap (λ (w : List Run). any_has w u) (runs_turned a found.0 found.1) ∙ runs_mirror sum u t (omega (arith, pair)) (runs_at net a))

  road_there : (a : ℕ) (road : Road) → (setting_of net).road a ≡ Some road → (setting_of z).road a ≡ Some (turned_road road)
  road_there a road is =
      let found = road_arc net good a road is in
      ap (option_map road_of) (turned_at a found.0 found.1) ∙ ap (λ (w : Road). Some (turned_road w)) found.2

  -- a road of the mirrored net that begins at a node of the net is one of the net's
  road_back : (a : ℕ) (road : Road) → (setting_of z).road a ≡ Some road → road.tail ≤ net.nodes → (setting_of net).road a ≡ Some (turned_road road)
  unfolding last
  road_back a road is inner =
      let found = map_some (at_number z.arcs a) road_of road is in
      ⊎_elim
      (λ (old : (arc : TimedArc) × (at_number net.arcs a ≡ Some arc) × (turned arc ≡ found.0)).
      ap (option_map road_of) old.1 ∙ ap (λ (w : TimedArc). Some (turned_road (road_of w))) old.2 ∙ ap (λ (w : Road). Some (turned_road w)) found.2)
      (λ (new : (a ≡ length net.arcs + 1) × (last ≡ found.0)).
      absurd (omega (arith, inner, ap (λ (w : TimedArc). w.tail.0) new.1, ap (λ (w : Road). w.tail) found.2)))
      (turned_from a found.0 found.1)

  -- parks are kept, with their lists by place
  kept_park : (v : ℕ) (park : Park) → park_at net v ≡ Some park → park_at z v ≡ Some park
  unfolding z
  kept_park v park is = ap option_flatten (at_left net.parks (Some (free_park (length net.closed)) ∷ []) v (Some park)
      (flat_some (at_number net.parks v) park is))

  shut_turned : (v : ℕ) (park : Park) → park_at net v ≡ Some park → IsGoodPark net park → shut_runs_at z v ≡ mirrored_runs sum (shut_runs_at net v)
  unfolding z
  shut_turned v park is fine =
      ap (shut_by z) (kept_park v park is) ∙ list_at (mirrored_runs sum) net.closed park.shut fine.shut
      ∙ ap (λ (o : Option Park). mirrored_runs sum (shut_by net o)) (sym is)

  -- a park of the mirrored net is one of the net's, or the free one
  park_either : (v w : ℕ) → (setting_of z).weight v ≡ Some w
      → ((park : Park) × (park_at net v ≡ Some park) × (park.weight ≡ w)) ⊎ ((v ≡ length net.parks + 1) × (0 ≡ w))
  unfolding z
  park_either v w is =
      let free : Park = free_park (length net.closed) in
      let found = map_some (park_at z v) (λ park. park.weight) w is in
      ⊎_elim
      (λ (old : at_number net.parks v ≡ Some (Some found.0)). inl (found.0, ap option_flatten old, found.2))
      (λ (new : (v ≡ length net.parks + 1) × (Some free ≡ Some found.0)).
      (let same : free ≡ found.0 = cc in inr (new.0, ap (λ (p : Park). p.weight) same ∙ found.2)))
      (at_either net.parks (Some free) v (Some found.0) (flat_some (at_number (net.parks ++ Some free ∷ []) v) found.0 found.1))

  back_park : (v w : ℕ) → (setting_of z).weight v ≡ Some w → v ≤ net.nodes → (park : Park) × (park_at net v ≡ Some park) × (park.weight ≡ w)
  back_park v w is inner = ⊎_elim
      (λ (old : (park : Park) × (park_at net v ≡ Some park) × (park.weight ≡ w)). old)
      (λ (new : (v ≡ length net.parks + 1) × (0 ≡ w)). absurd (omega (arith, new.0, inner, good.parks)))
      (park_either v w is)

  pub there : IsMirror (setting_of net) (setting_of z) sum (λ v. ⊤)
  unfolding z
  there = record {
    road = λ a road is inner. road_there a road is;
    shut = λ a road is inner t u pair no. sym (shut_there a road is t u pair) ∙ no;
    weight = λ v w is inner. (let p = rated_park net good v w is in ap (option_map (λ park. park.weight)) (kept_park v p.0 p.1) ∙ ap (λ (k : ℕ). Some k) p.2);
    wait_shut = λ v w is inner t u pair no. (let p = rated_park net good v w is in
        ap (λ (l : List Run). any_has l u) (shut_turned v p.0 p.1 p.3) ∙ runs_mirror sum u t (omega (arith, pair)) (shut_runs_at net v) ∙ no);
  }

  pub back : IsMirror (setting_of z) (setting_of net) sum (λ v. v ≤ net.nodes)
  unfolding z
  back = record {
    road = road_back;
    shut = λ a road is inner t u pair no. shut_there a (turned_road road) (road_back a road is inner) u t (omega (arith, pair)) ∙ no;
    weight = λ v w is inner. (let p = back_park v w is inner in ap (option_map (λ park. park.weight)) p.1 ∙ ap (λ (k : ℕ). Some k) p.2);
    wait_shut = λ v w is inner t u pair no. (let p = back_park v w is inner in
        let fine : IsGoodPark net p.0 = good_park net good v p.0 p.1 in
        sym (runs_mirror sum t u pair (shut_runs_at net v)) ∙ ap (λ (l : List Run). any_has l t) (sym (shut_turned v p.0 p.1 fine)) ∙ no);
  }

  -- what is said of the roads of all arcs turned round and of the last one is said of each road
  road_turned : (P : Road → Type 0) → ((arc : TimedArc) → IsGoodArc net arc → P (road_of (turned arc))) → P (road_of last)
      → (a : ℕ) (road : Road) → (setting_of z).road a ≡ Some road → P road
  road_turned P each at_last a road is =
      let found = map_some (at_number z.arcs a) road_of road is in
      ⊎_elim
      (λ (old : (arc : TimedArc) × (at_number net.arcs a ≡ Some arc) × (turned arc ≡ found.0)).
      subst P (ap road_of old.2 ∙ found.2) (each old.0 (good_arc net good a old.0 old.1)))
      (λ (new : (a ≡ length net.arcs + 1) × (last ≡ found.0)). subst P (ap road_of new.1 ∙ found.2) at_last)
      (turned_from a found.0 found.1)

  module _ (low : 1 ≤ goal) (high : goal ≤ net.nodes) where
    -- no road leads to the further node
    pub head_inner : (a : ℕ) (road : Road) → (setting_of z).road a ≡ Some road → road.head ≤ net.nodes
    unfolding last
    head_inner = road_turned (λ road. road.head ≤ net.nodes) (λ arc fine. fine.tail.1) high

    good_turned : (arc : TimedArc) → IsGoodArc net arc → IsGoodArc z (turned arc)
    unfolding z
    good_turned arc fine = record {
      tail = (fine.head.0, omega (arith, fine.head.1));
      head = (fine.tail.0, omega (arith, fine.tail.1));
      minutes = fine.minutes;
      cost = fine.cost;
      closed = omega (arith, fine.closed, length-append (map (mirrored_runs sum) net.closed) ([] ∷ []), length-map net.closed (mirrored_runs sum));
    }

    good_last : IsGoodArc z last
    unfolding z last
    good_last = record {
      tail = (omega arith, omega arith);
      head = (low, omega (arith, high));
      minutes = (omega arith, omega arith);
      cost = omega arith;
      closed = omega (arith, length-append (map (mirrored_runs sum) net.closed) ([] ∷ []), length-map net.closed (mirrored_runs sum));
    }

    good_kept : (park : Park) → IsGoodPark net park → IsGoodPark z park
    unfolding z
    good_kept park fine = record {
      weight = fine.weight;
      shut = omega (arith, fine.shut, length-append (map (mirrored_runs sum) net.closed) ([] ∷ []), length-map net.closed (mirrored_runs sum));
    }

    good_free : IsGoodPark z (free_park (length net.closed))
    unfolding z
    good_free = record {
      weight = omega arith;
      shut = omega (arith, length-append (map (mirrored_runs sum) net.closed) ([] ∷ []), length-map net.closed (mirrored_runs sum));
    }

    -- the mirrored net is well-formed
    pub good_mirrored : net.nodes < MOST_NET_NODES → length net.arcs + 1 < 2 ^ 32 → length net.closed + 1 < 2 ^ 32 → IsGoodNet z
    unfolding z last
    good_mirrored nodes arcs closed = record {
      nodes = omega (arith, nodes);
      arcs = omega (arith, arcs, length-append (map turned net.arcs) (last ∷ []), length-map net.arcs turned);
      closed = omega (arith, closed, length-append (map (mirrored_runs sum) net.closed) ([] ∷ []), length-map net.closed (mirrored_runs sum));
      parks = omega (arith, good.parks, length-append net.parks (Some (free_park (length net.closed)) ∷ []));
      each_arc = All-push (IsGoodArc z) (map turned net.arcs) last
          (All-map (IsGoodArc z) turned net.arcs (λ k d within. good_turned _ (good.each_arc k d within))) good_last;
      each_runs = All-push AreRuns (map (mirrored_runs sum) net.closed) []
          (All-map AreRuns (mirrored_runs sum) net.closed (λ k d within. runs_rise sum _ (good.each_runs k d within)))
          (record { filled = λ k d within. absurd (omega (arith, within)); apart = λ i j d lt within. absurd (omega (arith, within)) });
      each_park = All-push (λ o. ForSome o (IsGoodPark z)) net.parks (Some (free_park (length net.closed)))
          (λ k d within park is. good_kept park (good.each_park k d within park is))
          (λ park is. (let same : free_park (length net.closed) ≡ park = cc in subst (IsGoodPark z) same good_free));
    }

    pub good_made : (made : Net) → made ≡ mirrored net goal sum → net.nodes < MOST_NET_NODES → length net.arcs + 1 < 2 ^ 32
        → length net.closed + 1 < 2 ^ 32 → IsGoodNet made
    good_made made is nodes arcs closed = subst IsGoodNet (z_is ∙ sym is) (good_mirrored nodes arcs closed)

  -- the gate is the only road from the further node
  pub gate_only : (a : ℕ) (road : Road) → (setting_of z).road a ≡ Some road → road.tail ≡ net.nodes + 1
      → (a ≡ length net.arcs + 1) × (gate_road net goal ≡ road)
  unfolding last
  gate_only a road is outer =
      let found = map_some (at_number z.arcs a) road_of road is in
      ⊎_elim
      (λ (old : (arc : TimedArc) × (at_number net.arcs a ≡ Some arc) × (turned arc ≡ found.0)).
      (let fine : IsGoodArc net old.0 = good_arc net good a old.0 old.1 in
      absurd (omega (arith, outer, fine.head.1, ap (λ (w : TimedArc). w.tail.0) old.2, ap (λ (w : Road). w.tail) found.2))))
      (λ (new : (a ≡ length net.arcs + 1) × (last ≡ found.0)). (new.0, ap road_of new.1 ∙ found.2))
      (turned_from a found.0 found.1)

  gate_at : at_number z.arcs (length net.arcs + 1) ≡ Some last
  unfolding z last
  gate_at = ap (λ (n : ℕ). at_number (map turned net.arcs ++ last ∷ []) (n + 1)) (sym (length-map net.arcs turned)) ∙ at_last (map turned net.arcs) last

  pub gate_is : (setting_of z).road (length net.arcs + 1) ≡ Some (gate_road net goal)
  unfolding last
  gate_is = ap (option_map road_of) gate_at

  pub gate_open : (t : ℕ) → (setting_of z).shut (length net.arcs + 1) t ≡ false
  unfolding z last
  gate_open t = ap (λ (o : Option TimedArc). any_has (runs_by z o) t) gate_at ∙ ap (λ (w : List Run). any_has w t) (list_last (mirrored_runs sum) net.closed)

  park_free : park_at z (net.nodes + 1) ≡ Some (free_park (length net.closed))
  unfolding z
  park_free = ap option_flatten (ap (λ (n : ℕ). at_number (net.parks ++ Some (free_park (length net.closed)) ∷ []) (n + 1)) (sym good.parks)
      ∙ at_last net.parks (Some (free_park (length net.closed))))

  -- waiting at the further node is free
  pub free : (setting_of z).weight (net.nodes + 1) ≡ Some 0
  unfolding z
  free = ap (option_map (λ park. park.weight)) park_free

  pub free_open : (t : ℕ) → (setting_of z).wait_shut (net.nodes + 1) t ≡ false
  unfolding z
  free_open t = ap (λ (o : Option Park). any_has (shut_by z o) t) park_free ∙ ap (λ (w : List Run). any_has w t) (list_last (mirrored_runs sum) net.closed)

  -- each road of the mirrored net takes time
  pub takes_mirrored : TakesTime (setting_of z)
  unfolding last
  takes_mirrored = road_turned (λ road. 1 ≤ road.minutes) (λ arc fine. fine.minutes.0) (omega arith)

  -- and is one of its arcs
  pub numbers_mirrored : IsNumberedUpTo (setting_of z) (length z.arcs)
  numbers_mirrored a road is =
      let found = map_some (at_number z.arcs a) road_of road is in
      number_within z.arcs a found.0 found.1

  -- no minute of the mirrored net costs more
  pub cheap_mirrored : HasCheapArcs net → IsCheap (setting_of z)
  unfolding z last
  cheap_mirrored cheap = record {
    each_road = λ a road is. (
        let found = map_some (at_number z.arcs a) road_of road is in
        ⊎_elim
        (λ (old : (arc : TimedArc) × (at_number net.arcs a ≡ Some arc) × (turned arc ≡ found.0)).
        (let low = at_number-all (λ b. b.cost ≤ DEAREST_MINUTE * b.minutes) net.arcs a old.0 cheap old.1 in
        omega (
          arith,
          low,
          ap (λ (w : TimedArc). w.cost) old.2,
          ap (λ (w : TimedArc). w.minutes) old.2,
          ap (λ (w : Road). w.cost) found.2,
          ap (λ (w : Road). w.minutes) found.2,
        )))
        (λ (new : (a ≡ length net.arcs + 1) × (last ≡ found.0)).
        omega (arith, ap (λ (w : TimedArc). w.cost) new.1, ap (λ (w : Road). w.cost) found.2))
        (turned_from a found.0 found.1));
    each_weight = λ v w is. ⊎_elim
        (λ (old : (park : Park) × (park_at net v ≡ Some park) × (park.weight ≡ w)).
        (let low = weight_small net good v w (ap (option_map (λ park. park.weight)) old.1 ∙ ap (λ (k : ℕ). Some k) old.2) in omega (arith, low)))
        (λ (new : (v ≡ length net.parks + 1) × (0 ≡ w)). omega (arith, new.1))
        (park_either v w is);
  }
