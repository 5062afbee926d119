-- A step over the states of a ruler that serves stops is a step of a tour, and the other way round, whatever its rules.
use Rattle.std.proofs.Common.{◌≡◌, ℕ, suc, ◌+◌, ◌-◌, ◌/◌, ◌%◌, ◌≤◌, ◌<◌, Some, List, length, map, sym, ◌∙◌, ap, arith}
use Rattle.std.specs.Prelude.{slice_get}
use Rattle.std.specs.Option.{option_map}
use Rattle.std.proofs.lemmas.Nat.{div-mul-add, mod-mul-add}
use Rattle.std.proofs.lemmas.Option.{slice_get-map, slice_get_within}
use Rattle.route_base.specs.Setting.{Setting}
use Rattle.route_base.specs.Itinerary.{Position, drive, wait, Moves}
use Rattle.route_base.specs.Net.{at_number}
use Rattle.route_base.proofs.Logic.{map_some}
use Rattle.propagation.specs.Inside.Invariants.{point}
use Rattle.state_dominance.specs.Inside.Product.{Ruler, Service, IsBase, code, driven_by, driven_to, served_by, served_to, shut_for, road_code, product}
use Rattle.state_dominance.specs.Serving.{joint, served_limit, serving}
use Rattle.state_dominance.proofs.Roads.{IsDriveRoad, IsServiceRoad, road_is, shut_is}
use Rattle.state_dominance.proofs.Served.{joint_served, joint_state, may_serve, served_low, serves}
use Rattle.ruled_search.proofs.Arriving.{opens_in, within_window}
use Rattle.stop_tour.specs.Tours.{TourPosition, go, serve, Serves, TourMoves}
use Rattle.stop_tour.specs.declared.stops.Stop.{Stop}
use Rattle.rested_tours.specs.Inside.TourRuler.{stop_service}
use Rattle.rested_tours.proofs.TourWalking.{spot}

-- the position of a tour at a position over states
abbrev pub tour_at : ℕ → Position → TourPosition
tour_at base big = spot (point (big.node % base) big.minute big.cost) (big.node / base % served_limit)

-- the position over states at a position of a tour, where the rules are in a state
abbrev pub over : ℕ → ℕ → TourPosition → Position
over base k p = point (code base p.at.node (joint k p.served)) p.at.minute p.at.cost

module _ (s : Setting) (stops : List Stop) (rules : Ruler) (base until : ℕ) (is_base : IsBase s (serving (map stop_service stops) rules) base) where
  abbrev pub ruler : Ruler
  ruler = serving (map stop_service stops) rules

  -- a drive over states is one of the tour, which the rules allow
  pub record TellsDrive (x : ℕ) (big next : Position) : Type 0 where
    pub arc : ℕ
    pub kind : x % 3 ≡ 0
    pub number : x / 3 % base ≡ arc
    pub held : x / 3 / base / base ≡ big.node / base
    pub move : TourMoves s stops until (go (drive arc)) (tour_at base big) (tour_at base next)
    pub allowed : rules.drive (big.node / base / served_limit) move.0.road.minutes ≡ Some (next.node / base / served_limit)

  pub tells_drive : (x : ℕ) (big next : Position) (move : Moves (product s ruler base) until (drive x) big next)
      → IsDriveRoad s ruler base x move.road → TellsDrive x big next
  tells_drive x big next move d =
      let small = is_base.arcs d.arc d.over d.is in
      let here : big.node ≡ code base d.over.tail d.state = sym move.tail ∙ d.tail in
      let node : big.node % base ≡ d.over.tail = ap (λ n. n % base) here ∙ mod-mul-add d.state base d.over.tail small.1 in
      let state : big.node / base ≡ d.state = ap (λ n. n / base) here ∙ div-mul-add d.state base d.over.tail small.1 in
      let m = map_some (rules.drive (d.state / served_limit) d.over.minutes) (λ k. joint k (d.state % served_limit)) d.next d.allowed in
      let there : next.node ≡ code base d.over.head d.next = move.node ∙ d.head in
      let after : next.node / base ≡ d.next = ap (λ n. n / base) there ∙ div-mul-add d.next base d.over.head small.2 in
      let next_served : next.node / base % served_limit ≡ d.state % served_limit =
      ap (λ n. n % served_limit) (after ∙ sym m.2) ∙ joint_served m.0 (d.state % served_limit) (served_low d.state) in
      let next_state : next.node / base / served_limit ≡ m.0 =
      ap (λ n. n / served_limit) (after ∙ sym m.2) ∙ joint_state m.0 (d.state % served_limit) (served_low d.state) in
      record {
        arc = d.arc;
        kind = d.kind;
        number = d.number;
        held = d.held ∙ sym state;
        move = (
          record {
            road = d.over;
            is = d.is;
            tail = sym node;
            is_open = λ t early late. sym (d.shut t) ∙ move.is_open t early (omega (arith, late, d.minutes));
            in_time = omega (arith, move.in_time, d.minutes);
            node = ap (λ n. n % base) there ∙ mod-mul-add d.next base d.over.head small.2;
            minute = omega (arith, move.minute, d.minutes);
            cost = omega (arith, move.cost, d.cost);
          },
          next_served ∙ sym (ap (λ n. n % served_limit) state),
        );
        allowed = ap (λ n. rules.drive (n / served_limit) d.over.minutes) state ∙ m.1 ∙ ap (λ n. Some n) (sym next_state);
      }

  -- a wait over states is one of the tour
  pub tells_wait : (big next : Position) → Moves (product s ruler base) until wait big next
      → TourMoves s stops until (go wait) (tour_at base big) (tour_at base next)
  tells_wait big next move = (
    record {
      weight = move.weight;
      rated = move.rated;
      is_open = move.is_open;
      in_time = move.in_time;
      node = ap (λ n. n % base) move.node;
      minute = move.minute;
      cost = move.cost;
    },
    ap (λ n. n / base % served_limit) move.node,
  )

  -- a service over states is one of the tour, which the rules don't see
  pub record TellsService (x : ℕ) (big next : Position) : Type 0 where
    pub place : ℕ
    pub kind : x % 3 ≡ 2
    pub number : x / 3 % base ≡ place
    pub held : x / 3 / base / base ≡ big.node / base
    pub move : TourMoves s stops until (serve (suc place)) (tour_at base big) (tour_at base next)
    pub same : next.node / base / served_limit ≡ big.node / base / served_limit

  pub tells_service : ((i : ℕ) (stop : Stop) → at_number stops i ≡ Some stop → 1 ≤ stop.service) → length (map stop_service stops) < served_limit
      → (x : ℕ) (big next : Position) (move : Moves (product s ruler base) until (drive x) big next)
      → IsServiceRoad s ruler base x move.road → TellsService x big next
  tells_service long few x big next move d =
      let small = is_base.services d.place d.service d.is in
      let found = map_some (slice_get stops d.place) stop_service d.service (sym (slice_get-map stop_service stops d.place) ∙ d.is) in
      let stop : Stop = found.0 in
      let is_stop : at_number stops (suc d.place) ≡ Some stop = found.1 in
      let some = long (suc d.place) stop is_stop in
      let here : big.node ≡ code base d.service.node d.state = sym move.tail ∙ d.tail in
      let node : big.node % base ≡ d.service.node = ap (λ n. n % base) here ∙ mod-mul-add d.state base d.service.node small.1 in
      let state : big.node / base ≡ d.state = ap (λ n. n / base) here ∙ div-mul-add d.state base d.service.node small.1 in
      let had = may_serve (map stop_service stops) rules d.state d.place d.next d.allowed in
      let more : suc d.place < served_limit = omega (arith, had.0, few) in
      let there : next.node ≡ code base d.service.node d.next = move.node ∙ d.head in
      let after : next.node / base ≡ d.next = ap (λ n. n / base) there ∙ div-mul-add d.next base d.service.node small.1 in
      let place_is : big.node / base % served_limit ≡ d.place = ap (λ n. n % served_limit) state ∙ had.1 in
      let service : d.service.minutes ≡ stop.service = ap (λ (w : Service). w.minutes) (sym found.2) in
      let first = within_window d.service big.minute
      (sym (d.shut big.minute) ∙ move.is_open big.minute (omega arith) (omega (arith, d.minutes, service, some))) in
      let last_minute : ℕ = big.minute + (stop.service - 1) in
      let last = within_window d.service last_minute
      (sym (d.shut last_minute) ∙ move.is_open last_minute (omega arith) (omega (arith, d.minutes, service, some))) in
      record {
        place = d.place;
        kind = d.kind;
        number = d.number;
        held = d.held ∙ sym state;
        move = record {
          next = omega (arith, place_is);
          stop = stop;
          is = is_stop;
          here = ap (λ (w : Service). w.node) found.2 ∙ sym node;
          from = omega (arith, ap (λ (w : Service). w.from) found.2, first.0);
          to = omega (arith, ap (λ (w : Service). w.to) found.2, last.1, some);
          in_time = omega (arith, move.in_time, d.minutes, service);
          node = ap (λ n. n % base) there ∙ mod-mul-add d.next base d.service.node small.1 ∙ sym node;
          minute = omega (arith, move.minute, d.minutes, service);
          cost = omega (arith, move.cost, d.cost);
          served = ap (λ n. n % served_limit) (after ∙ sym had.2) ∙ joint_served (d.state / served_limit) (suc d.place) more;
        };
        same = ap (λ n. n / served_limit) (after ∙ sym had.2) ∙ joint_state (d.state / served_limit) (suc d.place) more
            ∙ sym (ap (λ n. n / served_limit) state);
      }

  -- a drive of the tour that the rules allow is one over states
  pub drives_over : (a k next : ℕ) (p q : TourPosition) (move : TourMoves s stops until (go (drive a)) p q) → p.served < served_limit
      → rules.drive k move.0.road.minutes ≡ Some next
      → Moves (product s ruler base) until (drive (road_code base 0 a move.0.road.tail (joint k p.served))) (over base k p) (over base next q)
  drives_over a k next p q (move, same) low allowed =
      let small = is_base.arcs a move.road move.is in
      let state : ℕ = joint k p.served in
      let allows : ruler.drive state move.road.minutes ≡ Some (joint next p.served) =
      ap (λ n. option_map (λ w. joint w (state % served_limit)) (rules.drive n move.road.minutes)) (joint_state k p.served low)
      ∙ ap (λ o. option_map (λ w. joint w (state % served_limit)) o) allowed
      ∙ ap (λ n. Some (joint next n)) (joint_served k p.served low) in
      record {
        road = record {
          tail = code base move.road.tail state;
          head = code base move.road.head (joint next p.served);
          minutes = move.road.minutes;
          cost = move.road.cost;
        };
        is = road_is s ruler base 0 a move.road.tail state (omega arith) small.0 small.1 ∙ ap (λ o. driven_by ruler base state o) move.is
            ∙ ap (λ o. driven_to ruler base state move.road o) allows;
        tail = ap (λ n. code base n state) move.tail;
        is_open = λ u early late. shut_is s ruler base 0 a move.road.tail state (omega arith) small.0 small.1 u ∙ move.is_open u early late;
        in_time = move.in_time;
        node = ap (λ n. code base q.at.node (joint next n)) same ∙ ap (λ n. code base n (joint next p.served)) move.node;
        minute = move.minute;
        cost = move.cost;
      }

  -- a wait of the tour is one over states
  pub waits_over : (k : ℕ) (p q : TourPosition) → TourMoves s stops until (go wait) p q → p.at.node < base
      → Moves (product s ruler base) until wait (over base k p) (over base k q)
  waits_over k p q (move, same) small =
      let node : code base p.at.node (joint k p.served) % base ≡ p.at.node = mod-mul-add (joint k p.served) base p.at.node small in
      record {
        weight = move.weight;
        rated = ap s.weight node ∙ move.rated;
        is_open = ap (λ n. s.wait_shut n p.at.minute) node ∙ move.is_open;
        in_time = move.in_time;
        node = ap (λ n. code base q.at.node (joint k n)) same ∙ ap (λ n. code base n (joint k p.served)) move.node;
        minute = move.minute;
        cost = move.cost;
      }

  -- the next service is that of the stop
  pub next_service : (i : ℕ) (p q : TourPosition) (move : Serves stops until i p q)
      → slice_get (map stop_service stops) p.served ≡ Some (stop_service move.stop)
  next_service i p q move =
      let number : suc p.served ≡ i = omega (arith, move.next) in
      slice_get-map stop_service stops p.served ∙ ap (option_map stop_service) (ap (at_number stops) number ∙ move.is)

  -- a service of the tour is one over states
  pub serves_over : (i k : ℕ) (p q : TourPosition) (move : Serves stops until i p q) → p.served < served_limit
      → Moves (product s ruler base) until (drive (road_code base 2 p.served 0 (joint k p.served))) (over base k p) (over base k q)
  serves_over i k p q move low =
      let j : ℕ = p.served in
      let state : ℕ = joint k j in
      let found = next_service i p q move in
      let less = slice_get_within (map stop_service stops) j (stop_service move.stop) found in
      let small = is_base.services j (stop_service move.stop) found in
      let zero_small : 0 < base = omega (arith, small.0) in
      let served : q.served ≡ suc j = omega (arith, move.served, move.next) in
      let allows : ruler.serve state j ≡ Some (joint k (suc j)) =
      serves (map stop_service stops) rules state j less (joint_served k j low) ∙ ap (λ n. Some (joint n (suc j))) (joint_state k j low) in
      record {
        road = record {
          tail = code base move.stop.node.0 state;
          head = code base move.stop.node.0 (joint k (suc j));
          minutes = move.stop.service;
          cost = 0;
        };
        is = road_is s ruler base 2 j 0 state (omega arith) small.0 zero_small ∙ ap (λ o. served_by ruler base j state o) found
            ∙ ap (λ o. served_to base state (stop_service move.stop) o) allows;
        tail = ap (λ n. code base n state) move.here;
        is_open = λ u early late. shut_is s ruler base 2 j 0 state (omega arith) small.0 zero_small u ∙ ap (λ o. shut_for o u) found
            ∙ opens_in (stop_service move.stop) u (omega (arith, early, move.from)) (omega (arith, late, move.to));
        in_time = move.in_time;
        node = ap (λ n. code base q.at.node (joint k n)) served ∙ ap (λ n. code base n (joint k (suc j))) (move.node ∙ sym move.here);
        minute = move.minute;
        cost = omega (arith, move.cost);
      }
