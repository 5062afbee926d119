-- A walk over the states of rested tours is a rested tour, whose steps are read off its roads.
use Rattle.std.proofs.Common.{◌≡◌, ◌⊎◌, ⊎_elim, ℕ, zero, suc, ◌+◌, ◌*◌, ◌/◌, ◌%◌, ◌≤◌, ◌<◌, leb, Some, None, List, [], ◌∷◌, ◌++◌, length, map, replicate, refl, sym, ◌∙◌, ap, subst, arith}
use Rattle.std.specs.Prelude.{if◌then◌else◌, slice_get}
use Rattle.std.proofs.lemmas.Bool.{le-leb, leb-true}
use Rattle.std.proofs.lemmas.Nat.{div-mul-add, mod-mul-add}
use Rattle.std.proofs.lemmas.Option.{same_Some}
use Rattle.std.proofs.Math.Nat.{mod-lt}
use Rattle.route_base.specs.Setting.{Setting}
use Rattle.route_base.specs.Itinerary.{Position, Step, drive, wait, Moves, Walks}
use Rattle.route_base.specs.Net.{at_number}
use Rattle.route_base.proofs.Waiting.{same_position, waits}
use Rattle.route_base.proofs.Logic.{behind_test}
use Rattle.drive_breaks.specs.Rested.{minutes_of}
use Rattle.drive_breaks.specs.Inside.WithinRule.{IsWithinRuleFrom}
use Rattle.drive_breaks.proofs.Since.{HasSince, has_drive, has_wait, has_break, within_since, rested_waits, minutes_is}
use Rattle.drive_states.specs.declared.rule.BreakRule.{BreakRule}
use Rattle.propagation.specs.Inside.Invariants.{point}
use Rattle.ruled_search.specs.Routes.{state_before}
use Rattle.state_dominance.specs.Inside.Product.{IsBase, code, product}
use Rattle.state_dominance.specs.OneRule.{one_rule}
use Rattle.state_dominance.specs.Serving.{joint, served_limit}
use Rattle.state_dominance.proofs.Roads.{IsDriveRoad, IsRestRoad, IsServiceRoad, road_kinds}
use Rattle.state_dominance.proofs.Served.{joint_served, joint_state}
use Rattle.stop_tour.specs.Tours.{TourPosition, TourStep, go, serve, TourMoves, TourWalks}
use Rattle.stop_tour.specs.declared.stops.Stop.{Stop}
use Rattle.rested_tours.specs.Inside.TourRuler.{stop_service, tour_ruler}
use Rattle.rested_tours.specs.RestedTours.{seen}
use Rattle.rested_tours.proofs.Reading.{read, read_road, reads}
use Rattle.rested_tours.proofs.ServingSteps.{tour_at, tells_drive, tells_wait, tells_service}
use Rattle.rested_tours.proofs.TourWalking.{spot, same_spot, goes, tour_append, seen_goes, seen_behind}

module _ (s : Setting) (stops : List Stop) (rule : BreakRule) (base until : ℕ) (is_base : IsBase s (tour_ruler stops rule) base) (no_road : s.road 0 ≡ None)
    (long : (i : ℕ) (stop : Stop) → at_number stops i ≡ Some stop → 1 ≤ stop.service) (few : length (map stop_service stops) < served_limit) where
  abbrev pub width : ℕ
  width = served_limit

  low : (n : ℕ) → n % width < width
  low n = mod-lt n (omega arith)

  -- the position over states is at this position, and so many stops were served and minutes driven
  pub record IsAt (big : Position) (p : TourPosition) (back : List Step) : Type 0 where
    pub node : p.at.node ≡ big.node % base
    pub minute : p.at.minute ≡ big.minute
    pub cost : p.at.cost ≡ big.cost
    pub served : p.served ≡ big.node / base % width
    pub since : HasSince s.road rule back (big.node / base / width)
    pub fine : big.node / base / width ≤ rule.drive

  -- the steps lead on, and keep the rule
  pub record GoesOn (steps : List TourStep) (p q : TourPosition) (back : List Step) : Type 0 where
    pub walk : TourWalks s stops until steps p q
    pub rested : IsWithinRuleFrom s.road rule back (map seen steps)

  -- what one step over states is
  pub record Stepped (x : Step) (state : ℕ) (next : Position) (p : TourPosition) (back : List Step) : Type 0 where
    pub before : state ≡ state_before base x (next.node / base)
    pub ys : List TourStep
    pub is : read rule.rest base x ≡ ys
    pub q : TourPosition
    pub walk : TourWalks s stops until ys p q
    pub behind : List Step
    pub sees : behind ≡ map seen ys ++ back
    pub rested : (zs : List TourStep) → IsWithinRuleFrom s.road rule behind (map seen zs) → IsWithinRuleFrom s.road rule back (map seen (ys ++ zs))
    pub to : IsAt next q behind

  -- the position of the tour is that of the position over states
  pub same_place : (big : Position) (p : TourPosition) (back : List Step) → IsAt big p back → p ≡ tour_at base big
  same_place big p back at =
      same_spot p (tour_at base big) (same_position p.at (point (big.node % base) big.minute big.cost) at.node at.minute at.cost) at.served

  at_tour : (big : Position) (back : List Step) → HasSince s.road rule back (big.node / base / width) → big.node / base / width ≤ rule.drive
      → IsAt big (tour_at base big) back
  at_tour big back since fine = record { node = refl; minute = refl; cost = refl; served = refl; since = since; fine = fine }

  -- one step of the tour
  walks_one : (y : TourStep) (big next : Position) (p : TourPosition) (back : List Step) → IsAt big p back
      → TourMoves s stops until y (tour_at base big) (tour_at base next) → TourWalks s stops until (y ∷ []) p (tour_at base next)
  walks_one y big next p back at move =
      (tour_at base next, subst (λ (w : TourPosition). TourMoves s stops until y w (tour_at base next)) (sym (same_place big p back at)) move, refl)

  by_drive : (x : ℕ) (big next : Position) (p : TourPosition) (back : List Step) → IsAt big p back
      → (move : Moves (product s (tour_ruler stops rule) base) until (drive x) big next)
      → IsDriveRoad s (tour_ruler stops rule) base x move.road → Stepped (drive x) (big.node / base) next p back
  by_drive x big next p back at move d =
      let t = tells_drive s stops (one_rule rule.drive rule.rest) base until is_base x big next move d in
      let was : ℕ = big.node / base / width in
      let total : ℕ = was + t.move.0.road.minutes in
      let minutes : minutes_of (s.road t.arc) ≡ t.move.0.road.minutes = minutes_is (s.road t.arc) t.move.0.road t.move.0.is in
      let allowed = behind_test (leb total rule.drive) (Some total) (next.node / base / width) t.allowed in
      let within = leb-true total rule.drive allowed.0 in
      let next_is = same_Some total (next.node / base / width) allowed.1 in
      record {
        before = sym t.held;
        ys = go (drive t.arc) ∷ [];
        is = ap (λ n. read_road rule.rest n (x / 3 % base)) t.kind ∙ ap (λ a. read_road rule.rest 0 a) t.number;
        q = tour_at base next;
        walk = walks_one (go (drive t.arc)) big next p back at t.move;
        behind = drive t.arc ∷ back;
        sees = refl;
        rested = λ zs rest. (within_since s.road rule back was (minutes_of (s.road t.arc)) at.since (omega (arith, within, minutes)), rest);
        to = at_tour next (drive t.arc ∷ back)
            (subst (HasSince s.road rule (drive t.arc ∷ back)) (omega (arith, minutes, next_is)) (has_drive s.road rule back was t.arc at.since))
            (omega (arith, next_is, within));
      }

  one_rest : (i m : ℕ) → slice_get (rule.rest ∷ []) i ≡ Some m → m ≡ rule.rest
  one_rest zero m is = sym (same_Some rule.rest m is)
  one_rest (suc i) m is = let bad : None ≡ Some m = is in cc

  none_left : (k : ℕ) → (one_rule rule.drive rule.rest).rest k rule.rest ≡ 0
  none_left k = ap (λ b. if b then 0 else k) (le-leb rule.rest rule.rest (omega arith))

  by_rest : (x : ℕ) (big next : Position) (p : TourPosition) (back : List Step) → IsAt big p back
      → (move : Moves (product s (tour_ruler stops rule) base) until (drive x) big next)
      → IsRestRoad s (tour_ruler stops rule) base x move.road → Stepped (drive x) (big.node / base) next p back
  by_rest x big next p back at move d =
      let small = is_base.nodes d.node d.weight d.rated in
      let here : big.node ≡ code base d.node d.state = sym move.tail ∙ d.tail in
      let node : p.at.node ≡ d.node = at.node ∙ ap (λ n. n % base) here ∙ mod-mul-add d.state base d.node small in
      let state : big.node / base ≡ d.state = ap (λ n. n / base) here ∙ div-mul-add d.state base d.node small in
      let long_is : d.rest ≡ rule.rest = one_rest d.place d.rest d.is in
      let none : (one_rule rule.drive rule.rest).rest (d.state / width) d.rest ≡ 0 =
      ap (λ m. (one_rule rule.drive rule.rest).rest (d.state / width) m) long_is ∙ none_left (d.state / width) in
      let there : next.node ≡ code base d.node (joint 0 (d.state % width)) =
      move.node ∙ d.head ∙ ap (λ k. code base d.node (joint k (d.state % width))) none in
      let after : next.node / base ≡ joint 0 (d.state % width) =
      ap (λ n. n / base) there ∙ div-mul-add (joint 0 (d.state % width)) base d.node small in
      let next_served : next.node / base % width ≡ d.state % width =
      ap (λ n. n % width) after ∙ joint_served 0 (d.state % width) (low d.state) in
      let next_state : next.node / base / width ≡ 0 =
      ap (λ n. n / width) after ∙ joint_state 0 (d.state % width) (low d.state) in
      let q : Position = point p.at.node next.minute next.cost in
      record {
        before = state ∙ sym d.held;
        ys = map go (replicate rule.rest wait);
        is = ap (λ n. read_road rule.rest n (x / 3 % base)) d.kind;
        q = spot q p.served;
        walk = goes s stops until (replicate rule.rest wait) p.at q p.served
            (subst (λ (w : Position). Walks s until (replicate rule.rest wait) p.at w)
            (same_position (point p.at.node (p.at.minute + rule.rest) (p.at.cost + rule.rest * d.weight)) q refl
            (omega (arith, move.minute, d.minutes, long_is, at.minute))
            (omega (arith, at.cost, move.cost, d.cost, ap (λ m. m * d.weight) long_is)))
            (waits s until rule.rest p.at.node p.at.minute p.at.cost d.weight
            (ap s.weight node ∙ d.rated)
            (λ u early late. ap (λ (v : ℕ). s.wait_shut v u) node ∙ sym (d.shut u)
            ∙ move.is_open u (omega (arith, early, at.minute)) (omega (arith, late, at.minute, d.minutes, long_is)))
            (omega (arith, move.in_time, d.minutes, long_is, at.minute))));
        behind = replicate rule.rest wait ++ back;
        sees = ap (λ (w : List Step). w ++ back) (sym (seen_goes (replicate rule.rest wait)));
        rested = λ zs rest. subst (IsWithinRuleFrom s.road rule back) (sym (seen_behind (replicate rule.rest wait) zs))
            (rested_waits s.road rule rule.rest back (map seen zs) rest);
        to = record {
          node = node ∙ sym (ap (λ n. n % base) there ∙ mod-mul-add (joint 0 (d.state % width)) base d.node small);
          minute = refl;
          cost = refl;
          served = at.served ∙ ap (λ n. n % width) state ∙ sym next_served;
          since = subst (HasSince s.road rule (replicate rule.rest wait ++ back)) (sym next_state) (has_break s.road rule back);
          fine = omega (arith, next_state);
        };
      }

  by_serve : (x : ℕ) (big next : Position) (p : TourPosition) (back : List Step) → IsAt big p back
      → (move : Moves (product s (tour_ruler stops rule) base) until (drive x) big next)
      → IsServiceRoad s (tour_ruler stops rule) base x move.road → Stepped (drive x) (big.node / base) next p back
  by_serve x big next p back at move d =
      let t = tells_service s stops (one_rule rule.drive rule.rest) base until is_base long few x big next move d in
      let was : ℕ = big.node / base / width in
      let nothing : minutes_of (s.road 0) ≡ 0 = ap minutes_of no_road in
      record {
        before = sym t.held;
        ys = serve (suc t.place) ∷ [];
        is = ap (λ n. read_road rule.rest n (x / 3 % base)) t.kind ∙ ap (λ a. read_road rule.rest 2 a) t.number;
        q = tour_at base next;
        walk = walks_one (serve (suc t.place)) big next p back at t.move;
        behind = drive 0 ∷ back;
        sees = refl;
        rested = λ zs rest. (within_since s.road rule back was (minutes_of (s.road 0)) at.since (omega (arith, nothing, at.fine)), rest);
        to = at_tour next (drive 0 ∷ back)
            (subst (HasSince s.road rule (drive 0 ∷ back)) (omega (arith, nothing, t.same)) (has_drive s.road rule back was 0 at.since))
            (omega (arith, t.same, at.fine));
      }

  pub stepped : (x : Step) (big next : Position) (p : TourPosition) (back : List Step) → IsAt big p back
      → Moves (product s (tour_ruler stops rule) base) until x big next → Stepped x (big.node / base) next p back
  stepped (drive x) big next p back at move = ⊎_elim
      (λ (d : IsDriveRoad s (tour_ruler stops rule) base x move.road). by_drive x big next p back at move d)
      (λ (other : IsRestRoad s (tour_ruler stops rule) base x move.road ⊎ IsServiceRoad s (tour_ruler stops rule) base x move.road). ⊎_elim
      (λ (d : IsRestRoad s (tour_ruler stops rule) base x move.road). by_rest x big next p back at move d)
      (λ (d : IsServiceRoad s (tour_ruler stops rule) base x move.road). by_serve x big next p back at move d)
      other)
      (road_kinds s (tour_ruler stops rule) base x move.road move.is)
  stepped wait big next p back at move =
      let same : next.node / base / width ≡ big.node / base / width = ap (λ n. n / base / width) move.node in
      record {
        before = sym (ap (λ n. n / base) move.node);
        ys = go wait ∷ [];
        is = refl;
        q = tour_at base next;
        walk = walks_one (go wait) big next p back at (tells_wait s stops (one_rule rule.drive rule.rest) base until is_base big next move);
        behind = wait ∷ back;
        sees = refl;
        rested = λ zs rest. rest;
        to = at_tour next (wait ∷ back)
            (subst (HasSince s.road rule (wait ∷ back)) (sym same) (has_wait s.road rule back (big.node / base / width) at.since))
            (omega (arith, at.fine, same));
      }

  pub goes_on : (xs : List Step) (big : Position) (p : TourPosition) (last : Position) (back : List Step) → IsAt big p back
      → Walks (product s (tour_ruler stops rule) base) until xs big last
      → GoesOn (reads rule.rest base xs) p (tour_at base last) back
  goes_on [] big p last back at walk = record { walk = same_place big p back at ∙ ap (tour_at base) walk; rested = tt }
  goes_on (x ∷ xs) big p last back at walk =
      let one = stepped x big walk.0 p back at walk.1 in
      let more = goes_on xs walk.0 one.q last one.behind one.to walk.2 in
      let steps : List TourStep = reads rule.rest base xs in
      let same : one.ys ++ steps ≡ reads rule.rest base (x ∷ xs) = ap (λ (w : List TourStep). w ++ steps) (sym one.is) in
      record {
        walk = subst (λ (w : List TourStep). TourWalks s stops until w p
            (tour_at base last)) same
            (tour_append s stops until one.ys steps p one.q (tour_at base last)
            one.walk more.walk);
        rested = subst (λ (w : List TourStep). IsWithinRuleFrom s.road rule back (map seen w)) same (one.rested steps more.rested);
      }
