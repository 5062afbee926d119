-- A rested tour has a least walk over the states of its ruler: at each point its state has the minutes of the stretch.
use Rattle.std.proofs.Common.{◌≡◌, ◌⊎◌, inl, inr, ⊎_elim, ℕ, zero, suc, ◌+◌, ◌-◌, ◌*◌, ◌/◌, ◌%◌, ◌≤◌, ◌<◌, Some, None, List, [], ◌∷◌, ◌++◌, length, map, replicate, append_assoc, append-nil, refl, sym, ◌∙◌, ap, subst, arith}
use Rattle.std.specs.Prelude.{if◌then◌else◌, reverse}
use Rattle.std.proofs.lemmas.Bool.{le-leb, cases_lt}
use Rattle.std.proofs.lemmas.List.{replicate-append-replicate, reverse-append}
use Rattle.std.proofs.lemmas.Nat.{div-mul-add, mod-mul-add}
use Rattle.std.proofs.lemmas.Option.{slice_get_within}
use Rattle.route_base.specs.Setting.{Setting}
use Rattle.route_base.specs.Itinerary.{Position, Step, drive, wait, Moves, Walks}
use Rattle.route_base.proofs.Waiting.{waits, waits_in_time, waits_open, waits_rated}
use Rattle.route_base.proofs.Walking.{walk-push, walk_parts, walks_same}
use Rattle.drive_breaks.specs.Rested.{minutes_of, IsRestedFrom, IsStretch, KeepsRule}
use Rattle.drive_breaks.proofs.Since.{IsDriven, at_start, by_drive, minutes_is, waits_over as waits_on}
use Rattle.drive_breaks.proofs.Stretches.{stretch_start, stretch_drive, stretch_few, stretch_many}
use Rattle.drive_states.specs.declared.rule.BreakRule.{BreakRule}
use Rattle.propagation.specs.Inside.Invariants.{point}
use Rattle.ruled_search.specs.Routes.{state_before}
use Rattle.state_dominance.specs.Inside.Product.{IsBase, code, rested_by, road_code, product}
use Rattle.state_dominance.specs.OneRule.{one_rule}
use Rattle.state_dominance.specs.Serving.{joint, served_limit}
use Rattle.state_dominance.proofs.Roads.{road_is, shut_is}
use Rattle.state_dominance.proofs.Served.{joint_served, joint_state}
use Rattle.stop_tour.specs.Tours.{TourPosition, TourStep, go, serve, Serves, TourMoves, TourWalks}
use Rattle.stop_tour.specs.declared.stops.Stop.{Stop}
use Rattle.rested_tours.specs.Inside.TourRuler.{stop_service, tour_ruler}
use Rattle.rested_tours.specs.RestedTours.{seen}
use Rattle.rested_tours.proofs.Reading.{read, read_code, reads, reads_both, reads_waits, reverse_onto, going_waits}
use Rattle.rested_tours.proofs.ServingSteps.{over, drives_over, next_service, serves_over, waits_over}
use Rattle.rested_tours.proofs.StateSteps.{IsLeastBack, RestsOnce, minutes_before, seen_of}
use Rattle.rested_tours.proofs.TourWalking.{spot, same_spot, goes, seen_behind}

-- the state of a road, by its number
code_state : (base kind a v k : ℕ) → kind < 3 → a < base → v < base → road_code base kind a v k / 3 / base / base ≡ k
code_state base kind a v k small arc node =
    ap (λ n. n / base / base) (div-mul-add ((k * base + v) * base + a) 3 kind small)
    ∙ ap (λ n. n / base) (div-mul-add (k * base + v) base a arc) ∙ div-mul-add k base v node

-- waits behind waits
waits_both : (m n : ℕ) (back : List Step) → replicate m wait ++ (replicate n wait ++ back) ≡ replicate (m + n) wait ++ back
waits_both m n back = sym (append_assoc (replicate m wait) (replicate n wait) back)
    ∙ ap (λ (w : List Step). w ++ back) (replicate-append-replicate m n wait)

module _ (s : Setting) (stops : List Stop) (rule : BreakRule) (base until : ℕ) (is_base : IsBase s (tour_ruler stops rule) base) (no_road : s.road 0 ≡ None)
    (some : 1 ≤ rule.rest) (few : length (map stop_service stops) < served_limit) (start : TourPosition) where
  abbrev pub count : ℕ
  count = length (map stop_service stops)

  under : (j : ℕ) → j < suc count → j < served_limit
  under j small = omega (arith, small, few)

  -- the steps as the break rule sees them
  abbrev pub behind : List Step → List Step
  behind zs = seen_of s stops rule base until start zs

  -- steps over states, the last first, are a least walk to the position, at the end of a stretch of so many minutes
  pub record IsLed (zs : List Step) (p : TourPosition) (r : ℕ) : Type 0 where
    pub walk : Walks (product s (tour_ruler stops rule) base) until (reverse zs) (over base 0 start) (over base r p)
    pub traced : IsLeastBack s stops rule base until start (joint r p.served) zs p
    pub stretch : IsStretch s.road rule.rest (behind zs) r
    pub small : p.at.node < base
    pub low : p.served < suc count

  led_push : (z : Step) (zs : List Step) (p q : TourPosition) (r n : ℕ) → IsLed zs p r
      → Moves (product s (tour_ruler stops rule) base) until z (over base r p) (over base n q)
      → TourWalks s stops until (read rule.rest base z) p q → RestsOnce s stops rule base until start z (behind zs)
      → state_before base z (joint n q.served) ≡ joint r p.served → IsStretch s.road rule.rest (behind (z ∷ zs)) n
      → q.at.node < base → q.served < suc count → IsLed (z ∷ zs) q n
  led_push z zs p q r n led move tour rests before stretch small low = record {
    walk = subst (λ (w : List Step). Walks (product s (tour_ruler stops rule) base) until w (over base 0 start) (over base n q)) (sym (reverse-append (z ∷ []) zs))
        (walk-push (product s (tour_ruler stops rule) base) until (reverse zs) z (over base 0 start) (over base r p) (over base n q) led.walk move);
    traced = (
      record {
        served = joint_served n q.served (under q.served low);
        minutes = subst (IsStretch s.road rule.rest (behind (z ∷ zs))) (sym (joint_state n q.served (under q.served low))) stretch;
      },
      rests,
      p,
      tour,
      subst (λ k. IsLeastBack s stops rule base until start k zs p) (sym before) led.traced,
    );
    stretch = stretch;
    small = small;
    low = low;
  }

  led_wait : (zs : List Step) (p q : TourPosition) (r : ℕ) → IsLed zs p r → TourMoves s stops until (go wait) p q
      → IsStretch s.road rule.rest (wait ∷ behind zs) r → IsLed (wait ∷ zs) q r
  led_wait zs p q r led (move, same) stretch =
      led_push wait zs p q r r led
      (waits_over s stops (one_rule rule.drive rule.rest) base until is_base r p q (move, same) led.small)
      (q, (move, same), refl) tt (ap (joint r) same) stretch
      (subst (λ n. n < base) (sym move.node) led.small) (omega (arith, led.low, same))

  -- so many waits more, none of which ends a break
  led_waits : (n : ℕ) (zs : List Step) (p q : TourPosition) (r : ℕ) → IsLed zs p r → Walks s until (replicate n wait) p.at q.at → q.served ≡ p.served
      → ((m : ℕ) → m ≤ n → IsStretch s.road rule.rest (replicate m wait ++ behind zs) r) → IsLed (replicate n wait ++ zs) q r
  led_waits zero zs p q r led walk same each = subst (λ (w : TourPosition). IsLed zs w r) (same_spot p q walk (sym same)) led
  led_waits (suc n) zs p q r led walk same each =
      let next : TourPosition = spot walk.0 p.served in
      subst (λ (w : List Step). IsLed w q r) (waits_on n zs)
      (led_waits n (wait ∷ zs) next q r (led_wait zs p next r led (walk.1, refl) (each 1 (omega arith))) walk.2 same
      (λ m few. subst (λ (w : List Step). IsStretch s.road rule.rest w r) (sym (waits_on m (behind zs))) (each (suc m) (omega (arith, few)))))

  -- a rest begins the minutes since the last break anew
  rests_on : (k j : ℕ) → j < suc count → (tour_ruler stops rule).rest (joint k j) rule.rest ≡ joint 0 j
  rests_on k j small =
      ap (λ b. joint (if b then 0 else joint k j / served_limit) (joint k j % served_limit)) (le-leb rule.rest rule.rest (omega arith))
      ∙ ap (joint 0) (joint_served k j (under j small))

  -- no other kind of road is a rest
  no_rest : (kind a v k : ℕ) (back : List Step) → kind < 3 → (kind ≡ 1 → ⊥) → RestsOnce s stops rule base until start (drive (road_code base kind a v k)) back
  no_rest kind a v k back small other is = absurd (other (sym (mod-mul-add ((k * base + v) * base + a) 3 kind small) ∙ is))

  led_drive : (zs : List Step) (p q : TourPosition) (r a : ℕ) → IsLed zs p r → TourMoves s stops until (go (drive a)) p q
      → r + minutes_of (s.road a) ≤ rule.drive
      → (z : Step) × IsLed (z ∷ zs) q (r + minutes_of (s.road a)) × (read rule.rest base z ≡ go (drive a) ∷ [])
  led_drive zs p q r a led (move, same) fits =
      let small = is_base.arcs a move.road move.is in
      let minutes : minutes_of (s.road a) ≡ move.road.minutes = minutes_is (s.road a) move.road move.is in
      let next : ℕ = r + minutes_of (s.road a) in
      let state : ℕ = joint r p.served in
      let x : ℕ = road_code base 0 a move.road.tail state in
      let told : read rule.rest base (drive x) ≡ go (drive a) ∷ [] = read_code rule.rest base 0 a move.road.tail state (omega arith) small.0 in
      let allowed : (one_rule rule.drive rule.rest).drive r move.road.minutes ≡ Some next =
      ap (λ b. if b then Some (r + move.road.minutes) else None) (le-leb (r + move.road.minutes) rule.drive (omega (arith, fits, minutes)))
      ∙ ap (λ n. Some (r + n)) (sym minutes) in (
        drive x,
        led_push (drive x) zs p q r next led
            (drives_over s stops (one_rule rule.drive rule.rest) base until is_base a r next p q (move, same) (under p.served led.low) allowed)
            (subst (λ (w : List TourStep). TourWalks s stops until w p q) (sym told) (q, (move, same), refl))
            (no_rest 0 a move.road.tail state (behind zs) (omega arith) (λ is. omega (arith, is)))
            (code_state base 0 a move.road.tail state (omega arith) small.0 small.1)
            (subst (λ (w : List TourStep). IsStretch s.road rule.rest (map seen (w ++ reads rule.rest base zs)) next) (sym told)
            (stretch_drive s.road rule.rest some (behind zs) r a led.stretch))
            (subst (λ n. n < base) (sym move.node) small.2) (omega (arith, led.low, same)),
        told,
      )

  led_serve : (zs : List Step) (p q : TourPosition) (r i : ℕ) → IsLed zs p r → Serves stops until i p q
      → (z : Step) × IsLed (z ∷ zs) q r × (read rule.rest base z ≡ serve i ∷ [])
  led_serve zs p q r i led move =
      let j : ℕ = p.served in
      let next : i ≡ suc j = omega (arith, move.next) in
      let found = next_service s stops (one_rule rule.drive rule.rest) base until is_base i p q move in
      let less : j < count = slice_get_within (map stop_service stops) j (stop_service move.stop) found in
      let small = is_base.services j (stop_service move.stop) found in
      let zero_small : 0 < base = omega (arith, small.0) in
      let served : q.served ≡ suc j = move.served ∙ next in
      let state : ℕ = joint r j in
      let x : ℕ = road_code base 2 j 0 state in
      let told : read rule.rest base (drive x) ≡ serve i ∷ [] =
      read_code rule.rest base 2 j 0 state (omega arith) small.0 ∙ ap (λ n. serve n ∷ []) (sym next) in
      let nothing : r + minutes_of (s.road 0) ≡ r = ap (λ o. r + minutes_of o) no_road ∙ omega arith in (
        drive x,
        led_push (drive x) zs p q r r led
            (serves_over s stops (one_rule rule.drive rule.rest) base until is_base i r p q move (under p.served led.low))
            (subst (λ (w : List TourStep). TourWalks s stops until w p q) (sym told) (q, move, refl))
            (no_rest 2 j 0 state (behind zs) (omega arith) (λ is. omega (arith, is)))
            (code_state base 2 j 0 state (omega arith) small.0 zero_small)
            (subst (λ (w : List TourStep). IsStretch s.road rule.rest (map seen (w ++ reads rule.rest base zs)) r) (sym told)
            (subst (IsStretch s.road rule.rest (drive 0 ∷ behind zs)) nothing (stretch_drive s.road rule.rest some (behind zs) r 0 led.stretch)))
            (subst (λ n. n < base) (sym move.node) led.small) (omega (arith, less, served)),
        told,
      )

  -- what the break rule sees of a rest
  seen_rest : (z : Step) (zs : List Step) → read rule.rest base z ≡ replicate rule.rest (go wait) → behind (z ∷ zs) ≡ replicate rule.rest wait ++ behind zs
  seen_rest z zs is =
      ap (λ (w : List TourStep). map seen (w ++ reads rule.rest base zs)) (is ∙ sym (going_waits rule.rest))
      ∙ seen_behind (replicate rule.rest wait) (reads rule.rest base zs)

  led_rest : (zs : List Step) (p q : TourPosition) (r : ℕ) → IsLed zs p r → IsDriven (behind zs) → 1 ≤ r → Walks s until (replicate rule.rest wait) p.at q.at
      → q.served ≡ p.served → (z : Step) × IsLed (z ∷ zs) q 0 × (read rule.rest base z ≡ replicate rule.rest (go wait))
  led_rest zs p q r led driven more walk same =
      let state : ℕ = joint r p.served in
      let node : ℕ = p.at.node in
      let place : 0 < base = is_base.rests 0 rule.rest refl in
      let rated = waits_rated s until rule.rest p.at q.at some walk in
      let weight : ℕ = rated.0 in
      let opens = waits_open s until rule.rest p.at q.at walk in
      let in_time = waits_in_time s until rule.rest p.at q.at some walk in
      let end : q.at ≡ point node (p.at.minute + rule.rest) (p.at.cost + rule.rest * weight) =
      walks_same s until (replicate rule.rest wait) p.at q.at (point node (p.at.minute + rule.rest) (p.at.cost + rule.rest * weight)) walk
      (waits s until rule.rest node p.at.minute p.at.cost weight rated.1 opens in_time) in
      let here : q.at.node ≡ node = ap (λ (w : Position). w.node) end in
      let x : ℕ = road_code base 1 0 node state in
      let read_it : read rule.rest base (drive x) ≡ map go (replicate rule.rest wait) = read_code rule.rest base 1 0 node state (omega arith) place in
      let told : read rule.rest base (drive x) ≡ replicate rule.rest (go wait) = read_it ∙ going_waits rule.rest in
      let held : minutes_before base x ≡ r =
      ap (λ n. n / served_limit) (code_state base 1 0 node state (omega arith) place led.small) ∙ joint_state r p.served (under p.served led.low) in (
        drive x,
        led_push (drive x) zs p q r 0 led
            (record {
              road = record {
                tail = code base node state;
                head = code base node ((tour_ruler stops rule).rest state rule.rest);
                minutes = rule.rest;
                cost = rule.rest * weight;
              };
              is = road_is s (tour_ruler stops rule) base 1 0 node state (omega arith) place led.small
                  ∙ ap (λ o. rested_by (tour_ruler stops rule) base node state (Some rule.rest) o) rated.1;
              tail = refl;
              is_open = λ u early late. shut_is s (tour_ruler stops rule) base 1 0 node state (omega arith) place led.small u ∙ opens u early late;
              in_time = in_time;
              node = ap (λ n. code base n (joint 0 q.served)) here ∙ ap (λ n. code base node (joint 0 n)) same
                  ∙ ap (λ n. code base node n) (sym (rests_on r p.served led.low));
              minute = ap (λ (w : Position). w.minute) end;
              cost = ap (λ (w : Position). w.cost) end;
            })
            (subst (λ (w : List TourStep). TourWalks s stops until w p q) (sym read_it)
            (subst (λ (w : TourPosition). TourWalks s stops until (map go (replicate rule.rest wait)) p w)
            (same_spot (spot q.at p.served) q refl (sym same)) (goes s stops until (replicate rule.rest wait) p.at q.at p.served walk)))
            (λ kind. record {
              place = ap (λ n. n % base) (div-mul-add ((state * base + node) * base + 0) 3 1 (omega arith)) ∙ mod-mul-add (state * base + node) base 0 place;
              some = omega (arith, held, more);
              stays = λ n short. subst (IsStretch s.road rule.rest (replicate n wait ++ behind zs)) (sym held)
                  (stretch_few s.road rule.rest some n (behind zs) r driven short led.stretch);
            })
            (code_state base 1 0 node state (omega arith) place led.small)
            (subst (λ (w : List Step). IsStretch s.road rule.rest w 0) (sym (seen_rest (drive x) zs told))
            (stretch_many s.road rule.rest some rule.rest (behind zs) (omega arith)))
            (subst (λ n. n < base) (sym here) led.small) (omega (arith, led.low, same)),
        told,
      )

  -- a least walk leads to where the last waits of the tour begin
  pub record IsTracked (done : List TourStep) (p : TourPosition) : Type 0 where
    pub zs : List Step
    pub before : TourPosition
    pub r : ℕ
    pub led : IsLed zs before r
    pub driven : IsDriven (behind zs)
    pub m : ℕ
    pub told : done ≡ replicate m (go wait) ++ reads rule.rest base zs
    pub walk : Walks s until (replicate m wait) before.at p.at
    pub served : p.served ≡ before.served

  -- a least walk that tells the steps, the last first, leads to the position
  pub record HasLeastWalk (done : List TourStep) (p : TourPosition) : Type 0 where
    pub r : ℕ
    pub zs : List Step
    pub led : IsLed zs p r
    pub told : done ≡ reads rule.rest base zs

  -- waits that the walk tells
  told_waits : (n : ℕ) (zs : List Step) → reads rule.rest base (replicate n wait ++ zs) ≡ replicate n (go wait) ++ reads rule.rest base zs
  told_waits n zs =
      reads_both rule.rest base (replicate n wait) zs ∙ ap (λ (w : List TourStep). w ++ reads rule.rest base zs) (reads_waits rule.rest base n)

  -- waits without a rest: they are few, or no minutes were driven
  waited : (done : List TourStep) (p : TourPosition) (t : IsTracked done p) → (t.m < rule.rest) ⊎ (t.r ≡ 0) → HasLeastWalk done p
  waited done p t either = record {
    r = t.r;
    zs = replicate t.m wait ++ t.zs;
    led = led_waits t.m t.zs t.before p t.r t.led t.walk t.served (λ n within. ⊎_elim
        (λ (short : n < rule.rest). stretch_few s.road rule.rest some n (behind t.zs) t.r t.driven short t.led.stretch)
        (λ (long : rule.rest ≤ n). ⊎_elim
        (λ (short : t.m < rule.rest). absurd (omega (arith, short, long, within)))
        (λ (none : t.r ≡ 0). subst (IsStretch s.road rule.rest (replicate n wait ++ behind t.zs)) (sym none)
        (stretch_many s.road rule.rest some n (behind t.zs) long))
        either)
        (cases_lt n rule.rest));
    told = t.told ∙ sym (told_waits t.m t.zs);
  }

  -- a rest, and waits behind it
  told_rest : (more m : ℕ) (z : Step) (zs : List Step) (done : List TourStep) → more + rule.rest ≡ m → read rule.rest base z ≡ replicate rule.rest (go wait)
      → done ≡ replicate m (go wait) ++ reads rule.rest base zs → done ≡ reads rule.rest base (replicate more wait ++ (z ∷ zs))
  told_rest more m z zs done whole is told =
      told ∙ ap (λ n. replicate n (go wait) ++ reads rule.rest base zs) (sym whole)
      ∙ ap (λ (w : List TourStep). w ++ reads rule.rest base zs) (sym (replicate-append-replicate more rule.rest (go wait)))
      ∙ append_assoc (replicate more (go wait)) (replicate rule.rest (go wait)) (reads rule.rest base zs)
      ∙ ap (λ (w : List TourStep). replicate more (go wait) ++ (w ++ reads rule.rest base zs)) (sym is)
      ∙ sym (told_waits more (z ∷ zs))

  -- behind a rest no minutes were driven
  after_rest : (n : ℕ) (z : Step) (zs : List Step) → read rule.rest base z ≡ replicate rule.rest (go wait)
      → IsStretch s.road rule.rest (replicate n wait ++ behind (z ∷ zs)) 0
  after_rest n z zs is =
      subst (λ (w : List Step). IsStretch s.road rule.rest w 0)
      (sym (ap (λ (w : List Step). replicate n wait ++ w) (seen_rest z zs is) ∙ waits_both n rule.rest (behind zs)))
      (stretch_many s.road rule.rest some (n + rule.rest) (behind zs) (omega arith))

  rested : (done : List TourStep) (p : TourPosition) (t : IsTracked done p) → rule.rest ≤ t.m → 1 ≤ t.r → HasLeastWalk done p
  rested done p t long driven =
      let more : ℕ = t.m - rule.rest in
      let whole : rule.rest + more ≡ t.m = omega (arith, long) in
      let parts = walk_parts s until (replicate rule.rest wait) (replicate more wait) t.before.at p.at
      (subst (λ (w : List Step). Walks s until w t.before.at p.at)
      (sym (replicate-append-replicate rule.rest more wait ∙ ap (λ n. replicate n wait) whole)) t.walk) in
      let mid : TourPosition = spot parts.0 t.before.served in
      let rest = led_rest t.zs t.before mid t.r t.led t.driven driven parts.1 refl in
      record {
        r = 0;
        zs = replicate more wait ++ (rest.0 ∷ t.zs);
        led = led_waits more (rest.0 ∷ t.zs) mid p 0 rest.1 parts.2 t.served (λ n within. after_rest n rest.0 t.zs rest.2);
        told = told_rest more t.m rest.0 t.zs done (omega (arith, whole)) rest.2 t.told;
      }

  arrived : (done : List TourStep) (p : TourPosition) → IsTracked done p → HasLeastWalk done p
  arrived done p t = ⊎_elim
      (λ (short : t.m < rule.rest). waited done p t (inl short))
      (λ (long : rule.rest ≤ t.m). ⊎_elim
      (λ (none : t.r < 1). waited done p t (inr (omega (arith, none))))
      (λ (driven : 1 ≤ t.r). rested done p t long driven)
      (cases_lt t.r 1))
      (cases_lt t.m rule.rest)

  -- a walk that ends with a drive or a service
  tracks_road : (done : List TourStep) (y : TourStep) (a : ℕ) (q : TourPosition) (r : ℕ) (z : Step) (zs : List Step) → done ≡ reads rule.rest base zs
      → seen y ≡ drive a → read rule.rest base z ≡ y ∷ [] → IsLed (z ∷ zs) q r → IsTracked (y ∷ done) q
  tracks_road done y a q r z zs told is read_it led = record {
    zs = z ∷ zs;
    before = q;
    r = r;
    led = led;
    driven = subst IsDriven
        (ap (λ (w : Step). w ∷ behind zs) (sym is) ∙ ap (λ (w : List TourStep). map seen (w ++ reads rule.rest base zs)) (sym read_it))
        (by_drive a (behind zs));
    m = 0;
    told = ap (λ (w : List TourStep). y ∷ w) told ∙ ap (λ (w : List TourStep). w ++ reads rule.rest base zs) (sym read_it);
    walk = refl;
    served = refl;
  }

  tracks_drive : (done : List TourStep) (p q : TourPosition) (a : ℕ) → IsTracked done p → TourMoves s stops until (go (drive a)) p q
      → KeepsRule s.road rule (map seen done) (minutes_of (s.road a)) → IsTracked (go (drive a) ∷ done) q
  tracks_drive done p q a t move keeps =
      let here = arrived done p t in
      let fits = keeps here.r (subst (λ (w : List TourStep). IsStretch s.road rule.rest (map seen w) here.r) (sym here.told) here.led.stretch) in
      let next = led_drive here.zs p q here.r a here.led move fits in
      tracks_road done (go (drive a)) a q (here.r + minutes_of (s.road a)) next.0 here.zs here.told refl next.2 next.1

  tracks_serve : (done : List TourStep) (p q : TourPosition) (i : ℕ) → IsTracked done p → Serves stops until i p q → IsTracked (serve i ∷ done) q
  tracks_serve done p q i t move =
      let here = arrived done p t in
      let next = led_serve here.zs p q here.r i here.led move in
      tracks_road done (serve i) 0 q here.r next.0 here.zs here.told refl next.2 next.1

  tracks_wait : (done : List TourStep) (p q : TourPosition) → IsTracked done p → TourMoves s stops until (go wait) p q → IsTracked (go wait ∷ done) q
  tracks_wait done p q t (move, same) =
      let next : t.m + 1 ≡ suc t.m = omega arith in
      record {
        zs = t.zs;
        before = t.before;
        r = t.r;
        led = t.led;
        driven = t.driven;
        m = suc t.m;
        told = ap (λ (w : List TourStep). go wait ∷ w) t.told;
        walk = subst (λ (w : List Step). Walks s until w t.before.at q.at)
            (replicate-append-replicate t.m 1 wait ∙ ap (λ n. replicate n wait) next)
            (walk-push s until (replicate t.m wait) wait t.before.at p.at q.at t.walk move);
        served = same ∙ t.served;
      }

  tracks : (xs done : List TourStep) (p q : TourPosition) → IsTracked done p → IsRestedFrom s.road rule (map seen done) (map seen xs)
      → TourWalks s stops until xs p q → HasLeastWalk (reverse xs ++ done) q
  tracks [] done p q t rested walk = subst (HasLeastWalk done) walk (arrived done p t)
  tracks (go (drive a) ∷ xs) done p q t rested walk =
      subst (λ (w : List TourStep). HasLeastWalk w q) (sym (reverse_onto (go (drive a)) xs done))
      (tracks xs (go (drive a) ∷ done) walk.0 q (tracks_drive done p walk.0 a t walk.1 rested.0) rested.1 walk.2)
  tracks (go wait ∷ xs) done p q t rested walk =
      subst (λ (w : List TourStep). HasLeastWalk w q) (sym (reverse_onto (go wait) xs done))
      (tracks xs (go wait ∷ done) walk.0 q (tracks_wait done p walk.0 t walk.1) rested walk.2)
  tracks (serve i ∷ xs) done p q t rested walk =
      subst (λ (w : List TourStep). HasLeastWalk w q) (sym (reverse_onto (serve i) xs done))
      (tracks xs (serve i ∷ done) walk.0 q (tracks_serve done p walk.0 i t walk.1) rested.1 walk.2)

  -- a rested tour has a least walk
  pub least_walk : (xs : List TourStep) (q : TourPosition) → start.at.node < base → start.served < suc count → IsRestedFrom s.road rule [] (map seen xs)
      → TourWalks s stops until xs start q → HasLeastWalk (reverse xs) q
  least_walk xs q small low rested walk =
      let begun : IsStretch s.road rule.rest [] 0 = stretch_start s.road rule.rest some in
      subst (λ (w : List TourStep). HasLeastWalk w q) (append-nil (reverse xs))
      (tracks xs [] start q
      (record {
        zs = [];
        before = start;
        r = 0;
        led = record {
          walk = refl;
          traced = (
            record {
              served = joint_served 0 start.served (under start.served low);
              minutes = subst (IsStretch s.road rule.rest []) (sym (joint_state 0 start.served (under start.served low))) begun;
            },
            refl,
          );
          stretch = begun;
          small = small;
          low = low;
        };
        driven = at_start;
        m = 0;
        told = refl;
        walk = refl;
        served = refl;
      })
      rested walk)
