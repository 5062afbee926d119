-- Steps over states that end in a state, as drives, rests, services and waits of the net.
use Rattle.std.proofs.Common.{◌≡◌, ◌⊎◌, ⊎_elim, ℕ, ◌+◌, ◌-◌, ◌*◌, ◌/◌, ◌%◌, ◌<◌, ◌≤◌, ltb, leb, false, Option, Some, replicate, refl, sym, ◌∙◌, ap, subst, arith}
use Rattle.std.specs.Prelude.{slice_get}
use Rattle.std.proofs.lemmas.Bool.{ltb-false, leb-false, le-ltb, lt-leb, or_parts, or_from}
use Rattle.std.proofs.lemmas.Nat.{div-mul-add, mod-mul-add}
use Rattle.route_base.specs.Setting.{Setting, Road}
use Rattle.route_base.specs.Itinerary.{Position, drive, wait, Walks}
use Rattle.route_base.specs.Open.{IsOpen, IsWaitOpen}
use Rattle.route_base.specs.declared.types.Bound.{Bound}
use Rattle.route_base.proofs.Waiting.{same_position, waits}
use Rattle.propagation.specs.Inside.Invariants.{point}
use Rattle.state_dominance.specs.Inside.Product.{Ruler, Service, IsBase, code, driven_by, driven_to, rested_by, served_by, served_to, shut_for, road_code, product, task_by_latest}
use Rattle.state_dominance.proofs.Roads.{IsDriveRoad, IsRestRoad, IsServiceRoad, road_kinds, road_is, shut_is}
use Rattle.ruled_states.specs.Inside.Codes.{base}
use Rattle.ruled_search.specs.Inside.Sources.{ComesOver}

-- codes are the same only of the same nodes and states
pub code_same : (v w k j : ℕ) → v < base → w < base → code base v k ≡ code base w j → (v ≡ w) × (k ≡ j)
code_same v w k j one two is = (
  sym (mod-mul-add k base v one) ∙ (ap (λ n. n % base) is ∙ mod-mul-add j base w two),
  sym (div-mul-add k base v one) ∙ (ap (λ n. n / base) is ∙ div-mul-add j base w two),
)

-- the minutes at which a service is open are those of its window
pub within_window : (c : Service) (u : ℕ) → shut_for (Some c) u ≡ false → (c.from ≤ u) × (u < c.to)
within_window c u is = let both = or_parts (ltb u c.from) (leb c.to u) is in (ltb-false u c.from both.0, leb-false c.to u both.1)

pub opens_in : (c : Service) (u : ℕ) → c.from ≤ u → u < c.to → shut_for (Some c) u ≡ false
opens_in c u early before = or_from (ltb u c.from) (leb c.to u) (le-ltb u c.from early) (lt-leb c.to u before)

module _ (s : Setting) (r : Ruler) (v j t x : ℕ) (source : Position) where
  -- the source of a drive over an arc to state j of node v, at minute t, with cost x
  pub record ComesByDrive (a : ℕ) (over : Road) : Type 0 where
    pub state : ℕ
    pub allowed : r.drive state over.minutes ≡ Some j
    pub at : source.node ≡ code base over.tail state
    pub head : over.head ≡ v
    pub minute : t ≡ source.minute + over.minutes
    pub paid : x ≡ source.cost + over.cost
    pub is_open : IsOpen s a source.minute over.minutes

  -- the source of a rest
  pub record ComesByRest (rest : ℕ) : Type 0 where
    pub state : ℕ
    pub weight : ℕ
    pub rated : s.weight v ≡ Some weight
    pub after : r.rest state rest ≡ j
    pub at : source.node ≡ code base v state
    pub minute : t ≡ source.minute + rest
    pub paid : x ≡ source.cost + rest * weight
    pub is_open : IsWaitOpen s v source.minute rest

  -- the source of a service
  pub record ComesByService (place : ℕ) (c : Service) : Type 0 where
    pub state : ℕ
    pub allowed : r.serve state place ≡ Some j
    pub at : source.node ≡ code base v state
    pub node : c.node ≡ v
    pub minute : t ≡ source.minute + c.minutes
    pub paid : x ≡ source.cost
    pub begins : c.from ≤ source.minute
    pub ends : t ≤ c.to

  -- the source of a wait of a minute
  pub record ComesByWait : Type 0 where
    pub weight : ℕ
    pub rated : s.weight v ≡ Some weight
    pub is_open : s.wait_shut v source.minute ≡ false
    pub at : source.node ≡ code base v j
    pub minute : t ≡ source.minute + 1
    pub paid : x ≡ source.cost + weight

module _ (s : Setting) (r : Ruler) (is_base : IsBase s r base) (origin goal depart until : ℕ) (bound : ℕ → ℕ → Option Bound)
    (latest : ℕ → ℕ) (cost : ℕ → ℕ → Option ℕ) (v j t x : ℕ) (node : v < base) where
  module _ (y a : ℕ) (source : Position) (number : y / 3 % base ≡ a)
      (c : ComesOver (task_by_latest s r base origin goal depart until bound latest) cost (drive y) source (point (code base v j) t x)) where
    abbrev IsKind : Type 0
    IsKind = IsDriveRoad s r base y c.move.road ⊎ (IsRestRoad s r base y c.move.road ⊎ IsServiceRoad s r base y c.move.road)

    kinds : IsKind
    kinds = road_kinds s r base y c.move.road c.move.is

    pub drive_comes : y % 3 ≡ 0 → (over : Road) × (s.road a ≡ Some over) × ComesByDrive s r v j t x source a over
    drive_comes kind = ⊎_elim
        (λ (d : IsDriveRoad s r base y c.move.road).
        let arc : d.arc ≡ a = sym d.number ∙ number in
        let small = is_base.arcs d.arc d.over d.is in
        let head = code_same d.over.head v d.next j small.2 node (sym d.head ∙ sym c.move.node) in (
          d.over,
          sym (ap s.road arc) ∙ d.is,
          record {
            state = d.state;
            allowed = d.allowed ∙ ap (λ (n : ℕ). Some n) head.1;
            at = sym c.move.tail ∙ d.tail;
            head = head.0;
            minute = omega (arith, c.move.minute, d.minutes);
            paid = omega (arith, c.move.cost, d.cost);
            is_open = λ u early late. ap (λ n. s.shut n u) (sym arc) ∙ (sym (d.shut u) ∙ c.move.is_open u early (omega (arith, late, d.minutes)));
          },
        ))
        (λ (other : IsRestRoad s r base y c.move.road ⊎ IsServiceRoad s r base y c.move.road). ⊎_elim
        (λ (d : IsRestRoad s r base y c.move.road). absurd (omega (arith, kind, d.kind)))
        (λ (d : IsServiceRoad s r base y c.move.road). absurd (omega (arith, kind, d.kind)))
        other)
        kinds

    pub rest_comes : y % 3 ≡ 1 → (rest : ℕ) × (slice_get r.rests a ≡ Some rest) × ComesByRest s r v j t x source rest
    rest_comes kind = ⊎_elim
        (λ (d : IsDriveRoad s r base y c.move.road). absurd (omega (arith, kind, d.kind)))
        (λ (other : IsRestRoad s r base y c.move.road ⊎ IsServiceRoad s r base y c.move.road). ⊎_elim
        (λ (d : IsRestRoad s r base y c.move.road).
        let small = is_base.nodes d.node d.weight d.rated in
        let head = code_same d.node v (r.rest d.state d.rest) j small node (sym d.head ∙ sym c.move.node) in (
          d.rest,
          ap (slice_get r.rests) (sym (sym d.number ∙ number)) ∙ d.is,
          record {
            state = d.state;
            weight = d.weight;
            rated = ap s.weight (sym head.0) ∙ d.rated;
            after = head.1;
            at = sym c.move.tail ∙ (d.tail ∙ ap (λ n. code base n d.state) head.0);
            minute = omega (arith, c.move.minute, d.minutes);
            paid = omega (arith, c.move.cost, d.cost);
            is_open = λ u early late. ap (λ n. s.wait_shut n u) (sym head.0) ∙ (sym (d.shut u) ∙ c.move.is_open u early (omega (arith, late, d.minutes)));
          },
        ))
        (λ (d : IsServiceRoad s r base y c.move.road). absurd (omega (arith, kind, d.kind)))
        other)
        kinds

    pub service_comes : y % 3 ≡ 2 → (served : Service) × (slice_get r.services a ≡ Some served) × ComesByService s r v j t x source a served
    service_comes kind = ⊎_elim
        (λ (d : IsDriveRoad s r base y c.move.road). absurd (omega (arith, kind, d.kind)))
        (λ (other : IsRestRoad s r base y c.move.road ⊎ IsServiceRoad s r base y c.move.road). ⊎_elim
        (λ (d : IsRestRoad s r base y c.move.road). absurd (omega (arith, kind, d.kind)))
        (λ (d : IsServiceRoad s r base y c.move.road).
        let small = is_base.services d.place d.service d.is in
        let some = is_base.service_times d.place d.service d.is in
        let place : d.place ≡ a = sym d.number ∙ number in
        let head = code_same d.service.node v d.next j small.1 node (sym d.head ∙ sym c.move.node) in
        let last : ℕ = source.minute + d.service.minutes - 1 in
        let first_open = within_window d.service source.minute (sym (d.shut source.minute)
        ∙ c.move.is_open source.minute (omega arith) (omega (arith, some, d.minutes))) in
        let last_open = within_window d.service last (sym (d.shut last) ∙ c.move.is_open last (omega (arith, some)) (omega (arith, some, d.minutes))) in (
          d.service,
          ap (slice_get r.services) (sym place) ∙ d.is,
          record {
            state = d.state;
            allowed = ap (r.serve d.state) (sym place) ∙ (d.allowed ∙ ap (λ (n : ℕ). Some n) head.1);
            at = sym c.move.tail ∙ (d.tail ∙ ap (λ n. code base n d.state) head.0);
            node = head.0;
            minute = omega (arith, c.move.minute, d.minutes);
            paid = omega (arith, c.move.cost, d.cost);
            begins = first_open.0;
            ends = omega (arith, last_open.1, c.move.minute, d.minutes, some);
          },
        ))
        other)
        kinds

  pub wait_comes : (source : Position) → ComesOver (task_by_latest s r base origin goal depart until bound latest) cost wait source (point (code base v j) t x)
      → ComesByWait s r v j t x source
  wait_comes source c =
      let at : source.node % base ≡ v = ap (λ n. n % base) (sym c.move.node) ∙ mod-mul-add j base v node in
      record {
        weight = c.move.weight;
        rated = ap s.weight (sym at) ∙ c.move.rated;
        is_open = ap (λ n. s.wait_shut n source.minute) (sym at) ∙ c.move.is_open;
        at = sym c.move.node;
        minute = c.move.minute;
        paid = c.move.cost;
      }

  module _ (u m y : ℕ) (late : t ≤ until) where
    pub drive_leads : (a : ℕ) (over : Road) → s.road a ≡ Some over → over.head ≡ v → r.drive u over.minutes ≡ Some j
        → IsOpen s a m over.minutes → t ≡ m + over.minutes → x ≡ y + over.cost → cost (code base over.tail u) m ≡ Some y
        → ComesOver (task_by_latest s r base origin goal depart until bound latest) cost (drive (road_code base 0 a over.tail u))
        (point (code base over.tail u) m y) (point (code base v j) t x)
    drive_leads a over is head allowed opens minute paid known =
        let small = is_base.arcs a over is in
        record {
          known = known;
          move = record {
            road = record { tail = code base over.tail u; head = code base over.head j; minutes = over.minutes; cost = over.cost };
            is = road_is s r base 0 a over.tail u (omega arith) small.0 small.1
                ∙ (ap (λ o. driven_by r base u o) is ∙ ap (λ o. driven_to r base u over o) allowed);
            tail = refl;
            is_open = λ z early before. shut_is s r base 0 a over.tail u (omega arith) small.0 small.1 z ∙ opens z early before;
            in_time = omega (arith, late, minute);
            node = ap (λ n. code base n j) (sym head);
            minute = minute;
            cost = paid;
          };
        }

    pub rest_leads : (place rest weight : ℕ) → slice_get r.rests place ≡ Some rest → s.weight v ≡ Some weight → r.rest u rest ≡ j
        → IsWaitOpen s v m rest → t ≡ m + rest → x ≡ y + rest * weight → cost (code base v u) m ≡ Some y
        → ComesOver (task_by_latest s r base origin goal depart until bound latest) cost (drive (road_code base 1 place v u))
        (point (code base v u) m y) (point (code base v j) t x)
    rest_leads place rest weight is rated after opens minute paid known =
        let small = is_base.rests place rest is in
        record {
          known = known;
          move = record {
            road = record { tail = code base v u; head = code base v (r.rest u rest); minutes = rest; cost = rest * weight };
            is = road_is s r base 1 place v u (omega arith) small node
                ∙ (ap (λ o. rested_by r base v u o (s.weight v)) is ∙ ap (λ o. rested_by r base v u (Some rest) o) rated);
            tail = refl;
            is_open = λ z early before. shut_is s r base 1 place v u (omega arith) small node z ∙ opens z early before;
            in_time = omega (arith, late, minute);
            node = ap (λ n. code base v n) (sym after);
            minute = minute;
            cost = paid;
          };
        }

    pub service_leads : (place : ℕ) (c : Service) → slice_get r.services place ≡ Some c → c.node ≡ v → r.serve u place ≡ Some j
        → c.from ≤ m → t ≤ c.to → t ≡ m + c.minutes → x ≡ y → cost (code base v u) m ≡ Some y
        → ComesOver (task_by_latest s r base origin goal depart until bound latest) cost (drive (road_code base 2 place v u))
        (point (code base v u) m y) (point (code base v j) t x)
    service_leads place c is at allowed begins ends minute paid known =
        let small = is_base.services place c is in
        record {
          known = known;
          move = record {
            road = record { tail = code base c.node u; head = code base c.node j; minutes = c.minutes; cost = 0 };
            is = road_is s r base 2 place v u (omega arith) small.0 node
                ∙ (ap (λ o. served_by r base place u o) is ∙ ap (λ o. served_to base u c o) allowed);
            tail = ap (λ n. code base n u) at;
            is_open = λ z early before. shut_is s r base 2 place v u (omega arith) small.0 node z
                ∙ (ap (λ o. shut_for o z) is ∙ opens_in c z (omega (arith, early, begins)) (omega (arith, before, ends, minute)));
            in_time = omega (arith, late, minute);
            node = ap (λ n. code base n j) (sym at);
            minute = minute;
            cost = omega (arith, paid);
          };
        }

  -- a wait of some minutes in the same state
  pub wait_leads : (m y weight : ℕ) → m < t → t ≤ until → s.weight v ≡ Some weight → IsWaitOpen s v m (t - m) → x ≡ y + weight * (t - m)
      → Walks (product s r base) until (replicate (t - m) wait) (point (code base v j) m y) (point (code base v j) t x)
  wait_leads m y weight earlier late rated opens paid =
      let at : code base v j % base ≡ v = mod-mul-add j base v node in
      subst (λ (p : Position). Walks (product s r base) until (replicate (t - m) wait) (point (code base v j) m y) p)
      (same_position _ _ refl (omega (arith, earlier)) (omega (arith, paid)))
      (waits (product s r base) until (t - m) (code base v j) m y weight (ap s.weight at ∙ rated)
      (λ u early before. ap (λ n. s.wait_shut n u) at ∙ opens u early before) (omega (arith, earlier, late)))
