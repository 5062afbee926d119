-- The roads over states are drives, rests and services, and each of these is one.
use Rattle.std.proofs.Common.{◌≡◌, ◌⊎◌, inl, inr, ℕ, zero, suc, ◌+◌, ◌*◌, ◌/◌, ◌%◌, ◌<◌, Option, Some, None, refl, ◌∙◌, ap, arith, mod-lt}
use Rattle.std.specs.Prelude.{slice_get}
use Rattle.std.proofs.lemmas.Nat.{div-mul-add, mod-mul-add}
use Rattle.route_base.specs.Setting.{Setting, Road}
use Rattle.state_dominance.specs.Inside.Product.{Ruler, Service, code, driven_by, driven_to, rested_by, served_by, served_to, shut_for, road_by, shut_by, road_code, product}

-- the road is a drive over an arc in a state
pub record IsDriveRoad (s : Setting) (r : Ruler) (base x : ℕ) (road : Road) : Type 0 where
  pub arc : ℕ
  pub kind : x % 3 ≡ 0
  pub number : x / 3 % base ≡ arc
  pub over : Road
  pub is : s.road arc ≡ Some over
  pub state : ℕ
  pub held : x / 3 / base / base ≡ state
  pub next : ℕ
  pub allowed : r.drive state over.minutes ≡ Some next
  pub tail : road.tail ≡ code base over.tail state
  pub head : road.head ≡ code base over.head next
  pub minutes : road.minutes ≡ over.minutes
  pub cost : road.cost ≡ over.cost
  pub shut : (t : ℕ) → (product s r base).shut x t ≡ s.shut arc t

-- the road is a rest at a node in a state
pub record IsRestRoad (s : Setting) (r : Ruler) (base x : ℕ) (road : Road) : Type 0 where
  pub place : ℕ
  pub kind : x % 3 ≡ 1
  pub number : x / 3 % base ≡ place
  pub rest : ℕ
  pub is : slice_get r.rests place ≡ Some rest
  pub node : ℕ
  pub weight : ℕ
  pub rated : s.weight node ≡ Some weight
  pub state : ℕ
  pub held : x / 3 / base / base ≡ state
  pub tail : road.tail ≡ code base node state
  pub head : road.head ≡ code base node (r.rest state rest)
  pub minutes : road.minutes ≡ rest
  pub cost : road.cost ≡ rest * weight
  pub shut : (t : ℕ) → (product s r base).shut x t ≡ s.wait_shut node t

-- the road is a service in a state
pub record IsServiceRoad (s : Setting) (r : Ruler) (base x : ℕ) (road : Road) : Type 0 where
  pub place : ℕ
  pub kind : x % 3 ≡ 2
  pub number : x / 3 % base ≡ place
  pub service : Service
  pub is : slice_get r.services place ≡ Some service
  pub state : ℕ
  pub held : x / 3 / base / base ≡ state
  pub next : ℕ
  pub allowed : r.serve state place ≡ Some next
  pub tail : road.tail ≡ code base service.node state
  pub head : road.head ≡ code base service.node next
  pub minutes : road.minutes ≡ service.minutes
  pub cost : road.cost ≡ 0
  pub shut : (t : ℕ) → (product s r base).shut x t ≡ shut_for (Some service) t

module _ (s : Setting) (r : Ruler) (base : ℕ) where
  pub road_kinds : (x : ℕ) (road : Road) → (product s r base).road x ≡ Some road
      → IsDriveRoad s r base x road ⊎ (IsRestRoad s r base x road ⊎ IsServiceRoad s r base x road)
  road_kinds x road is = by (x % 3) (x / 3 % base) (x / 3 / base % base) (x / 3 / base / base) refl refl refl (λ t. refl) is
    where
      drive_of : (a k : ℕ) (o : Option Road) → x % 3 ≡ 0 → x / 3 % base ≡ a → x / 3 / base / base ≡ k → s.road a ≡ o
          → ((t : ℕ) → (product s r base).shut x t ≡ s.shut a t) → driven_by r base k o ≡ Some road → IsDriveRoad s r base x road
      drive_of a k None kind number held at shut is = let bad : None ≡ Some road = is in cc
      drive_of a k (Some over) kind number held at shut is = to (r.drive k over.minutes) refl is
        where
          to : (o : Option ℕ) → r.drive k over.minutes ≡ o → driven_to r base k over o ≡ Some road → IsDriveRoad s r base x road
          to None at_next is = let bad : None ≡ Some road = is in cc
          to (Some next) at_next is =
              let made : Road = record { tail = code base over.tail k; head = code base over.head next; minutes = over.minutes; cost = over.cost } in
              let same : road ≡ made = cc in
              record {
                arc = a;
                kind = kind;
                number = number;
                over = over;
                is = at;
                state = k;
                held = held;
                next = next;
                allowed = at_next;
                tail = ap (λ (w : Road). w.tail) same;
                head = ap (λ (w : Road). w.head) same;
                minutes = ap (λ (w : Road). w.minutes) same;
                cost = ap (λ (w : Road). w.cost) same;
                shut = shut;
              }

      rest_of : (i v k : ℕ) (o : Option ℕ) (p : Option ℕ) → x % 3 ≡ 1 → x / 3 % base ≡ i → x / 3 / base / base ≡ k → slice_get r.rests i ≡ o
          → s.weight v ≡ p → ((t : ℕ) → (product s r base).shut x t ≡ s.wait_shut v t) → rested_by r base v k o p ≡ Some road → IsRestRoad s r base x road
      rest_of i v k None p kind number held at rated shut is = let bad : None ≡ Some road = is in cc
      rest_of i v k (Some rest) None kind number held at rated shut is = let bad : None ≡ Some road = is in cc
      rest_of i v k (Some rest) (Some weight) kind number held at rated shut is =
          let made : Road = record { tail = code base v k; head = code base v (r.rest k rest); minutes = rest; cost = rest * weight } in
          let same : road ≡ made = cc in
          record {
            place = i;
            kind = kind;
            number = number;
            rest = rest;
            is = at;
            node = v;
            weight = weight;
            rated = rated;
            state = k;
            held = held;
            tail = ap (λ (w : Road). w.tail) same;
            head = ap (λ (w : Road). w.head) same;
            minutes = ap (λ (w : Road). w.minutes) same;
            cost = ap (λ (w : Road). w.cost) same;
            shut = shut;
          }

      service_of : (i k : ℕ) (o : Option Service) → x % 3 ≡ 2 → x / 3 % base ≡ i → x / 3 / base / base ≡ k → slice_get r.services i ≡ o
          → ((t : ℕ) → (product s r base).shut x t ≡ shut_for (slice_get r.services i) t) → served_by r base i k o ≡ Some road → IsServiceRoad s r base x road
      service_of i k None kind number held at shut is = let bad : None ≡ Some road = is in cc
      service_of i k (Some c) kind number held at shut is = to (r.serve k i) refl is
        where
          to : (o : Option ℕ) → r.serve k i ≡ o → served_to base k c o ≡ Some road → IsServiceRoad s r base x road
          to None at_next is = let bad : None ≡ Some road = is in cc
          to (Some next) at_next is =
              let made : Road = record { tail = code base c.node k; head = code base c.node next; minutes = c.minutes; cost = 0 } in
              let same : road ≡ made = cc in
              record {
                place = i;
                kind = kind;
                number = number;
                service = c;
                is = at;
                state = k;
                held = held;
                next = next;
                allowed = at_next;
                tail = ap (λ (w : Road). w.tail) same;
                head = ap (λ (w : Road). w.head) same;
                minutes = ap (λ (w : Road). w.minutes) same;
                cost = ap (λ (w : Road). w.cost) same;
                shut = λ t. shut t ∙ ap (λ o. shut_for o t) at;
              }

      by : (kind a v k : ℕ) → x % 3 ≡ kind → x / 3 % base ≡ a → x / 3 / base / base ≡ k → ((t : ℕ) → (product s r base).shut x t ≡ shut_by s r kind a v t)
          → road_by s r base kind a v k ≡ Some road → IsDriveRoad s r base x road ⊎ (IsRestRoad s r base x road ⊎ IsServiceRoad s r base x road)
      by zero a v k kind number held shut is = inl (drive_of a k (s.road a) kind number held refl shut is)
      by (suc zero) a v k kind number held shut is = inr (inl (rest_of a v k (slice_get r.rests a) (s.weight v) kind number held refl refl shut is))
      by (suc (suc n)) a v k kind number held shut is =
          let below : x % 3 < 3 = mod-lt x (omega arith) in
          inr (inr (service_of a k (slice_get r.services a) (omega (arith, kind, below)) number held refl shut is))

  -- the digits of a road's number
  module _ (kind a v k : ℕ) (small : kind < 3) (arc : a < base) (node : v < base) where
    pub kind_is : road_code base kind a v k % 3 ≡ kind
    kind_is = mod-mul-add ((k * base + v) * base + a) 3 kind small

    half_is : road_code base kind a v k / 3 ≡ (k * base + v) * base + a
    half_is = div-mul-add ((k * base + v) * base + a) 3 kind small

    pub arc_is : road_code base kind a v k / 3 % base ≡ a
    arc_is = ap (λ n. n % base) half_is ∙ mod-mul-add (k * base + v) base a arc

    rest_is : road_code base kind a v k / 3 / base ≡ k * base + v
    rest_is = ap (λ n. n / base) half_is ∙ div-mul-add (k * base + v) base a arc

    node_is : road_code base kind a v k / 3 / base % base ≡ v
    node_is = ap (λ n. n % base) rest_is ∙ mod-mul-add k base v node

    state_is : road_code base kind a v k / 3 / base / base ≡ k
    state_is = ap (λ n. n / base) rest_is ∙ div-mul-add k base v node

    pub road_is : (product s r base).road (road_code base kind a v k) ≡ road_by s r base kind a v k
    road_is =
        ap (λ n. road_by s r base n (road_code base kind a v k / 3 % base) (road_code base kind a v k / 3 / base % base) (road_code base kind a v k / 3 / base / base)) kind_is
        ∙ ap (λ n. road_by s r base kind n (road_code base kind a v k / 3 / base % base) (road_code base kind a v k / 3 / base / base)) arc_is
        ∙ ap (λ n. road_by s r base kind a n (road_code base kind a v k / 3 / base / base)) node_is
        ∙ ap (λ n. road_by s r base kind a v n) state_is

    pub shut_is : (t : ℕ) → (product s r base).shut (road_code base kind a v k) t ≡ shut_by s r kind a v t
    shut_is t =
        ap (λ n. shut_by s r n (road_code base kind a v k / 3 % base) (road_code base kind a v k / 3 / base % base) t) kind_is
        ∙ ap (λ n. shut_by s r kind n (road_code base kind a v k / 3 / base % base) t) arc_is
        ∙ ap (λ n. shut_by s r kind a n t) node_is
