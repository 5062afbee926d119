-- A drive over a road from the code of a state is one over the road of the same kind, and the same arc, rest or service, in that state.
use Rattle.std.proofs.Common.{◌≡◌, ℕ, zero, suc, ◌*◌, ◌/◌, ◌%◌, ◌<◌, Option, Some, None, refl, sym, ◌∙◌, ap, subst, arith}
use Rattle.std.specs.Prelude.{slice_get}
use Rattle.std.proofs.lemmas.Nat.{div-mul-add, mod-mul-add, mod_below}
use Rattle.route_base.specs.Setting.{Setting, Road}
use Rattle.route_base.specs.Itinerary.{Position, Drives}
use Rattle.state_dominance.specs.Inside.Product.{Ruler, Service, IsBase, code, driven_by, driven_to, rested_by, served_by, served_to, road_by, shut_by, road_code, product}
use Rattle.state_dominance.proofs.Roads.{road_is, shut_is}

-- where the nodes are below the base, equal codes are of one node and one state
pub same_code : (base w j v k : ℕ) → w < base → v < base → code base w j ≡ code base v k → (w ≡ v) × (j ≡ k)
same_code base w j v k low node same = (
  sym (mod-mul-add j base w low) ∙ ap (λ n. n % base) same ∙ mod-mul-add k base v node,
  sym (div-mul-add j base w low) ∙ ap (λ n. n / base) same ∙ div-mul-add k base v node,
)

module _ (s : Setting) (r : Ruler) (base until : ℕ) (numbers : IsBase s r base) (v k : ℕ) (node : v < base) where
  -- a road read by its digits, which begins at this state, is read alike at its node
  module _ (road : Road) (tail : road.tail ≡ code base v k) where
    drive_state : (a j : ℕ) (o : Option Road) → s.road a ≡ o → driven_by r base j o ≡ Some road → j ≡ k
    drive_state a j None at is = let bad : None ≡ Some road = is in cc
    drive_state a j (Some over) at is = to (r.drive j over.minutes) is
      where
        to : (o : Option ℕ) → driven_to r base j over o ≡ Some road → j ≡ k
        to None is = let bad : None ≡ Some road = is in cc
        to (Some next) is =
            let made : Road = record { tail = code base over.tail j; head = code base over.head next; minutes = over.minutes; cost = over.cost } in
            let same : road ≡ made = cc in
            (same_code base over.tail j v k (numbers.arcs a over at).1 node (sym (ap (λ (w : Road). w.tail) same) ∙ tail)).1

    rest_state : (u j : ℕ) (o p : Option ℕ) → s.weight u ≡ p → rested_by r base u j o p ≡ Some road → (u ≡ v) × (j ≡ k)
    rest_state u j None p rated is = let bad : None ≡ Some road = is in cc
    rest_state u j (Some rest) None rated is = let bad : None ≡ Some road = is in cc
    rest_state u j (Some rest) (Some weight) rated is =
        let made : Road = record { tail = code base u j; head = code base u (r.rest j rest); minutes = rest; cost = rest * weight } in
        let same : road ≡ made = cc in
        same_code base u j v k (numbers.nodes u weight rated) node (sym (ap (λ (w : Road). w.tail) same) ∙ tail)

    service_state : (i j : ℕ) (o : Option Service) → slice_get r.services i ≡ o → served_by r base i j o ≡ Some road → j ≡ k
    service_state i j None at is = let bad : None ≡ Some road = is in cc
    service_state i j (Some c) at is = to (r.serve j i) is
      where
        to : (o : Option ℕ) → served_to base j c o ≡ Some road → j ≡ k
        to None is = let bad : None ≡ Some road = is in cc
        to (Some next) is =
            let made : Road = record { tail = code base c.node j; head = code base c.node next; minutes = c.minutes; cost = 0 } in
            let same : road ≡ made = cc in
            (same_code base c.node j v k (numbers.services i c at).1 node (sym (ap (λ (w : Road). w.tail) same) ∙ tail)).1

    alike : (kind a u j : ℕ) → road_by s r base kind a u j ≡ Some road
        → (road_by s r base kind a v k ≡ Some road) × ((t : ℕ) → shut_by s r kind a v t ≡ shut_by s r kind a u t)
    alike zero a u j is = (subst (λ n. road_by s r base 0 a v n ≡ Some road) (drive_state a j (s.road a) refl is) is, λ t. refl)
    alike (suc zero) a u j is =
        let same = rest_state u j (slice_get r.rests a) (s.weight u) refl is in (
          subst (λ n. road_by s r base 1 a v n ≡ Some road) same.1 (subst (λ n. road_by s r base 1 a n j ≡ Some road) same.0 is),
          λ t. ap (λ n. s.wait_shut n t) (sym same.0),
        )
    alike (suc (suc n)) a u j is =
        (subst (λ n. served_by r base a n (slice_get r.services a) ≡ Some road) (service_state a j (slice_get r.services a) refl is) is, λ t. refl)

  pub drives_alike : (x : ℕ) (p q : Position) → p.node ≡ code base v k → Drives (product s r base) until x p q
      → Drives (product s r base) until (road_code base (x % 3) (x / 3 % base) v k) p q
  drives_alike x p q at move =
      let kind : x % 3 < 3 = mod_below x 3 (omega arith) in
      let place : x / 3 % base < base = mod_below (x / 3) base (omega (arith, node)) in
      let same = alike move.road (move.tail ∙ at) (x % 3) (x / 3 % base) (x / 3 / base % base) (x / 3 / base / base) move.is in
      record {
        road = move.road;
        is = road_is s r base (x % 3) (x / 3 % base) v k kind place node ∙ same.0;
        tail = move.tail;
        is_open = λ t from to. shut_is s r base (x % 3) (x / 3 % base) v k kind place node t ∙ (same.1 t ∙ move.is_open t from to);
        in_time = move.in_time;
        node = move.node;
        minute = move.minute;
        cost = move.cost;
      }
