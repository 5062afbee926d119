-- The search over states is one of whose states those that are no worse may do all that others may.
use Rattle.std.proofs.Common.{◌≡◌, ◌⊎◌, inl, inr, ⊎_elim, ℕ, ◌+◌, ◌-◌, ◌*◌, ◌/◌, ◌%◌, ◌<◌, ◌≤◌, true, false, eqb, Option, Some, refl, sym, ◌∙◌, ap, subst, arith}
use Rattle.std.specs.Prelude.{nat_le, nat_lt}
use Rattle.std.proofs.lemmas.Bool.{eqb-true, eq-eqb, leb-false, and_parts, and_from, or_parts}
use Rattle.std.proofs.lemmas.Nat.{div-mul-add, mod-mul-add, div-add-mod'}
use Rattle.std.proofs.lemmas.Option.{same_Some}
use Rattle.std.proofs.Math.Nat.{mul-le-mul_right}
use Rattle.route_base.specs.Setting.{Setting, Road}
use Rattle.route_base.specs.Itinerary.{Position, Drives, Waits}
use Rattle.route_base.specs.Relaxing.{IsBoundThrough}
use Rattle.route_base.specs.declared.types.Bound.{Bound}
use Rattle.propagation.specs.Inside.Invariants.{point}
use Rattle.state_dominance.specs.Inside.Dominance.{Task, IsNoWorseThan, IsSimulation, AreBoundsAlong}
use Rattle.state_dominance.specs.Inside.Product.{Ruler, Service, IsSimulating, IsBase, AreLatest, AreRuledBounds, code, driven_by, driven_to, rested_by, served_by, served_to, shut_for, road_code, product, task_by_latest}
use Rattle.state_dominance.proofs.Roads.{IsDriveRoad, IsRestRoad, IsServiceRoad, road_kinds, road_is, shut_is, kind_is, arc_is}

-- from state u, with cost y, a drive over a road of the same kind, with the same arc, rest or service, leads to what is no worse, and costs as much
pub record IsDrivenToo (k : Task) (base u y x : ℕ) (p q : Position) : Type 0 where
  pub road : ℕ
  pub end : Position
  pub move : Drives k.setting k.until road (point u p.minute y) end
  pub no_worse : IsNoWorseThan k end q
  pub kind : x % 3 ≡ road % 3
  pub number : x / 3 % base ≡ road / 3 % base
  pub paid : end.cost + p.cost ≡ q.cost + y

-- a minute that is not shut for a service is before the end of its window
open_before : (c : Service) (t : ℕ) → shut_for (Some c) t ≡ false → t < c.to
open_before c t free = leb-false c.to t (or_parts (nat_lt t c.from) (nat_le c.to t) free).1

module _ (s : Setting) (r : Ruler) (base origin goal depart until : ℕ) (bound : ℕ → ℕ → Option Bound) (latest : ℕ → ℕ) (sim : IsSimulating r)
    (is_base : IsBase s r base) (bounds : AreRuledBounds s r goal bound) (minutes : AreLatest r until bound latest) where
  over : Task
  over = task_by_latest s r base origin goal depart until bound latest

  -- the node and the state of a code
  node_of : (v k : ℕ) → v < base → code base v k % base ≡ v
  node_of v k small = mod-mul-add k base v small

  state_of : (v k : ℕ) → v < base → code base v k / base ≡ k
  state_of v k small = div-mul-add k base v small

  pub same_node : (u v : ℕ) → (task_by_latest s r base origin goal depart until bound latest).no_worse u v ≡ true → u % base ≡ v % base
  same_node u v is = eqb-true (u % base) (v % base) (and_parts (eqb (u % base) (v % base)) (r.no_worse (u / base) (v / base)) is).0

  better_state : (u v : ℕ) → (task_by_latest s r base origin goal depart until bound latest).no_worse u v ≡ true → r.no_worse (u / base) (v / base) ≡ true
  better_state u v is = (and_parts (eqb (u % base) (v % base)) (r.no_worse (u / base) (v / base)) is).1

  no_worse_by : (u v : ℕ) → u % base ≡ v % base → r.no_worse (u / base) (v / base) ≡ true
      → (task_by_latest s r base origin goal depart until bound latest).no_worse u v ≡ true
  no_worse_by u v same better = and_from (eqb (u % base) (v % base)) (r.no_worse (u / base) (v / base)) (eq-eqb (u % base) (v % base) same) better

  pub code_low : (u v : ℕ) → u % base ≡ v % base → u / base ≤ v / base → u ≤ v
  code_low u v same le = omega (arith, div-add-mod' u base, div-add-mod' v base, same, mul-le-mul_right base le)

  -- a code that is no worse than the tail of a road is that of its node
  code_is : (u v k : ℕ) → v < base → u % base ≡ code base v k % base → u ≡ code base v (u / base)
  code_is u v k small same = omega (arith, div-add-mod' u base, same, node_of v k small)

  drive_too : (u y x : ℕ) (p q : Position) → over.no_worse u p.node ≡ true → y ≤ p.cost → (move : Drives over.setting until x p q)
      → IsDriveRoad s r base x move.road → IsDrivenToo over base u y x p q
  unfolding over
  drive_too u y x p q better le move d =
      let small = is_base.arcs d.arc d.over d.is in
      let at : p.node ≡ code base d.over.tail d.state = sym move.tail ∙ d.tail in
      let state : p.node / base ≡ d.state = ap (λ n. n / base) at ∙ state_of d.over.tail d.state small.1 in
      let no_worse : r.no_worse (u / base) d.state ≡ true = subst (λ n. r.no_worse (u / base) n ≡ true) state (better_state u p.node better) in
      let next = sim.drive (u / base) d.state d.over.minutes d.next no_worse d.allowed in
      let b : ℕ = road_code base 0 d.arc d.over.tail (u / base) in
      let road : Road = record { tail = code base d.over.tail (u / base); head = code base d.over.head next.0; minutes = d.over.minutes; cost = d.over.cost } in
      let is_road : (product s r base).road b ≡ Some road =
      road_is s r base 0 d.arc d.over.tail (u / base) (omega arith) small.0 small.1
      ∙ ap (λ o. driven_by r base (u / base) o) d.is ∙ ap (λ o. driven_to r base (u / base) d.over o) next.1 in
      let own : u ≡ code base d.over.tail (u / base) =
      code_is u d.over.tail d.state small.1 (same_node u p.node better ∙ ap (λ n. n % base) at) in
      record {
        road = b;
        end = record { node = code base d.over.head next.0; minute = p.minute + d.over.minutes; cost = y + d.over.cost };
        move = record {
          road = road;
          is = is_road;
          tail = sym own;
          is_open = λ t early late. shut_is s r base 0 d.arc d.over.tail (u / base) (omega arith) small.0 small.1 t ∙ sym (d.shut t)
              ∙ move.is_open t early (omega (arith, late, d.minutes));
          in_time = omega (arith, move.in_time, d.minutes);
          node = refl;
          minute = refl;
          cost = refl;
        };
        no_worse = record {
          node = no_worse_by (code base d.over.head next.0) q.node
              (node_of d.over.head next.0 small.2 ∙ sym (ap (λ n. n % base) (move.node ∙ d.head) ∙ node_of d.over.head d.next small.2))
              (subst (λ n. r.no_worse n (q.node / base) ≡ true) (sym (state_of d.over.head next.0 small.2))
              (subst (λ n. r.no_worse next.0 n ≡ true) (sym (ap (λ n. n / base) (move.node ∙ d.head) ∙ state_of d.over.head d.next small.2)) next.2));
          minute = omega (arith, move.minute, d.minutes);
          cost = omega (arith, move.cost, d.cost, le);
        };
        kind = d.kind ∙ sym (kind_is s r base 0 d.arc d.over.tail (u / base) (omega arith) small.0 small.1);
        number = d.number ∙ sym (arc_is s r base 0 d.arc d.over.tail (u / base) (omega arith) small.0 small.1);
        paid = omega (arith, move.cost, d.cost);
      }

  rest_too : (u y x : ℕ) (p q : Position) → over.no_worse u p.node ≡ true → y ≤ p.cost → (move : Drives over.setting until x p q)
      → IsRestRoad s r base x move.road → IsDrivenToo over base u y x p q
  unfolding over
  rest_too u y x p q better le move d =
      let node = is_base.nodes d.node d.weight d.rated in
      let place = is_base.rests d.place d.rest d.is in
      let at : p.node ≡ code base d.node d.state = sym move.tail ∙ d.tail in
      let state : p.node / base ≡ d.state = ap (λ n. n / base) at ∙ state_of d.node d.state node in
      let no_worse : r.no_worse (u / base) d.state ≡ true = subst (λ n. r.no_worse (u / base) n ≡ true) state (better_state u p.node better) in
      let b : ℕ = road_code base 1 d.place d.node (u / base) in
      let next : ℕ = r.rest (u / base) d.rest in
      let road : Road = record { tail = code base d.node (u / base); head = code base d.node next; minutes = d.rest; cost = d.rest * d.weight } in
      let is_road : (product s r base).road b ≡ Some road =
      road_is s r base 1 d.place d.node (u / base) (omega arith) place node
      ∙ ap (λ o. rested_by r base d.node (u / base) o (s.weight d.node)) d.is ∙ ap (λ o. rested_by r base d.node (u / base) (Some d.rest) o) d.rated in
      let own : u ≡ code base d.node (u / base) =
      code_is u d.node d.state node (same_node u p.node better ∙ ap (λ n. n % base) at) in
      record {
        road = b;
        end = record { node = code base d.node next; minute = p.minute + d.rest; cost = y + d.rest * d.weight };
        move = record {
          road = road;
          is = is_road;
          tail = sym own;
          is_open = λ t early late. shut_is s r base 1 d.place d.node (u / base) (omega arith) place node t ∙ sym (d.shut t)
              ∙ move.is_open t early (omega (arith, late, d.minutes));
          in_time = omega (arith, move.in_time, d.minutes);
          node = refl;
          minute = refl;
          cost = refl;
        };
        no_worse = record {
          node = no_worse_by (code base d.node next) q.node
              (node_of d.node next node ∙ sym (ap (λ n. n % base) (move.node ∙ d.head) ∙ node_of d.node (r.rest d.state d.rest) node))
              (subst (λ n. r.no_worse n (q.node / base) ≡ true) (sym (state_of d.node next node))
              (subst (λ n. r.no_worse next n ≡ true) (sym (ap (λ n. n / base) (move.node ∙ d.head) ∙ state_of d.node (r.rest d.state d.rest) node))
              (sim.rest (u / base) d.state d.rest no_worse)));
          minute = omega (arith, move.minute, d.minutes);
          cost = omega (arith, move.cost, d.cost, le);
        };
        kind = d.kind ∙ sym (kind_is s r base 1 d.place d.node (u / base) (omega arith) place node);
        number = d.number ∙ sym (arc_is s r base 1 d.place d.node (u / base) (omega arith) place node);
        paid = omega (arith, move.cost, d.cost);
      }

  serve_too : (u y x : ℕ) (p q : Position) → over.no_worse u p.node ≡ true → y ≤ p.cost → (move : Drives over.setting until x p q)
      → IsServiceRoad s r base x move.road → IsDrivenToo over base u y x p q
  unfolding over
  serve_too u y x p q better le move d =
      let small = is_base.services d.place d.service d.is in
      let some : 0 < base = omega (arith, small.0) in
      let at : p.node ≡ code base d.service.node d.state = sym move.tail ∙ d.tail in
      let state : p.node / base ≡ d.state = ap (λ n. n / base) at ∙ state_of d.service.node d.state small.1 in
      let no_worse : r.no_worse (u / base) d.state ≡ true = subst (λ n. r.no_worse (u / base) n ≡ true) state (better_state u p.node better) in
      let next = sim.serve (u / base) d.state d.place d.next no_worse d.allowed in
      let b : ℕ = road_code base 2 d.place 0 (u / base) in
      let road : Road = record { tail = code base d.service.node (u / base); head = code base d.service.node next.0; minutes = d.service.minutes; cost = 0 } in
      let is_road : (product s r base).road b ≡ Some road =
      road_is s r base 2 d.place 0 (u / base) (omega arith) small.0 some
      ∙ ap (λ o. served_by r base d.place (u / base) o) d.is ∙ ap (λ o. served_to base (u / base) d.service o) next.1 in
      let own : u ≡ code base d.service.node (u / base) =
      code_is u d.service.node d.state small.1 (same_node u p.node better ∙ ap (λ n. n % base) at) in
      record {
        road = b;
        end = record { node = code base d.service.node next.0; minute = p.minute + d.service.minutes; cost = y + 0 };
        move = record {
          road = road;
          is = is_road;
          tail = sym own;
          is_open = λ t early late. shut_is s r base 2 d.place 0 (u / base) (omega arith) small.0 some t ∙ ap (λ o. shut_for o t) d.is ∙ sym (d.shut t)
              ∙ move.is_open t early (omega (arith, late, d.minutes));
          in_time = omega (arith, move.in_time, d.minutes);
          node = refl;
          minute = refl;
          cost = refl;
        };
        no_worse = record {
          node = no_worse_by (code base d.service.node next.0) q.node
              (node_of d.service.node next.0 small.1 ∙ sym (ap (λ n. n % base) (move.node ∙ d.head) ∙ node_of d.service.node d.next small.1))
              (subst (λ n. r.no_worse n (q.node / base) ≡ true) (sym (state_of d.service.node next.0 small.1))
              (subst (λ n. r.no_worse next.0 n ≡ true) (sym (ap (λ n. n / base) (move.node ∙ d.head) ∙ state_of d.service.node d.next small.1)) next.2));
          minute = omega (arith, move.minute, d.minutes);
          cost = omega (arith, move.cost, d.cost, le);
        };
        kind = d.kind ∙ sym (kind_is s r base 2 d.place 0 (u / base) (omega arith) small.0 some);
        number = d.number ∙ sym (arc_is s r base 2 d.place 0 (u / base) (omega arith) small.0 some);
        paid = omega (arith, move.cost, d.cost);
      }

  too : (u y x : ℕ) (p q : Position) → over.no_worse u p.node ≡ true → y ≤ p.cost → Drives over.setting until x p q → IsDrivenToo over base u y x p q
  unfolding over
  too u y x p q better le move = ⊎_elim
      (λ (d : IsDriveRoad s r base x move.road). drive_too u y x p q better le move d)
      (λ (other : IsRestRoad s r base x move.road ⊎ IsServiceRoad s r base x move.road). ⊎_elim
      (λ (d : IsRestRoad s r base x move.road). rest_too u y x p q better le move d)
      (λ (d : IsServiceRoad s r base x move.road). serve_too u y x p q better le move d)
      other)
      (road_kinds s r base x move.road move.is)

  pub driven_too : (u y x : ℕ) (p q : Position) → (task_by_latest s r base origin goal depart until bound latest).no_worse u p.node ≡ true → y ≤ p.cost
      → Drives (product s r base) until x p q → IsDrivenToo (task_by_latest s r base origin goal depart until bound latest) base u y x p q
  unfolding over
  driven_too u y x p q better le move = too u y x p q better le move

  -- the number of a road has the state in which it is driven
  pub drive_state : (x : ℕ) (p q : Position) → Drives (product s r base) until x p q → x / 3 / base / base ≡ p.node / base
  drive_state x p q move = ⊎_elim
      (λ (d : IsDriveRoad s r base x move.road).
      d.held ∙ sym (ap (λ n. n / base) (sym move.tail ∙ d.tail) ∙ state_of d.over.tail d.state (is_base.arcs d.arc d.over d.is).1))
      (λ (other : IsRestRoad s r base x move.road ⊎ IsServiceRoad s r base x move.road). ⊎_elim
      (λ (d : IsRestRoad s r base x move.road).
      d.held ∙ sym (ap (λ n. n / base) (sym move.tail ∙ d.tail) ∙ state_of d.node d.state (is_base.nodes d.node d.weight d.rated)))
      (λ (d : IsServiceRoad s r base x move.road).
      d.held ∙ sym (ap (λ n. n / base) (sym move.tail ∙ d.tail) ∙ state_of d.service.node d.state (is_base.services d.place d.service d.is).1))
      other)
      (road_kinds s r base x move.road move.is)

  wait_too : (u y : ℕ) (p q : Position) → over.no_worse u p.node ≡ true → y ≤ p.cost → Waits over.setting until p q
      → (w : Position) × Waits over.setting until (point u p.minute y) w × IsNoWorseThan over w q
  unfolding over
  wait_too u y p q better le move =
      let same = same_node u p.node better in (
        record { node = u; minute = p.minute + 1; cost = y + move.weight },
        record {
          weight = move.weight;
          rated = ap s.weight same ∙ move.rated;
          is_open = ap (λ n. s.wait_shut n p.minute) same ∙ move.is_open;
          in_time = move.in_time;
          node = refl;
          minute = refl;
          cost = refl;
        },
        record {
          node = subst (λ n. (task_by_latest s r base origin goal depart until bound latest).no_worse u n ≡ true) (sym move.node) better;
          minute = sym move.minute;
          cost = omega (arith, move.cost, le);
        },
      )

  pub is_simulation : IsSimulation (task_by_latest s r base origin goal depart until bound latest)
  unfolding over
  is_simulation = record {
    same = λ v. no_worse_by v v refl (sim.same (v / base));
    on = λ u v w one two. no_worse_by u w (same_node u v one ∙ same_node v w two) (sim.on (u / base) (v / base) (w / base) (better_state u v one) (better_state v w two));
    low = λ u v is. code_low u v (same_node u v is) (sim.low (u / base) (v / base) (better_state u v is));
    goals = λ u v is at.
        let parts = and_parts (eqb (v % base) goal) (r.ends (v / base)) at in
        and_from (eqb (u % base) goal) (r.ends (u / base)) (ap (λ n. eqb n goal) (same_node u v is) ∙ parts.0)
        (sim.ends (u / base) (v / base) (better_state u v is) parts.1);
    bounds = λ u v b is at. let d = bounds.falls (v % base) (u / base) (v / base) b (better_state u v is) at in
        (d.0, ap (λ n. bound n (u / base)) (same_node u v is) ∙ d.1, d.2, d.3);
    latest = λ u v is. minutes.falls (u / base) (v / base) (better_state u v is);
    drives = λ u y a p q better le move. let d = too u y a p q better le move in (d.road, d.end, d.move, d.no_worse);
    waits = wait_too;
  }

  bounds_each : (a : ℕ) (road : Road) (h : Bound) → over.setting.road a ≡ Some road → over.bounds road.head ≡ Some h
      → (b : Bound) × (over.bounds road.tail ≡ Some b) × IsBoundThrough road h b
  unfolding over
  bounds_each a road h is at = ⊎_elim
      (λ (d : IsDriveRoad s r base a road).
      let small = is_base.arcs d.arc d.over d.is in
      let there : bound d.over.head d.next ≡ Some h =
      ap (λ n. bound n d.next) (sym (ap (λ n. n % base) d.head ∙ node_of d.over.head d.next small.2))
      ∙ ap (λ n. bound (road.head % base) n) (sym (ap (λ n. n / base) d.head ∙ state_of d.over.head d.next small.2)) ∙ at in
      let b = bounds.drives d.arc d.state d.next d.over h d.is d.allowed there in (
        b.0,
        ap (λ n. bound n (road.tail / base)) (ap (λ n. n % base) d.tail ∙ node_of d.over.tail d.state small.1)
            ∙ ap (λ n. bound d.over.tail n) (ap (λ n. n / base) d.tail ∙ state_of d.over.tail d.state small.1) ∙ b.1,
        record { minutes = omega (arith, b.2, d.minutes); cost = omega (arith, b.3, d.cost) },
      ))
      (λ (other : IsRestRoad s r base a road ⊎ IsServiceRoad s r base a road). ⊎_elim
      (λ (d : IsRestRoad s r base a road).
      let node = is_base.nodes d.node d.weight d.rated in
      let there : bound d.node (r.rest d.state d.rest) ≡ Some h =
      ap (λ n. bound n (r.rest d.state d.rest)) (sym (ap (λ n. n % base) d.head ∙ node_of d.node (r.rest d.state d.rest) node))
      ∙ ap (λ n. bound (road.head % base) n) (sym (ap (λ n. n / base) d.head ∙ state_of d.node (r.rest d.state d.rest) node)) ∙ at in
      let b = bounds.rests d.place d.node d.state d.rest d.weight h d.is d.rated there in (
        b.0,
        ap (λ n. bound n (road.tail / base)) (ap (λ n. n % base) d.tail ∙ node_of d.node d.state node)
            ∙ ap (λ n. bound d.node n) (ap (λ n. n / base) d.tail ∙ state_of d.node d.state node) ∙ b.1,
        record { minutes = omega (arith, b.2, d.minutes); cost = omega (arith, b.3, d.cost) },
      ))
      (λ (d : IsServiceRoad s r base a road).
      let small = is_base.services d.place d.service d.is in
      let there : bound d.service.node d.next ≡ Some h =
      ap (λ n. bound n d.next) (sym (ap (λ n. n % base) d.head ∙ node_of d.service.node d.next small.1))
      ∙ ap (λ n. bound (road.head % base) n) (sym (ap (λ n. n / base) d.head ∙ state_of d.service.node d.next small.1)) ∙ at in
      let b = bounds.serves d.place d.state d.next d.service h d.is d.allowed there in (
        b.0,
        ap (λ n. bound n (road.tail / base)) (ap (λ n. n % base) d.tail ∙ node_of d.service.node d.state small.1)
            ∙ ap (λ n. bound d.service.node n) (ap (λ n. n / base) d.tail ∙ state_of d.service.node d.state small.1) ∙ b.1,
        record { minutes = omega (arith, b.2, d.minutes); cost = omega (arith, b.3, d.cost) },
      ))
      other)
      (road_kinds s r base a road is)

  -- what the latest minutes say of a drive: that behind it is no larger than before it, or a service leaves time for its window
  latest_over : (x : ℕ) (p q : Position) (h : Bound) → (move : Drives over.setting until x p q) → over.bounds q.node ≡ Some h
      → over.latest q.node ≤ over.latest p.node ⊎ (p.minute + move.road.minutes + h.minutes ≤ over.latest p.node)
  unfolding over
  latest_over x p q h move at = ⊎_elim
      (λ (d : IsDriveRoad s r base x move.road).
      let small = is_base.arcs d.arc d.over d.is in
      let before : p.node / base ≡ d.state = ap (λ n. n / base) (sym move.tail ∙ d.tail) ∙ state_of d.over.tail d.state small.1 in
      let behind : q.node / base ≡ d.next = ap (λ n. n / base) (move.node ∙ d.head) ∙ state_of d.over.head d.next small.2 in
      inl (omega (arith, minutes.drives d.state d.over.minutes d.next d.allowed, ap latest before, ap latest behind)))
      (λ (other : IsRestRoad s r base x move.road ⊎ IsServiceRoad s r base x move.road). ⊎_elim
      (λ (d : IsRestRoad s r base x move.road).
      let small = is_base.nodes d.node d.weight d.rated in
      let before : p.node / base ≡ d.state = ap (λ n. n / base) (sym move.tail ∙ d.tail) ∙ state_of d.node d.state small in
      let behind : q.node / base ≡ r.rest d.state d.rest = ap (λ n. n / base) (move.node ∙ d.head) ∙ state_of d.node (r.rest d.state d.rest) small in
      inl (omega (arith, minutes.rests d.state d.rest, ap latest before, ap latest behind)))
      (λ (d : IsServiceRoad s r base x move.road).
      let small = (is_base.services d.place d.service d.is).1 in
      let before : p.node / base ≡ d.state = ap (λ n. n / base) (sym move.tail ∙ d.tail) ∙ state_of d.service.node d.state small in
      let at_head : q.node ≡ code base d.service.node d.next = move.node ∙ d.head in
      let behind : q.node / base ≡ d.next = ap (λ n. n / base) at_head ∙ state_of d.service.node d.next small in
      let there : bound d.service.node d.next ≡ Some h =
      ap (λ n. bound n d.next) (sym (ap (λ n. n % base) at_head ∙ node_of d.service.node d.next small))
      ∙ ap (λ n. bound (q.node % base) n) (sym behind) ∙ at in
      ⊎_elim
      (λ (low : latest d.next ≤ latest d.state). inl (omega (arith, low, ap latest before, ap latest behind)))
      (λ (room : d.service.to + h.minutes ≤ latest d.state). inr (
      let some : 1 ≤ d.service.minutes = is_base.service_times d.place d.service d.is in
      let last : ℕ = p.minute + move.road.minutes - 1 in
      let free = sym (d.shut last) ∙ move.is_open last (omega (arith, some, d.minutes)) (omega (arith, some, d.minutes)) in
      let in_window : last < d.service.to = open_before d.service last free in
      omega (arith, room, in_window, some, d.minutes, ap latest before)))
      (minutes.serves d.place d.state d.next d.service h d.is d.allowed there))
      other)
      (road_kinds s r base x move.road move.is)

  late_along : (x : ℕ) (p q : Position) (b h : Bound) → Drives over.setting until x p q → over.bounds p.node ≡ Some b → over.bounds q.node ≡ Some h
      → over.latest p.node < p.minute + b.minutes → over.latest q.node < q.minute + h.minutes
  late_along x p q b h move before behind late =
      let e = bounds_each x move.road h move.is (ap over.bounds (sym move.node) ∙ behind) in
      let same : b ≡ e.0 = same_Some b e.0 (sym before ∙ (ap over.bounds (sym move.tail) ∙ e.1)) in
      let within : b.minutes ≤ move.road.minutes + h.minutes = omega (arith, e.2.minutes, ap (λ (w : Bound). w.minutes) same) in
      ⊎_elim
      (λ (low : over.latest q.node ≤ over.latest p.node). omega (arith, late, low, within, move.minute))
      (λ (room : p.minute + move.road.minutes + h.minutes ≤ over.latest p.node). absurd (omega (arith, late, room, within)))
      (latest_over x p q h move behind)

  pub are_bounds : AreBoundsAlong (task_by_latest s r base origin goal depart until bound latest)
  unfolding over
  are_bounds = record {
    time = λ a road is. ⊎_elim
        (λ (d : IsDriveRoad s r base a road). omega (arith, d.minutes, is_base.arc_times d.arc d.over d.is))
        (λ (other : IsRestRoad s r base a road ⊎ IsServiceRoad s r base a road). ⊎_elim
        (λ (d : IsRestRoad s r base a road). omega (arith, d.minutes, is_base.rest_times d.place d.rest d.is))
        (λ (d : IsServiceRoad s r base a road). omega (arith, d.minutes, is_base.service_times d.place d.service d.is))
        other)
        (road_kinds s r base a road is);
    goal = λ v at.
        let parts = and_parts (eqb (v % base) goal) (r.ends (v / base)) at in
        ap (λ n. bound n (v / base)) (eqb-true (v % base) goal parts.0) ∙ bounds.at_goal (v / base) parts.1;
    each = bounds_each;
    low = λ v. minutes.low (v / base);
    last = λ v at. minutes.ends (v / base) (and_parts (eqb (v % base) goal) (r.ends (v / base)) at).1;
    late = late_along;
  }
