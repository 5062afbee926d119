-- Ways are roads over states, and a way that isn't made is barred.
use Rattle.std.proofs.Common.{◌≡◌, ℕ, ◌*◌, ◌/◌, ◌%◌, ◌≤◌, ◌<◌, Option, Some, None, List, [], ◌∷◌, ◌++◌, refl, sym, ◌∙◌, ap, subst, arith}
use Rattle.std.specs.Prelude.{slice_get}
use Rattle.std.proofs.lemmas.Nat.{div-mul-add, mod-mul-add}
use Rattle.std.proofs.lemmas.Option.{same_Some}
use Rattle.route_base.specs.Itinerary.{Position, Step, drive, Walks}
use Rattle.route_base.specs.Setting.{Setting, Road}
use Rattle.route_base.specs.declared.limits.TheConstants.{HIGHEST_COST}
use Rattle.route_base.proofs.Walking.{walk-push}
use Rattle.propagation.specs.Inside.Invariants.{IsWorseOrLate}
use Rattle.state_dominance.specs.Inside.Dominance.{Task}
use Rattle.state_dominance.specs.Inside.Product.{Ruler, Service, code, driven_by, driven_to, rested_by, served_by, served_to, product, road_code}
use Rattle.state_dominance.proofs.Roads.{road_is}
use Rattle.ruled_search.specs.Inside.Tasks.{IsBarred}

abbrev pub made_road : ℕ → ℕ → ℕ → ℕ → Road
made_road tail head minutes cost = record { tail = tail; head = head; minutes = minutes; cost = cost }

-- what a road over states is by its kind
module _ (s : Setting) (r : Ruler) (base v k : ℕ) (node : v < base) where
  module _ (a : ℕ) (small : a < base) where
    pub drive_road : (over : Road) (next : ℕ) → s.road a ≡ Some over → over.tail ≡ v → r.drive k over.minutes ≡ Some next
        → (product s r base).road (road_code base 0 a v k)
        ≡ Some (made_road (code base v k) (code base over.head next) over.minutes over.cost)
    drive_road over next is begins allowed = road_is s r base 0 a v k (omega arith) small node
        ∙ ap (driven_by r base k) is ∙ ap (driven_to r base k over) allowed
        ∙ ap (λ n. Some (made_road (code base n k) (code base over.head next) over.minutes over.cost)) begins

    pub no_drive : (over : Road) → s.road a ≡ Some over → r.drive k over.minutes ≡ None → (product s r base).road (road_code base 0 a v k) ≡ None
    no_drive over is none = road_is s r base 0 a v k (omega arith) small node ∙ ap (driven_by r base k) is ∙ ap (driven_to r base k over) none

  module _ (i : ℕ) (small : i < base) where
    pub rest_road : (rest weight : ℕ) → slice_get r.rests i ≡ Some rest → s.weight v ≡ Some weight
        → (product s r base).road (road_code base 1 i v k)
        ≡ Some (made_road (code base v k) (code base v (r.rest k rest)) rest (rest * weight))
    rest_road rest weight is rated = road_is s r base 1 i v k (omega arith) small node
        ∙ ap (λ o. rested_by r base v k o (s.weight v)) is ∙ ap (rested_by r base v k (Some rest)) rated

    pub service_road : (c : Service) (next : ℕ) → slice_get r.services i ≡ Some c → c.node ≡ v → r.serve k i ≡ Some next
        → (product s r base).road (road_code base 2 i v k)
        ≡ Some (made_road (code base v k) (code base v next) c.minutes 0)
    service_road c next is here allowed = road_is s r base 2 i v k (omega arith) small node
        ∙ ap (served_by r base i k) is ∙ ap (served_to base k c) allowed
        ∙ ap (λ n. Some (made_road (code base n k) (code base n next) c.minutes 0)) here

    pub no_service : slice_get r.services i ≡ None → (product s r base).road (road_code base 2 i v k) ≡ None
    no_service none = road_is s r base 2 i v k (omega arith) small node ∙ ap (served_by r base i k) none

    pub not_served : (c : Service) → slice_get r.services i ≡ Some c → r.serve k i ≡ None → (product s r base).road (road_code base 2 i v k) ≡ None
    not_served c is none = road_is s r base 2 i v k (omega arith) small node ∙ ap (served_by r base i k) is ∙ ap (served_to base k c) none

    -- the road of a service that is elsewhere doesn't begin here
    pub served_tail : (c : Service) → slice_get r.services i ≡ Some c → (road : Road) → (product s r base).road (road_code base 2 i v k) ≡ Some road
        → road.tail ≡ code base c.node k
    served_tail c is road there = by (r.serve k i) refl
      where
        made : (o : Option ℕ) → r.serve k i ≡ o → (product s r base).road (road_code base 2 i v k) ≡ served_to base k c o
        made o at = road_is s r base 2 i v k (omega arith) small node ∙ ap (served_by r base i k) is ∙ ap (served_to base k c) at

        by : (o : Option ℕ) → r.serve k i ≡ o → road.tail ≡ code base c.node k
        by None at = let bad : None ≡ Some road = sym (made None at) ∙ there in cc
        by (Some next) at =
            let own : Road = made_road (code base c.node k) (code base c.node next) c.minutes 0 in
            let same : own ≡ road = same_Some own road (sym (made (Some next) at) ∙ there) in
            ap (λ (w : Road). w.tail) (sym same)

-- the digits of a code
pub node_of : (base v k : ℕ) → v < base → code base v k % base ≡ v
node_of base v k small = mod-mul-add k base v small

pub state_of : (base v k : ℕ) → v < base → code base v k / base ≡ k
state_of base v k small = div-mul-add k base v small

module _ (k : Task) (c x : ℕ) where
  pub bar_none : k.setting.road x ≡ None → IsBarred k c x
  bar_none none pairs p q here reached step = let bad : None ≡ Some step.road = sym none ∙ step.is in cc

  -- it begins elsewhere
  pub bar_elsewhere : ((road : Road) → k.setting.road x ≡ Some road → road.tail ≡ c → ⊥) → IsBarred k c x
  bar_elsewhere other pairs p q here reached step = absurd (other step.road step.is (step.tail ∙ here))

  module _ (road : Road) (is : k.setting.road x ≡ Some road) where
    pub bar_unbound : k.bounds road.head ≡ None → IsBarred k c x
    bar_unbound none pairs p q here reached step =
        let same : road ≡ step.road = same_Some road step.road (sym is ∙ step.is) in
        subst (λ o. IsWorseOrLate (k.latest q.node) pairs o q)
        (sym (ap k.bounds (step.node ∙ ap (λ (w : Road). w.head) (sym same)) ∙ none)) tt

    pub bar_long : k.until < road.minutes → IsBarred k c x
    bar_long long pairs p q here reached step =
        let same : road ≡ step.road = same_Some road step.road (sym is ∙ step.is) in
        let minutes : road.minutes ≡ step.road.minutes = ap (λ (w : Road). w.minutes) same in
        absurd (omega (arith, long, minutes, step.in_time))

    -- it costs more than any walk
    pub bar_dear : ((steps : List Step) (p : Position) → Walks k.setting k.until steps k.start p → p.cost ≤ HIGHEST_COST) → HIGHEST_COST < road.cost
        → IsBarred k c x
    bar_dear fit dear pairs p q here reached step =
        let same : road ≡ step.road = same_Some road step.road (sym is ∙ step.is) in
        let cost : road.cost ≡ step.road.cost = ap (λ (w : Road). w.cost) same in
        let low = fit (reached.0 ++ drive x ∷ []) q (walk-push k.setting k.until reached.0 (drive x) k.start p q reached.1 step) in
        absurd (omega (arith, low, dear, cost, step.cost))
