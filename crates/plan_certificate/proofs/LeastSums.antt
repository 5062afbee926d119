-- Least minutes and costs to a goal are no larger than the number of nodes allows, since no node comes twice along a least walk.
use Rattle.std.proofs.Common.{◌≡◌, ◌⊎◌, inl, inr, ⊎_elim, ℕ, zero, suc, ◌+◌, ◌-◌, ◌*◌, ◌≤◌, ◌<◌, ltb, Bool, true, false, arith}
use Rattle.std.proofs.Common.{Option, Some, None, List, [], ◌∷◌, refl, ◌∙◌, ap, subst}
use Rattle.std.specs.Option.{option_map}
use Rattle.std.proofs.lemmas.Bool.{cases_lt, lt-ltb, le-ltb}
use Rattle.std.proofs.lemmas.Option.{same_Some}
use Rattle.route_base.specs.Net.{Net, IsGoodNet, IsGoodArc, at_number, road_of, setting_of}
use Rattle.route_base.specs.Setting.{Setting, Road}
use Rattle.route_base.specs.declared.limits.TheConstants.{COST_OF_MINUTE, HIGHEST_TOLL, LONGEST_DRIVE}
use Rattle.route_base.specs.declared.types.Bound.{Bound}
use Rattle.route_base.specs.declared.types.TimedArc.{TimedArc}
use Rattle.route_base.proofs.Numbered.{at_number-all}
use Rattle.potentials.specs.Inside.Totals.{total}
use Rattle.potentials.specs.Sums.{Leads, IsLeastSum, AreLeastBounds}
use Rattle.potentials.proofs.Totals.{total_one}
use Rattle.potentials.proofs.Ending.{few_by}
use Rattle.plan_certificate.specs.CheapRoads.{HasCheapRoads}

-- the minutes of a road and its head
module _ (net : Net) (good : IsGoodNet net) where
  abbrev IsShort : Road → Type 0
  IsShort road = (1 ≤ road.minutes) × (road.minutes ≤ LONGEST_DRIVE) × (1 ≤ road.head) × (road.head ≤ net.nodes)

  short : (a : ℕ) (road : Road) → (o : Option TimedArc) → at_number net.arcs a ≡ o → option_map road_of o ≡ Some road → IsShort road
  short a road None at is = absurd (cc)
  short a road (Some arc) at is =
      let fine = at_number-all (IsGoodArc net) net.arcs a arc good.each_arc at in
      subst IsShort (same_Some (road_of arc) road is) (fine.minutes.0, fine.minutes.1, fine.head.0, fine.head.1)

abbrev one_if : Bool → ℕ
one_if true = 1
one_if false = 0

-- one, if there is a number and it is lower
lower : ℕ → Option ℕ → ℕ
lower x None = 0
lower x (Some y) = one_if (ltb y x)

lower_at_most : (x : ℕ) (o : Option ℕ) → lower x o ≤ 1
unfolding lower
lower_at_most x None = omega arith
lower_at_most x (Some y) = ⊎_elim
    (λ (less : y < x). let e : one_if (ltb y x) ≡ 1 = ap one_if (lt-ltb y x less) in omega (arith, e))
    (λ (more : x ≤ y). let e : one_if (ltb y x) ≡ 0 = ap one_if (le-ltb y x more) in omega (arith, e))
    (cases_lt y x)

lower_more : (x z : ℕ) (o : Option ℕ) → x ≤ z → lower x o ≤ lower z o
unfolding lower
lower_more x z None le = omega arith
lower_more x z (Some y) le = ⊎_elim
    (λ (less : y < x).
    let e : one_if (ltb y x) ≡ 1 = ap one_if (lt-ltb y x less) in
    let f : one_if (ltb y z) ≡ 1 = ap one_if (lt-ltb y z (omega (arith, less, le))) in omega (arith, e, f))
    (λ (more : x ≤ y). let e : one_if (ltb y x) ≡ 0 = ap one_if (le-ltb y x more) in omega (arith, e))
    (cases_lt y x)

lower_here : (x z : ℕ) (o : Option ℕ) → o ≡ Some x → x < z → lower x o + 1 ≤ lower z o
unfolding lower
lower_here x z None is less = absurd (cc)
lower_here x z (Some y) is less =
    let same : y ≡ x = same_Some y x is in
    let e : one_if (ltb y x) ≡ 0 = ap one_if (le-ltb y x (omega (arith, same))) in
    let f : one_if (ltb y z) ≡ 1 = ap one_if (lt-ltb y z (omega (arith, less, same))) in
    omega (arith, e, f)

module _ (net : Net) (good : IsGoodNet net) (goal : ℕ) (bounds : ℕ → Option Bound) (least : AreLeastBounds (setting_of net) goal bounds) where
  abbrev s : Setting
  s = setting_of net

  abbrev minutes_at : ℕ → Option ℕ
  minutes_at v = option_map (λ b. b.minutes) (bounds v)

  -- these arcs lead from node v to the goal in x minutes
  abbrev LeadsIn : List ℕ → ℕ → ℕ → Type 0
  LeadsIn arcs v x = Leads s.road (λ w. w.minutes) goal arcs v x

  abbrev IsLeast : ℕ → Option ℕ → Type 0
  IsLeast v o = IsLeastSum s.road (λ w. w.minutes) goal v o

  -- whether the node behind a number has fewer minutes to the goal, and how many nodes have
  abbrev has_fewer : ℕ → ℕ → ℕ
  has_fewer x i = lower x (minutes_at (suc i))

  abbrev nodes_before : ℕ → ℕ
  nodes_before x = total net.nodes (has_fewer x)

  -- the head of the first road of a least walk has fewer minutes
  record IsNext (v x : ℕ) : Type 0 where
    road : Road
    arc : ℕ
    is : s.road arc ≡ Some road
    tail : road.tail ≡ v
    rest : ℕ
    known : minutes_at road.head ≡ Some rest
    sum : x ≡ road.minutes + rest

  next_of : (v x a rest : ℕ) (arcs : List ℕ) (road : Road) → s.road a ≡ Some road → road.tail ≡ v → LeadsIn arcs road.head rest
      → x ≡ road.minutes + rest → ((arcs : List ℕ) (sum : ℕ) → LeadsIn arcs v sum → x ≤ sum)
      → (o : Option ℕ) → minutes_at road.head ≡ o → IsLeast road.head o → IsNext v x
  next_of v x a rest arcs road is tail leads sum best None at far = absurd (far arcs rest leads)
  next_of v x a rest arcs road is tail leads sum best (Some y) at far =
      let no_more : y ≤ rest = far.1 arcs rest leads in
      let no_less : x ≤ road.minutes + y = best (a ∷ far.0.0) (road.minutes + y) (road, y, is, tail, far.0.1, refl) in
      record { road = road; arc = a; is = is; tail = tail; rest = y; known = at; sum = omega (arith, no_more, no_less, sum) }

  next : (v x : ℕ) → IsLeast v (Some x) → (arcs : List ℕ) → LeadsIn arcs v x → ((v ≡ goal) × (x ≡ 0)) ⊎ IsNext v x
  next v x far [] leads = inl leads
  next v x far (a ∷ arcs) leads =
      inr (next_of v x a leads.1 arcs leads.0 leads.2 leads.3 leads.4 leads.5 far.1 (minutes_at leads.0.head) refl (least leads.0.head).0)

  next_from : (v x : ℕ) → minutes_at v ≡ Some x → ((v ≡ goal) × (x ≡ 0)) ⊎ IsNext v x
  next_from v x at = let far : IsLeast v (Some x) = subst (IsLeast v) at (least v).0 in next v x far far.0.0 far.0.1

  -- fewer nodes have fewer minutes than the head of the first road
  module _ (v x : ℕ) (one : IsNext v x) where
    fine : IsShort net good one.road
    fine = short net good one.arc one.road (at_number net.arcs one.arc) refl one.is

    fewer : one.rest < x
    fewer = omega (arith, one.sum, fine.0)

    before_next : nodes_before one.rest + 1 ≤ nodes_before x
    before_next =
        let head : suc (one.road.head - 1) ≡ one.road.head = omega (arith, fine.2) in
        total_one net.nodes (one.road.head - 1) (has_fewer one.rest) (has_fewer x)
        (λ i within. lower_more one.rest x (minutes_at (suc i)) (omega (arith, fewer)))
        (omega (arith, fine.2, fine.3))
        (lower_here one.rest x (minutes_at (suc (one.road.head - 1))) (ap minutes_at head ∙ one.known) fewer)

  -- by induction on the minutes, each node with fewer minutes stands for one road at most
  few : (n v x : ℕ) → minutes_at v ≡ Some x → x < n → x ≤ LONGEST_DRIVE * nodes_before x
  few zero v x at less = absurd (omega (arith, less))
  few (suc n) v x at less =
      ⊎_elim
      (λ (none : (v ≡ goal) × (x ≡ 0)). omega (arith, none.1))
      (λ (one : IsNext v x).
      let behind = few n one.road.head one.rest one.known (omega (arith, fewer v x one, less)) in
      omega (arith, one.sum, (fine v x one).1, behind, before_next v x one))
      (next_from v x at)

  nodes_at_most : (x : ℕ) → nodes_before x ≤ net.nodes
  nodes_at_most x = few_by net.nodes (has_fewer x) (λ i. lower_at_most x (minutes_at (suc i)))

  -- a least walk has at most one road for each node
  pub least_minutes : (v : ℕ) (b : Bound) → bounds v ≡ Some b → b.minutes ≤ LONGEST_DRIVE * net.nodes
  least_minutes v b is =
      let x = b.minutes in
      let long = few (suc x) v x (ap (option_map (λ (w : Bound). w.minutes)) is) (omega arith) in
      omega (arith, long, nodes_at_most x)

  -- the walk of the least minutes has at most one road for each node, and none is dear
  module _ (cheap : HasCheapRoads s) where
    abbrev dearest : ℕ
    dearest = COST_OF_MINUTE * LONGEST_DRIVE + HIGHEST_TOLL

    abbrev CostsAtMost : ℕ → ℕ → Type 0
    CostsAtMost v most = (arcs : List ℕ) × (y : ℕ) × Leads s.road (λ w. w.cost) goal arcs v y × (y ≤ most)

    cheap_walk : (n v x : ℕ) → minutes_at v ≡ Some x → x < n → CostsAtMost v (dearest * nodes_before x)
    cheap_walk zero v x at less = absurd (omega (arith, less))
    cheap_walk (suc n) v x at less =
        ⊎_elim
        (λ (none : (v ≡ goal) × (x ≡ 0)).
        let stays : CostsAtMost v (dearest * nodes_before x) = ([], 0, (none.0, refl), omega arith) in stays)
        (λ (one : IsNext v x).
        let rest = cheap_walk n one.road.head one.rest one.known (omega (arith, fewer v x one, less)) in
        let goes : CostsAtMost v (dearest * nodes_before x) = (
          one.arc ∷ rest.0,
          one.road.cost + rest.1,
          (one.road, rest.1, one.is, one.tail, rest.2, refl),
          omega (arith, cheap one.arc one.road one.is, rest.3, before_next v x one),
        ) in
        goes)
        (next_from v x at)

    pub least_cost : (v : ℕ) (b : Bound) → bounds v ≡ Some b → b.cost ≤ dearest * net.nodes
    least_cost v b is =
        let costs : IsLeastSum s.road (λ w. w.cost) goal v (Some b.cost) =
        subst (λ o. IsLeastSum s.road (λ w. w.cost) goal v (option_map (λ (w : Bound). w.cost) o)) is (least v).1 in
        let walk = cheap_walk (suc b.minutes) v b.minutes (ap (option_map (λ (w : Bound). w.minutes)) is) (omega arith) in
        omega (arith, costs.1 walk.0 walk.1 walk.2, walk.3, nodes_at_most b.minutes)
