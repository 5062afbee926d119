-- Steps over layers that lead to one position are ordered as the steps of tours that they are.
use Rattle.std.proofs.Common.{◌≡◌, ◌⊎◌, inl, inr, ⊎_elim, ℕ, suc, ◌+◌, ◌-◌, ◌*◌, ◌%◌, ◌≤◌, ◌<◌, Bool, true, false, nat_le, if◌then◌else◌}
use Rattle.std.proofs.Common.{Some, List, [], ◌∷◌, ◌++◌, length, map, All, refl, sym, ◌∙◌, ap, subst, arith}
use Rattle.std.specs.Prelude.{reverse}
use Rattle.std.proofs.lemmas.List.{map-append, reverse-append}
use Rattle.std.proofs.lemmas.Nat.{mul-le}
use Rattle.std.proofs.lemmas.Option.{same_Some}
use Rattle.route_base.specs.Setting.{Road}
use Rattle.route_base.specs.Itinerary.{Position, Step, drive, wait, Moves}
use Rattle.route_base.specs.FirstItinerary.{IsStepBefore, ComesBefore}
use Rattle.route_base.specs.Net.{Net, at_number, road_of, IsGoodArc, IsGoodNet}
use Rattle.route_base.specs.declared.types.TimedArc.{TimedArc}
use Rattle.route_base.proofs.Arcs.{good_arc}
use Rattle.route_base.proofs.BackwardWalks.{LeadsBack}
use Rattle.route_base.proofs.Logic.{map_some}
use Rattle.route_base.proofs.Numbered.{number_within}
use Rattle.stop_tour.specs.Inside.Layers.{service, tour_net}
use Rattle.stop_tour.specs.Inside.Unlayering.{step_over}
use Rattle.stop_tour.specs.Tours.{IsGoodStop, IsTourStepBefore, TourComesBefore, TourStep, go, serve}
use Rattle.stop_tour.specs.declared.stops.Stop.{Stop}
use Rattle.stop_tour.proofs.LayerPlaces.{IsInLayer, one_place}
use Rattle.stop_tour.proofs.Layered.{z, arc_kinds, drive_over, serve_over, road_at}

pub map_reversed : {A B : Type 0} (f : A → B) (xs : List A) → map f (reverse xs) ≡ reverse (map f xs)
map_reversed f [] = refl
map_reversed {A} {B} f (x ∷ xs) =
    ap (map f) (reverse-append (x ∷ []) xs) ∙ map-append f (reverse xs) (x ∷ [])
    ∙ ap (λ (w : List B). w ++ f x ∷ []) (map_reversed f xs) ∙ sym (reverse-append (f x ∷ []) (map f xs))

pub comes_before : (xs ys us vs : List TourStep) → xs ≡ us → ys ≡ vs → TourComesBefore xs ys → TourComesBefore us vs
comes_before xs ys us vs first second before =
    subst (λ (w : List TourStep). TourComesBefore us w) second (subst (λ (w : List TourStep). TourComesBefore w ys) first before)

step_before : (x y u v : TourStep) → u ≡ x → v ≡ y → IsTourStepBefore x y → IsTourStepBefore u v
step_before x y u v first second before =
    subst (λ (w : TourStep). IsTourStepBefore u w) (sym second) (subst (λ (w : TourStep). IsTourStepBefore w y) (sym first) before)

wait_before : (b : Bool) (a i : ℕ) → IsTourStepBefore (go wait) (if b then go (drive a) else serve i)
wait_before true a i = tt
wait_before false a i = tt

module _ (net : Net) (good : IsGoodNet net) (stops : List Stop) (each_stop : All (IsGoodStop net) stops) (until : ℕ) where
  -- a drive over an arc of a layer, and the node to which it leads
  record IsArcTo (x node : ℕ) : Type 0 where
    pub j : ℕ
    pub below : j < suc (length stops)
    pub a : ℕ
    pub within : (1 ≤ a) × (a ≤ length net.arcs)
    pub number : x ≡ j * length net.arcs + a
    pub head : ℕ
    pub inner : (1 ≤ head) × (head ≤ net.nodes)
    pub is_node : node ≡ j * net.nodes + head

  -- a drive that is a service
  record IsService (x : ℕ) : Type 0 where
    pub i : ℕ
    pub some : 1 ≤ i
    pub number : x ≡ suc (length stops) * length net.arcs + i

  kind : (x : ℕ) (p q : Position) → Moves (z net good stops each_stop until) until (drive x) p q → IsArcTo x q.node ⊎ IsService x
  kind x p q move =
      let found = map_some (at_number (tour_net net stops until).arcs x) road_of move.road
      (road_at net good stops each_stop until x move.road move.is) in
      ⊎_elim
      (λ (layer : IsInLayer net.nodes (length net.closed) (length stops) net.arcs (suc (length stops)) x found.0).
      (let fine : IsGoodArc net layer.base = good_arc net good layer.a layer.base layer.is in
      inl (record {
        j = layer.j;
        below = layer.below;
        a = layer.a;
        within = number_within net.arcs layer.a layer.base layer.is;
        number = layer.number;
        head = layer.base.head.0;
        inner = fine.head;
        is_node = move.node ∙ ap (λ (w : Road). w.head) (sym found.2) ∙ ap (λ (w : TimedArc). w.head.0) (sym layer.same);
      })))
      (λ (one : (i : ℕ) × (stop : Stop) × (at_number stops i ≡ Some stop)
      × (service net.nodes (suc (length stops) * length net.closed) (0 + (i - 1)) stop ≡ found.0) × (x ≡ suc (length stops) * length net.arcs + i)).
      inr (record { i = one.0; some = (number_within stops one.0 one.1 one.2).0; number = one.4 }))
      (arc_kinds net good stops each_stop until x found.0 found.1)

  over : Step → TourStep
  over x = step_over (length net.arcs) (suc (length stops)) x

  arc_over : (x node : ℕ) → (arc : IsArcTo x node) → over (drive x) ≡ go (drive arc.a)
  unfolding over
  arc_over x node arc = drive_over net good stops each_stop until x arc.j arc.a arc.below arc.within arc.number

  service_over : (x : ℕ) → (one : IsService x) → over (drive x) ≡ serve one.i
  unfolding over
  service_over x one = serve_over net good stops each_stop until x one.i one.some one.number

  -- no arc of a layer has a number above that of a service
  arc_below : (x y node : ℕ) → IsArcTo x node → IsService y → x < y
  arc_below x y node arc one =
      omega (
        arith,
        arc.number,
        arc.within.1,
        one.number,
        one.some,
        mul-le (suc arc.j) (length net.arcs) (suc (length stops)) (length net.arcs) (omega (arith, arc.below)) (omega arith),
      )

  drives_before : (x y node other : ℕ) → node ≡ other → x < y → IsArcTo x node ⊎ IsService x → IsArcTo y other ⊎ IsService y
      → IsTourStepBefore (over (drive x)) (over (drive y))
  drives_before x y node other same less (inl one) (inl two) =
      let place = one_place net.nodes one.j two.j one.head two.head one.inner.0 one.inner.1 two.inner.0 two.inner.1
      (sym one.is_node ∙ same ∙ two.is_node) in
      step_before (go (drive one.a)) (go (drive two.a)) _ _ (arc_over x node one) (arc_over y other two)
      (omega (arith, less, one.number, two.number, ap (λ (j : ℕ). j * length net.arcs) place.0))
  drives_before x y node other same less (inl one) (inr two) =
      step_before (go (drive one.a)) (serve two.i) _ _ (arc_over x node one) (service_over y two) tt
  drives_before x y node other same less (inr one) (inl two) = absurd (omega (arith, less, arc_below y x other two one))
  drives_before x y node other same less (inr one) (inr two) =
      step_before (serve one.i) (serve two.i) _ _ (service_over x one) (service_over y two) (omega (arith, less, one.number, two.number))

  -- of two steps to one node the first is that of the first step of a tour
  steps_before : (x y : Step) (p q u v : Position) → u.node ≡ v.node → Moves (z net good stops each_stop until) until x p u
      → Moves (z net good stops each_stop until) until y q v → IsStepBefore x y → IsTourStepBefore (over x) (over y)
  unfolding over
  steps_before wait wait p q u v same one two before = absurd before
  steps_before wait (drive b) p q u v same one two before =
      wait_before (nat_le b (suc (length stops) * length net.arcs)) ((b - 1) % length net.arcs + 1) (b - suc (length stops) * length net.arcs)
  steps_before (drive a) wait p q u v same one two before = absurd before
  steps_before (drive a) (drive b) p q u v same one two before = drives_before a b u.node v.node same before (kind a p u one) (kind b q v two)

  -- steps that are one come from one node
  one_tail : (x y : Step) (p q u v : Position) → x ≡ y → u.node ≡ v.node → Moves (z net good stops each_stop until) until x p u
      → Moves (z net good stops each_stop until) until y q v → p.node ≡ q.node
  one_tail wait wait p q u v same node one two = sym one.node ∙ node ∙ two.node
  one_tail wait (drive b) p q u v same node one two = absurd (cc)
  one_tail (drive a) wait p q u v same node one two = absurd (cc)
  one_tail (drive a) (drive b) p q u v same node one two =
      let number : a ≡ b = cc in
      let road : one.road ≡ two.road =
      same_Some one.road two.road (sym one.is ∙ ap (λ (k : ℕ). (z net good stops each_stop until).road k) number ∙ two.is) in
      sym one.tail ∙ ap (λ (w : Road). w.tail) road ∙ two.tail

  kept : (xs ys : List Step) (p q u v : Position) → u.node ≡ v.node → LeadsBack (z net good stops each_stop until) until xs p u
      → LeadsBack (z net good stops each_stop until) until ys q v → ComesBefore xs ys → TourComesBefore (map over xs) (map over ys)
  kept [] ys p q u v node one two before = absurd before
  kept (x ∷ xs) [] p q u v node one two before = absurd before
  kept (x ∷ xs) (y ∷ ys) p q u v node one two (inl less) = inl (steps_before x y one.0 two.0 u v node one.2 two.2 less)
  kept (x ∷ xs) (y ∷ ys) p q u v node one two (inr more) =
      inr (ap over more.0, kept xs ys p q one.0 two.0 (one_tail x y one.0 two.0 u v more.0 node one.2 two.2) one.1 two.1 more.1)

  -- the order of steps over layers to one position is that of the steps of tours
  pub order_kept : (xs ys : List Step) (p q u : Position) → LeadsBack (z net good stops each_stop until) until xs p u
      → LeadsBack (z net good stops each_stop until) until ys q u → ComesBefore xs ys
      → TourComesBefore (map (step_over (length net.arcs) (suc (length stops))) xs) (map (step_over (length net.arcs) (suc (length stops))) ys)
  unfolding over
  order_kept xs ys p q u one two before = kept xs ys p q u u refl one two before
