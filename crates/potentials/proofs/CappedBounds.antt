-- Capped sums as bounds.
use Rattle.std.proofs.Common.{◌≡◌, inl, inr, ⊎_elim, ℕ, ◌+◌, ◌-◌, ◌≤◌, ◌<◌, min, Option, Some, None, List, [], ◌∷◌, refl, ◌∙◌, subst, arith}
use Rattle.std.proofs.lemmas.Bool.{cases_lt}
use Rattle.route_base.specs.Setting.{Road}
use Rattle.route_base.specs.Net.{Net, IsGoodNet, road_of, setting_of, at_number}
use Rattle.route_base.specs.Relaxing.{AreBounds}
use Rattle.route_base.specs.declared.types.Bound.{Bound}
use Rattle.route_base.proofs.Logic.{map_some}
use Rattle.route_base.proofs.Arcs.{good_arc}
use Rattle.label_queue.specs.Keys.{key_at}
use Rattle.potentials.specs.Sums.{Leads, IsCappedSum, HasCappedBound, AreCappedBoundsTo, bound_at}
use Rattle.potentials.specs.Inside.Caps.{AreBoundsIn, AreSumsTo, IsPastCap, bound_in, capped_at, costs_of}
use Rattle.potentials.specs.Inside.Summing.{IsSumBelow}
use Rattle.potentials.specs.declared.bounds.Sums.{Sums}
use Rattle.potentials.proofs.LeastBounds.{no_bound}

module _ (roads : ℕ → Option Road) (count : Road → ℕ) (goal cap : ℕ) where
  -- a sum that a search finds, capped where it ends
  pub capped_sum : (v : ℕ) (o : Option ℕ) → IsSumBelow roads count goal (IsPastCap (Some cap)) v o → IsCappedSum roads count goal v cap (capped_at cap o)
  capped_sum v None below = record { within = omega arith; least = λ arcs sum leads. below arcs sum leads; is = inl refl }
  capped_sum v (Some x) below = record {
    within = omega arith;
    least = λ arcs sum leads. ⊎_elim
        (λ (le : x ≤ sum). omega (arith, le))
        (λ (end : cap ≤ sum). omega (arith, end))
        (below.1 arcs sum leads);
    is = ⊎_elim
        (λ (more : cap < x). inl (omega (arith, more)))
        (λ (le : x ≤ cap). let e : x ≡ min x cap = omega (arith, le) in inr (below.0.0, subst (λ n. Leads roads count goal below.0.0 v n) e below.0.1))
        (cases_lt cap x);
  }

  -- no capped sum is larger than the way over an arc
  through : (a : ℕ) (road : Road) (x y : ℕ) → roads a ≡ Some road → IsCappedSum roads count goal road.head cap x → IsCappedSum roads count goal road.tail cap y
      → y ≤ count road + x
  through a road x y is far near = ⊎_elim
      (λ (at : x ≡ cap). omega (arith, at, near.within))
      (λ (walk : (arcs : List ℕ) × Leads roads count goal arcs road.head x). near.least (a ∷ walk.0) (count road + x) (road, x, is, refl, walk.1, refl))
      far.is

module _ (net : Net) (good : IsGoodNet net) (goal : ℕ) (low : 1 ≤ goal) (high : goal ≤ net.nodes) (most : Bound) where
  ends : (a : ℕ) (road : Road) → (setting_of net).road a ≡ Some road → (1 ≤ road.tail) × (road.tail ≤ net.nodes) × (1 ≤ road.head) × (road.head ≤ net.nodes)
  ends a road is =
      let arc = map_some (at_number net.arcs a) road_of road is in
      let g = good_arc net good a arc.0 arc.1 in
      subst (λ (w : Road). (1 ≤ w.tail) × (w.tail ≤ net.nodes) × (1 ≤ w.head) × (w.head ≤ net.nodes)) arc.2 (g.tail.0, g.tail.1, g.head.0, g.head.1)

  hold : (bounds : ℕ → Option Bound) → ((v : ℕ) → 1 ≤ v → v ≤ net.nodes → HasCappedBound (setting_of net) goal most bounds v)
      → AreBounds (setting_of net) goal bounds
  hold bounds each =
      let roads = (setting_of net).road in
      record {
        goal =
            let h = each goal low high in
            h.is ∙ no_bound h.bound (omega (arith, h.minutes.least [] 0 (refl, refl))) (omega (arith, h.cost.least [] 0 (refl, refl)));
        each = λ a road h is there.
            let at = ends a road is in
            let far = each road.head at.2 at.3 in
            let near = each road.tail at.0 at.1 in
            let e : far.bound ≡ h = cc in (
              near.bound,
              near.is,
              record {
                minutes = through roads (λ r. r.minutes) goal most.minutes a road h.minutes near.bound.minutes is
                    (subst (λ (b : Bound). IsCappedSum roads (λ r. r.minutes) goal road.head most.minutes b.minutes) e far.minutes) near.minutes;
                cost = through roads (λ r. r.cost) goal most.cost a road h.cost near.bound.cost is
                    (subst (λ (b : Bound). IsCappedSum roads (λ r. r.cost) goal road.head most.cost b.cost) e far.cost) near.cost;
              },
            );
      }

  -- sums up to the caps, with the caps where there are none, are capped bounds
  pub capped_bounds : (sums : Sums) → AreSumsTo net goal (Some most) sums → (list : List (Option Bound))
      → AreBoundsIn (Some most) sums.minutes.items (costs_of sums) list → AreCappedBoundsTo net goal most list
  capped_bounds sums found list made = record { each = each; bounds = hold (bound_at list) each; nodes = made.nodes ∙ found.costs_nodes }
    where
      each : (v : ℕ) → 1 ≤ v → v ≤ net.nodes → HasCappedBound (setting_of net) goal most (bound_at list) v
      each v some within =
          let e : v - 1 + 1 ≡ v = omega (arith, some) in
          let roads = (setting_of net).road in
          let minutes = sums.minutes.items in
          let costs = costs_of sums in
          record {
            bound = record { minutes = capped_at most.minutes (key_at minutes v); cost = capped_at most.cost (key_at costs v) };
            is = subst (λ u. bound_at list u ≡ bound_in (Some most) (key_at minutes u) (key_at costs u)) e
                (made.each (v - 1) (omega (arith, some, within, found.costs_nodes)));
            minutes = capped_sum roads (λ r. r.minutes) goal most.minutes v (key_at minutes v) (found.minutes v);
            cost = capped_sum roads (λ r. r.cost) goal most.cost v (key_at costs v) (found.costs v);
          }
