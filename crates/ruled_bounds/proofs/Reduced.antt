-- Sums that hold along the arcs into each near node hold along each arc.
use Rattle.std.proofs.Common.{◌≡◌, ◌⊎◌, ⊎_elim, ℕ, ◌+◌, ◌*◌, ◌≤◌, Option, Some, None, refl, sym, ap, subst, arith}
use Rattle.std.specs.Option.{option_map}
use Rattle.std.specs.Prelude.{All}
use Rattle.route_base.specs.Net.{Net, IsGoodArc, IsGoodNet, at_number, road_of, setting_of}
use Rattle.route_base.specs.declared.types.ArcId.{ArcId}
use Rattle.route_base.specs.declared.types.TimedArc.{TimedArc}
use Rattle.route_base.proofs.Numbered.{at_number-all}
use Rattle.node_arcs.specs.Stars.{AreIncoming, Star, arcs_of, node_at}
use Rattle.node_arcs.specs.declared.links.End.TheVariants.{Head}
use Rattle.ruled_bounds.specs.Inside.Reducing.{HoldsInto, IsDearBy, IsReducedBy}

module _ (net : Net) (star : Star) (price : ℕ) (sum : ℕ → ℕ → ℕ) (i : ℕ) (good : IsGoodNet net) (incoming : AreIncoming net star)
    (dear : (a : ℕ) → IsDearBy price ((setting_of net).road a))
    (into : (v : ℕ) → 1 ≤ v → v ≤ net.nodes → HoldsInto (setting_of net) star price sum i v) where
  along : (a : ℕ) (arc : TimedArc) → at_number net.arcs a ≡ Some arc → IsReducedBy price sum i ((setting_of net).road a)
  along a arc is =
      let here = at_number-all (IsGoodArc net) net.arcs a arc good.each_arc is in
      let head = into arc.head.0 here.head.0 here.head.1 in
      let tail = into arc.tail.0 here.tail.0 here.tail.1 in
      let road : (setting_of net).road a ≡ Some (road_of arc) = ap (λ o. option_map road_of o) is in
      let enough : price * arc.minutes ≤ arc.cost = subst (λ o. IsDearBy price o) road (dear a) in
      ⊎_elim
      (λ (far : sum arc.head.0 i ≡ sum 0 i). subst (λ o. IsReducedBy price sum i o) (sym road) (omega (arith, far, tail.0, enough)))
      (λ (all : All (λ b. IsReducedBy price sum i ((setting_of net).road b.0)) (arcs_of star arc.head.0)).
      let one = (incoming arc.head.0).all a (ap (λ o. option_map (node_at Head) o) is) in
      subst (λ (b : ArcId). IsReducedBy price sum i ((setting_of net).road b.0)) one.2 (all one.0 (record { 0 = a }) one.1))
      head.1

  pub arcs_reduced : (a : ℕ) → IsReducedBy price sum i ((setting_of net).road a)
  arcs_reduced a = by (at_number net.arcs a) refl
    where
      by : (o : Option TimedArc) → at_number net.arcs a ≡ o → IsReducedBy price sum i ((setting_of net).road a)
      by None is = subst (λ o. IsReducedBy price sum i (option_map road_of o)) (sym is) tt
      by (Some arc) is = along a arc is
