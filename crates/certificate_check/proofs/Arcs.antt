-- Arcs and nodes by number, and what all entries of a list have.
use Rattle.std.proofs.Common.{◌≡◌, ⊎_elim, ℕ, ◌≤◌, ◌<◌, zero, suc, cond, Option, Some, None, List, [], ◌∷◌, length, All, refl, sym, ◌∙◌, ap, subst, arith}
use Rattle.std.specs.Prelude.{slice_get}
use Rattle.std.specs.Option.{option_flatten, option_map}
use Rattle.std.proofs.lemmas.Option.{same_Some, slice_get_within}
use Rattle.std.proofs.lemmas.List.Elements.{All-head, All-tail}
use Rattle.std.proofs.lemmas.Bool.{cases_eq, eq-eqb, ne_eqb}
use Rattle.route_base.specs.Setting.{Road}
use Rattle.route_base.specs.Net.{at_number, road_of}
use Rattle.route_base.specs.Relaxing.{IsBoundThrough}
use Rattle.route_base.specs.declared.types.Bound.{Bound}
use Rattle.route_base.specs.declared.types.NodeId.{NodeId}
use Rattle.route_base.specs.declared.types.Park.{Park}
use Rattle.route_base.specs.declared.types.TimedArc.{TimedArc}
use Rattle.cost_functions.specs.declared.TheConstants.{HIGHEST_PIECE_COST}
use Rattle.certificate.specs.ByNode.{item_at}
use Rattle.certificate.specs.declared.limits.TheConstants.{LONGEST_BOUND}
use Rattle.certificate_check.specs.Conditions.{AreBoundsInRange}
use Rattle.certificate_check.specs.Inside.Passing.{IsBoundInRange}
use Rattle.certificate_check.proofs.PieceValues.{none_some}

-- a number with a road, or with a weight, is one of the net
mapped_within : (arcs : List TimedArc) (k : ℕ) (road : Road) → (o : Option TimedArc) → slice_get arcs k ≡ o → option_map road_of o ≡ Some road
    → k < length arcs
mapped_within arcs k road None at is = absurd (none_some road None refl is)
mapped_within arcs k road (Some arc) at is = slice_get_within arcs k arc at

pub road_within : (arcs : List TimedArc) (a : ℕ) (road : Road) → option_map road_of (at_number arcs a) ≡ Some road → (1 ≤ a) × (a ≤ length arcs)
road_within arcs zero road is = absurd (none_some road None refl is)
road_within arcs (suc k) road is =
    let within = mapped_within arcs k road (slice_get arcs k) refl is in (omega arith, omega (arith, within))

joined_within : (ps : List (Option Park)) (k w : ℕ) → (o : Option (Option Park)) → slice_get ps k ≡ o
    → option_map (λ park. park.weight) (option_flatten o) ≡ Some w → k < length ps
joined_within ps k w None at is = absurd (none_some w None refl is)
joined_within ps k w (Some x) at is = slice_get_within ps k x at

pub weight_within : (ps : List (Option Park)) (v w : ℕ) → option_map (λ park. park.weight) (option_flatten (at_number ps v)) ≡ Some w
    → (1 ≤ v) × (v ≤ length ps)
weight_within ps zero w is = absurd (none_some w None refl is)
weight_within ps (suc k) w is = let within = joined_within ps k w (slice_get ps k) refl is in (omega arith, omega (arith, within))

-- a property of all entries is one of the first entry of a node
pub item_has : {A : Type 0} (P : A → Type 0) (es : List (NodeId × A)) (v : ℕ) (x : A) → All (λ e. P e.1) es → item_at es v ≡ Some x → P x
item_has P [] v x all is = absurd (none_some x None refl is)
item_has {A} P (e ∷ es) v x all is =
    ⊎_elim
    (λ (same : e.0.0 ≡ v). subst P (same_Some e.1 x (sym (ap (λ b. cond b (Some e.1) (item_at es v)) (eq-eqb e.0.0 v same)) ∙ is))
    (All-head (λ (d : NodeId × A). P d.1) e es all))
    (λ (other : e.0.0 ≡ v → ⊥). item_has P es v x (All-tail (λ (d : NodeId × A). P d.1) e es all)
    (sym (ap (λ b. cond b (Some e.1) (item_at es v)) (ne_eqb e.0.0 v other)) ∙ is))
    (cases_eq e.0.0 v)

pub item_in_range : (bounds : List (NodeId × Bound)) (v : ℕ) (o : Option Bound) → AreBoundsInRange bounds → item_at bounds v ≡ o → IsBoundInRange o
item_in_range bounds v None ranges is = tt
item_in_range bounds v (Some b) ranges is = (
  item_has (λ c. c.minutes ≤ LONGEST_BOUND) bounds v b ranges.minutes is,
  item_has (λ c. c.cost ≤ HIGHEST_PIECE_COST) bounds v b ranges.costs is,
)

-- the bounds of an arc's ends, looked up or not
module _ (o : Option TimedArc) (arc : TimedArc) (is : o ≡ Some arc) (bounds : ℕ → Option Bound) (head tail : Option Bound)
    (at_head : head ≡ bounds arc.head.0) (at_tail : tail ≡ bounds arc.tail.0) where
  abbrev IsHeadBounded : Road → Bound → Type 0
  IsHeadBounded w h = bounds w.head ≡ Some h → (b : Bound) × (bounds w.tail ≡ Some b) × IsBoundThrough w h b

  pub bounded : ((h : Bound) → head ≡ Some h → (b : Bound) × (tail ≡ Some b) × IsBoundThrough (road_of arc) h b)
      → (road : Road) (h : Bound) → option_map road_of o ≡ Some road → bounds road.head ≡ Some h
      → (b : Bound) × (bounds road.tail ≡ Some b) × IsBoundThrough road h b
  bounded all road h mapped =
      subst (λ (w : Road). IsHeadBounded w h) (same_Some (road_of arc) road (sym (ap (option_map road_of) is) ∙ mapped))
      (λ there. let e = all h (at_head ∙ there) in (e.0, sym at_tail ∙ e.1, e.2))

  pub bounding : ((road : Road) (h : Bound) → option_map road_of o ≡ Some road → IsHeadBounded road h)
      → (h : Bound) → head ≡ Some h → (b : Bound) × (tail ≡ Some b) × IsBoundThrough (road_of arc) h b
  bounding each h there = let e = each (road_of arc) h (ap (option_map road_of) is) (sym at_head ∙ there) in (e.0, at_tail ∙ e.1, e.2)
