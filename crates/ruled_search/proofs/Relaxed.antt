-- What is known and relaxed stays so while what is found improves.
use Rattle.std.proofs.Common.{◌≡◌, inl, inr, ⊎_elim, ℕ, ◌≤◌, true, Option, Some, None, refl, sym, ◌∙◌, ap, subst, arith}
use Rattle.std.specs.Prelude.{IfSome, IsNone}
use Rattle.route_base.specs.Itinerary.{Position}
use Rattle.route_base.specs.Relaxing.{HasWithin}
use Rattle.route_base.specs.declared.types.NodeId.{NodeId}
use Rattle.propagation.specs.Inside.Invariants.{Progress, point, IsLower}
use Rattle.state_dominance.specs.Inside.Dominance.{Task}
use Rattle.state_dominance.specs.Inside.Widening.{IsKnownPart}
use Rattle.state_dominance.proofs.Keeping.{relaxed_kept}
use Rattle.state_dominance.specs.Inside.Product.{code}
use Rattle.ruled_states.specs.Inside.Codes.{base}
use Rattle.ruled_states.specs.declared.table.Info.{Info}
use Rattle.ruled_search.specs.Inside.Tasks.{Improves, IsBarred, IsRoadRelaxed}
use Rattle.ruled_search.specs.Inside.Ways.{road_in, tail_of}
use Rattle.ruled_search.specs.declared.ways.Way.{Way}

-- what is lower than something that is no larger is lower
lower_on : (a b c : Option ℕ) → IsLower a b → ((x : ℕ) → c ≡ Some x → (y : ℕ) × (b ≡ Some y) × (y ≤ x)) → IsLower a c
lower_on None b c low le = low
lower_on (Some x) b None low le = tt
lower_on (Some x) None (Some z) low le = let h = le z refl in cc
lower_on (Some x) (Some y) (Some z) low le = let h = le z refl in let e : y ≡ h.0 = cc in omega (arith, e, low, h.2)

-- what is no larger than something that is lower is lower
lower_under : (a b c : Option ℕ) → IsLower b c → ((x : ℕ) → b ≡ Some x → (y : ℕ) × (a ≡ Some y) × (y ≤ x)) → IsLower a c
lower_under a None c low le = absurd low
lower_under None (Some y) c low le = let h = le y refl in cc
lower_under (Some x) (Some y) None low le = tt
lower_under (Some x) (Some y) (Some z) low le = let h = le y refl in let e : x ≡ h.0 = cc in omega (arith, e, low, h.2)

pub within_kept : (old new : Progress) → Improves old new → (p : Position) → HasWithin old.cost p → HasWithin new.cost p
within_kept old new better p h =
    let n = better.less (point p.node p.minute h.least) h.is in
    record { least = n.least; is = n.is; within = omega (arith, n.within, h.within) }

pub improves_append : (a b c : Progress) → Improves a b → Improves b c → Improves a c
improves_append a b c one two = record {
  less = λ p is. within_kept b c two p (one.less p is);
  cause = λ v t is. ⊎_elim
      (λ (was : b.pending v t ≡ true). ⊎_elim
      (λ (first : a.pending v t ≡ true). inl first)
      (λ (low : IsLower (b.cost v t) (a.cost v t)). inr (lower_under (c.cost v t) (b.cost v t) (a.cost v t) low
      (λ x there. let h = two.less (point v t x) there in (h.least, h.is, h.within))))
      (one.cause v t was))
      (λ (low : IsLower (c.cost v t) (b.cost v t)). inr (lower_on (c.cost v t) (b.cost v t) (a.cost v t) low
      (λ x there. let h = one.less (point v t x) there in (h.least, h.is, h.within))))
      (two.cause v t is);
  pairs = λ t x h. two.pairs t x (one.pairs t x h);
}

module _ (k : Task) (c : ℕ) (part : ℕ → Option ℕ) where
  pub part_kept : (old new : Progress) → Improves old new → IsKnownPart k old c part → IsKnownPart k new c part
  part_kept old new better holds = record {
    reached = holds.reached;
    known = λ t x is. within_kept old new better (point c t x) (holds.known t x is);
  }

  pub road_kept : (old new : Progress) (x : ℕ) → Improves old new → IsRoadRelaxed k old c part x → IsRoadRelaxed k new c part x
  road_kept old new x better all t y q is move =
      relaxed_kept k old new (λ p h. within_kept old new better p h) better.pairs q (all t y q is move)

  -- over what is barred nothing but what is prunable is reached
  pub barred_relaxed : (now : Progress) (x : ℕ) → IsKnownPart k now c part → IsBarred k c x → IsRoadRelaxed k now c part x
  barred_relaxed now x holds barred t y q is move = inr (barred now.pairs (point c t y) q refl (holds.reached t y is) move)

  -- over what is no road nothing is reached
  pub no_road : (now : Progress) (x : ℕ) → k.setting.road x ≡ None → IsRoadRelaxed k now c part x
  no_road now x none t y q is move = let bad : None ≡ Some move.road = sym none ∙ move.is in cc

  -- less of a part is known and relaxed
  pub part_less : (now : Progress) (less : ℕ → Option ℕ) → ((t x : ℕ) → less t ≡ Some x → part t ≡ Some x) → IsKnownPart k now c part → IsKnownPart k now c less
  part_less now less kept holds = record {
    reached = λ t x is. holds.reached t x (kept t x is);
    known = λ t x is. holds.known t x (kept t x is);
  }

  pub road_less : (now : Progress) (less : ℕ → Option ℕ) (x : ℕ) → ((t x : ℕ) → less t ≡ Some x → part t ≡ Some x) → IsRoadRelaxed k now c part x
      → IsRoadRelaxed k now c less x
  road_less now less x kept all t y q is move = all t y q (kept t y is) move

  -- the road of a way that is relaxed where it is there, and barred where it isn't, is relaxed
  pub way_relaxed : (now : Progress) (x : ℕ) (way : Option Way) → IsKnownPart k now c part → IfSome way (λ w. road_in w ≡ x)
      → (IsNone way → IsBarred k c x) → IfSome way (λ w. IsRoadRelaxed k now c part (road_in w)) → IsRoadRelaxed k now c part x
  way_relaxed now x None holds road barred all = barred_relaxed now x holds (barred refl)
  way_relaxed now x (Some w) holds road barred all = subst (λ n. IsRoadRelaxed k now c part n) road all

-- a way from a state begins at the state's code
pub tail_is : (w : Way) (i : Info) → (w.tail ≡ i.node) × (w.before ≡ i.state) → tail_of w ≡ code base i.node.0 i.state
tail_is w i same = ap (λ (n : NodeId). code base n.0 w.before) same.0 ∙ ap (λ n. code base i.node.0 n) same.1
