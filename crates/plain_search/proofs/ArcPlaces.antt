-- The arcs of a node by their places in its list.
use Rattle.std.proofs.Common.{◌≡◌, ⊎_elim, ℕ, ◌≤◌, ◌<◌, List, length, get_or, sym, ◌∙◌, ap, subst, arith}
use Rattle.std.specs.Prelude.{AllPairs, Contains}
use Rattle.std.proofs.lemmas.Bool.{cases_lt, cases_eq}
use Rattle.std.proofs.Math.Logic.{∥∥₁_elim}
use Rattle.std.proofs.Props.{props}
use Rattle.std.proofs.lemmas.List.{get_or_default}
use Rattle.std.proofs.lemmas.List.Elements.{Contains-get_or}
use Rattle.route_base.specs.Net.{Net}
use Rattle.route_base.specs.declared.types.ArcId.{ArcId}
use Rattle.node_arcs.specs.Stars.{Star, arcs_of, AreArcsAt, EndsAt}
use Rattle.node_arcs.specs.declared.links.End.{End}

-- the number of the arc at a place
abbrev pub arc_at : List ArcId → ℕ → ℕ
arc_at arcs i = (get_or arcs i (record { 0 = 0 })).0

module _ (net : Net) (end : End) (star : Star) (all : ∥ AreArcsAt net end star ∥₁) (v : ℕ) (arcs : List ArcId) (own : arcs ≡ arcs_of star v) where
  -- each arc of the list ends at the node
  pub place_ends : (i : ℕ) → i < length arcs → EndsAt net end v (arc_at arcs i)
  place_ends i within =
      let one : Contains (arcs_of star v) (get_or arcs i (record { 0 = 0 })) =
      subst (λ (w : List ArcId). Contains w (get_or arcs i (record { 0 = 0 }))) own (Contains-get_or arcs i (record { 0 = 0 }) within) in
      ∥∥₁_elim all (Prim.hlevel props) (λ (whole : AreArcsAt net end star). (whole v).each (get_or arcs i (record { 0 = 0 })) one)

  -- what holds at each place before one holds of each arc of a smaller number that ends at the node
  pub at_smaller_arc : (P : ℕ → Type 0) → ((a : ℕ) → IsProp (P a)) → (k : ℕ) → k < length arcs → ((i : ℕ) → i < k → P (arc_at arcs i))
      → (a : ℕ) → a < arc_at arcs k → EndsAt net end v a → P a
  at_smaller_arc P prop k within at_place a less ends = ∥∥₁_elim all (prop a) (λ (whole : AreArcsAt net end star).
      let none : ArcId = record { 0 = 0 } in
      let arc : ArcId = record { 0 = a } in
      let one : Contains arcs arc = subst (λ (w : List ArcId). Contains w arc) (sym own) ((whole v).all a ends) in
      let rising : AllPairs (λ x y. x.0 < y.0) arcs = subst (λ (w : List ArcId). AllPairs (λ x y. x.0 < y.0) w) (sym own) (whole v).rising in
      let is : arc_at arcs one.0 ≡ a = ap (λ (w : ArcId). w.0) (get_or_default arcs one.0 none arc one.1 ∙ one.2) in
      ⊎_elim
      (λ (before : one.0 < k). subst P is (at_place one.0 before))
      (λ (after : k ≤ one.0). ⊎_elim
      (λ (same : k ≡ one.0). absurd (omega (arith, less, is, ap (λ n. arc_at arcs n) same)))
      (λ (other : k ≡ one.0 → ⊥). absurd (omega (arith, less, is, rising k one.0 none (omega (arith, after, other)) one.1)))
      (cases_eq k one.0))
      (cases_lt one.0 k))

  -- what holds at each place holds of each arc that ends at the node
  pub at_each_arc : (P : ℕ → Type 0) → ((a : ℕ) → IsProp (P a)) → ((i : ℕ) → i < length arcs → P (arc_at arcs i)) → (a : ℕ) → EndsAt net end v a → P a
  at_each_arc P prop at_place a ends = ∥∥₁_elim all (prop a) (λ (whole : AreArcsAt net end star).
      let arc : ArcId = record { 0 = a } in
      let one : Contains arcs arc = subst (λ (w : List ArcId). Contains w arc) (sym own) ((whole v).all a ends) in
      subst P (ap (λ (w : ArcId). w.0) (get_or_default arcs one.0 (record { 0 = 0 }) arc one.1 ∙ one.2)) (at_place one.0 one.1))
