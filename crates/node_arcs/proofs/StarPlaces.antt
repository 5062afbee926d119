-- The arcs of a node by their places in its list.
use Rattle.std.proofs.Common.{◌≡◌, ◌⊎◌, inl, inr, ⊎_elim, ℕ, ◌+◌, ◌≤◌, ◌<◌, Some, List, length, get_or, sym, ◌∙◌, ap, subst, arith}
use Rattle.std.specs.Prelude.{Contains, slice_get}
use Rattle.std.proofs.lemmas.Bool.{cases_lt}
use Rattle.std.proofs.lemmas.Option.{slice_get-get_or, get_or_from_slice_get}
use Rattle.route_base.specs.Net.{Net}
use Rattle.route_base.specs.declared.types.ArcId.{ArcId}
use Rattle.node_arcs.specs.Stars.{Star, arcs_of, AreArcsAt, EndsAt}
use Rattle.node_arcs.specs.declared.links.End.{End}

module _ (net : Net) (end : End) (star : Star) (all : AreArcsAt net end star) (v : ℕ) (arcs : List ArcId) (own : arcs ≡ arcs_of star v) where
  -- the arc at each place of the list has its end at the node
  pub place_ends : (i : ℕ) (d : ArcId) → i < length arcs → EndsAt net end v (get_or arcs i d).0
  place_ends i d within =
      let there = slice_get-get_or arcs i d within in
      (all v).each (get_or arcs i d) (subst (λ o. Contains o (get_or arcs i d)) own
      (i, within, get_or_from_slice_get arcs i (get_or arcs i d) (get_or arcs i d) there))

  -- each arc that has its end at the node has a place in the list
  pub ends_place : (a : ℕ) → EndsAt net end v a → (i : ℕ) × (i < length arcs) × (slice_get arcs i ≡ Some (record { 0 = a }))
  ends_place a ends =
      let x : ArcId = record { 0 = a } in
      let one : Contains arcs x = subst (λ o. Contains o x) (sym own) ((all v).all a ends) in
      (one.0, one.1, slice_get-get_or arcs one.0 x one.1 ∙ ap (λ y. Some y) one.2)

-- an item at one of the first k + 1 places is at one of the first k, or at the next
pub earlier_or_next : {A : Type 0} (arcs : List A) (k i : ℕ) (a d : A) → i < k + 1 → slice_get arcs i ≡ Some a → (i < k) ⊎ (get_or arcs k d ≡ a)
earlier_or_next arcs k i a d below is = ⊎_elim
    (λ (before : i < k). inl before)
    (λ (here : k ≤ i). let same : k ≡ i = omega (arith, here, below) in inr (ap (λ n. get_or arcs n d) same ∙ get_or_from_slice_get arcs i a d is))
    (cases_lt i k)
