-- Offers of sums, read one after another.
use Rattle.std.proofs.Common.{◌≡◌, inl, inr, ⊎_elim, ℕ, zero, suc, ◌+◌, ◌-◌, ◌≤◌, Some, List, [], ◌∷◌, ◌++◌, length, get_or, refl, ◌∙◌, arith}
use Rattle.std.proofs.lemmas.Option.{slice_get_within, slice_get-get_or}
use Rattle.route_base.specs.Net.{Net, at_number}
use Rattle.route_base.specs.declared.types.TimedArc.{TimedArc}
use Rattle.route_base.proofs.Items.{slice_get-append_left, slice_get-push_end}
use Rattle.potentials.specs.Inside.Summing.{HasOffer, IsArcRead, IsPastAt, counted_on}
use Rattle.potentials.specs.declared.sums.Counted.{Counted}
use Rattle.potentials.specs.declared.sums.Offer.{Offer}

-- an offer of the list is one of the longer list
pub kept_offer : (offers : List Offer) (offer : Offer) (u sum : ℕ) → HasOffer offers u sum → HasOffer (offers ++ offer ∷ []) u sum
kept_offer offers offer u sum has = (
  has.0,
  has.1,
  slice_get-append_left offers (offer ∷ []) has.0 (slice_get_within offers has.0 has.1 has.2) ∙ has.2,
  has.3,
  has.4,
)

-- the offer that is added is one of the list
pub added_offer : (offers : List Offer) (offer : Offer) → HasOffer (offers ++ offer ∷ []) offer.tail.0 offer.sum
added_offer offers offer = (length offers, offer, slice_get-push_end offers offer, refl, refl)

-- what was read stays read
pub still_read : (net : Net) (counted : Counted) (cap x a : ℕ) (old new : List Offer) → ((u sum : ℕ) → HasOffer old u sum → HasOffer new u sum)
    → IsArcRead net counted cap x old a → IsArcRead net counted cap x new a
still_read net counted cap x a old new kept read road is = ⊎_elim
    (λ (has : HasOffer old road.tail (counted_on counted road + x)). inl (kept road.tail (counted_on counted road + x) has))
    (λ (past : IsPastAt net counted cap (counted_on counted road + x)). inr past)
    (read road is)

-- the arc of a number, from 1 on, is that at its place
pub arc_read : (arcs all : List TimedArc) → arcs ≡ all → (a : ℕ) (d : TimedArc) → 1 ≤ a → a ≤ length all → at_number all a ≡ Some (get_or arcs (a - 1) d)
arc_read arcs all same zero d low high = absurd (omega (arith, low))
arc_read arcs all same (suc k) d low high =
    let e : suc k - 1 ≡ k = omega arith in
    rw (e, same) (slice_get-get_or all k d (omega (arith, high)))
