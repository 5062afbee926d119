-- Positions that are dominated or late stay so at later minutes and larger costs, and are so or not.
use Rattle.std.proofs.Common.{◌≡◌, ◌⊎◌, inl, inr, ⊎_elim, ℕ, ◌+◌, ◌≤◌, ◌<◌, zero, suc, Option, Some, None, List, [], ◌∷◌, length, get_or, refl, ap, arith}
use Rattle.std.proofs.lemmas.Bool.{cases_lt}
use Rattle.route_base.specs.Itinerary.{Position}
use Rattle.route_base.specs.Relaxing.{HasPair, IsDominatedOrLate}
use Rattle.route_base.specs.declared.types.Bound.{Bound}
use Rattle.route_base.specs.declared.types.Pair.{Pair}
use Rattle.route_base.proofs.Covering.{pair_later}

-- later and dearer; the node doesn't matter
pub dominated_later : (until : ℕ) (pairs : List Pair) (bound : Option Bound) (p q : Position) → p.minute ≤ q.minute → p.cost ≤ q.cost
    → IsDominatedOrLate until pairs bound p → IsDominatedOrLate until pairs bound q
dominated_later until pairs None p q later dearer h = tt
dominated_later until pairs (Some b) p q later dearer h =
    ⊎_elim
    (λ (over : until < p.minute + b.minutes). inl (omega (arith, over, later)))
    (λ (had : HasPair pairs (p.minute + b.minutes) (p.cost + b.cost)).
    inr (pair_later pairs _ _ _ _ (omega (arith, later)) (omega (arith, dearer)) had))
    h

has_more : (p : Pair) (ps : List Pair) (t x : ℕ) → HasPair ps t x → HasPair (p ∷ ps) t x
has_more p ps t x h = record {
  pair = h.pair;
  is_one = (suc h.is_one.0, omega (arith, h.is_one.1), h.is_one.2);
  arrival = h.arrival;
  cost = h.cost;
}

has_none : (p : Pair) (ps : List Pair) (t x : ℕ) → ((p.arrival ≤ t) → (p.cost ≤ x) → ⊥) → (HasPair ps t x → ⊥) → HasPair (p ∷ ps) t x → ⊥
has_none p ps t x first rest h = by_place h.is_one.0 h.is_one.1 h.is_one.2
  where
    by_place : (k : ℕ) → k < suc (length ps) → get_or (p ∷ ps) k h.pair ≡ h.pair → ⊥
    by_place zero within is = first (omega (arith, ap (λ (w : Pair). w.arrival) is, h.arrival)) (omega (arith, ap (λ (w : Pair). w.cost) is, h.cost))
    by_place (suc k) within is = rest (record { pair = h.pair; is_one = (k, omega (arith, within), is); arrival = h.arrival; cost = h.cost })

pub has_or_not : (ps : List Pair) (t x : ℕ) → HasPair ps t x ⊎ (HasPair ps t x → ⊥)
has_or_not [] t x = inr (λ h. omega (arith, h.is_one.1))
has_or_not (p ∷ ps) t x =
    ⊎_elim
    (λ (h : HasPair ps t x). inl (has_more p ps t x h))
    (λ (rest : HasPair ps t x → ⊥).
    ⊎_elim
    (λ (late : t < p.arrival). inr (has_none p ps t x (λ a c. omega (arith, late, a)) rest))
    (λ (early : p.arrival ≤ t).
    ⊎_elim
    (λ (dear : x < p.cost). inr (has_none p ps t x (λ a c. omega (arith, dear, c)) rest))
    (λ (cheap : p.cost ≤ x). inl (record { pair = p; is_one = (0, omega arith, refl); arrival = early; cost = cheap }))
    (cases_lt x p.cost))
    (cases_lt t p.arrival))
    (has_or_not ps t x)

pub dominated_or_not : (until : ℕ) (pairs : List Pair) (bound : Option Bound) (p : Position)
    → IsDominatedOrLate until pairs bound p ⊎ (IsDominatedOrLate until pairs bound p → ⊥)
dominated_or_not until pairs None p = inl tt
dominated_or_not until pairs (Some b) p =
    ⊎_elim
    (λ (over : until < p.minute + b.minutes). inl (inl over))
    (λ (in_time : p.minute + b.minutes ≤ until).
    ⊎_elim
    (λ (had : HasPair pairs (p.minute + b.minutes) (p.cost + b.cost)). inl (inr had))
    (λ (none : HasPair pairs (p.minute + b.minutes) (p.cost + b.cost) → ⊥).
    inr (λ h. ⊎_elim (λ (over : until < p.minute + b.minutes). omega (arith, over, in_time)) none h))
    (has_or_not pairs (p.minute + b.minutes) (p.cost + b.cost)))
    (cases_lt until (p.minute + b.minutes))
