-- How pairs go into a list of pairs that rise and fall, and what the list is better than (source: own; no law).
use Rattle.std.specs.Prelude.{◌≡◌, ◌⊎◌, ◌↔◌, ℕ, ◌≤◌, ◌<◌, ◌&&◌, Bool, nat_le, Option, Some, List, insert, length, slice_index_or, Contains}
use Rattle.route_base.specs.Front.{RiseAndFall}
use Rattle.route_base.specs.Relaxing.{HasPair}
use Rattle.route_base.specs.declared.types.Pair.{Pair}

-- the pair goes in, unless some pair is no worse; no pair is lost but to one that is no worse
pub record TakesPair (pair : Pair) (old new : List Pair) : Type 0 where
  pub trade : RiseAndFall new
  pub kept : (t x : ℕ) → HasPair old t x → HasPair new t x
  pub each : (p : Pair) → Contains new p → Contains old p ⊎ (p ≡ pair)
  pub here : HasPair new pair.arrival pair.cost

-- the same for all costs that are offered to the goal
pub record TakesPairs (offer : ℕ → Option ℕ) (old new : List Pair) : Type 0 where
  pub trade : RiseAndFall new
  pub kept : (t x : ℕ) → HasPair old t x → HasPair new t x
  pub each : (p : Pair) → Contains new p → Contains old p ⊎ (offer p.arrival ≡ Some p.cost)
  pub here : (t x : ℕ) → offer t ≡ Some x → HasPair new t x

-- the pair is put in before the first that arrives no earlier
pub record IsPutIn (pair : Pair) (old new : List Pair) : Type 0 where
  pub place : ℕ
  pub within : place ≤ length old
  pub before : (k : ℕ) (d : Pair) → k < place → (slice_index_or old k d).arrival < pair.arrival
  pub after : (k : ℕ) (d : Pair) → place ≤ k → k < length old → pair.arrival ≤ (slice_index_or old k d).arrival
  pub put : new ≡ insert old place pair

-- the pair arrives by t and costs at most x, and one of these is less
pub record IsBetter (pair : Pair) (t x : ℕ) : Type 0 where
  pub arrival : pair.arrival ≤ t
  pub cost : pair.cost ≤ x
  pub other : (pair.arrival < t) ⊎ (pair.cost < x)

-- some pair is better
pub record HasBetter (pairs : List Pair) (t x : ℕ) : Type 0 where
  pub pair : Pair
  pub is_one : Contains pairs pair
  pub better : IsBetter pair t x

-- a border is no worse where a pair is better, and nowhere else: what borders dominate is what pairs are better than
pub record AreBorders (pairs borders : List Pair) : Type 0 where
  pub trade : RiseAndFall borders
  pub each : (t x : ℕ) → HasPair borders t x ↔ HasBetter pairs t x

-- the borders of this pair go in: a border is no worse where one was, or where this pair is better
pub record TakesBorders (pair : Pair) (old new : List Pair) : Type 0 where
  pub trade : RiseAndFall new
  pub each : (t x : ℕ) → HasPair new t x ↔ (HasPair old t x ⊎ IsBetter pair t x)

-- the second is as late and as dear as the first, or worse
abbrev pub is_as_bad : Pair → Pair → Bool
is_as_bad p q = nat_le p.arrival q.arrival && nat_le p.cost q.cost
