-- The minutes of a piece before it is dominated or late (source: own; no law).
use Rattle.std.specs.Prelude.{◌≡◌, ◌⊎◌, ℕ, Option, ◌+◌, ◌-◌, ◌<◌, ◌≤◌, min, Bool, nat_lt, Some, None, List, All}
use Rattle.std.specs.List.{AllWithin}
use Rattle.route_base.specs.Itinerary.{Position}
use Rattle.route_base.specs.Relaxing.{HasPair, IsDominatedOrLate}
use Rattle.route_base.specs.declared.types.Pair.{Pair}
use Rattle.route_base.specs.declared.types.Bound.{Bound}
use Rattle.cost_functions.specs.Lines.{line_at}
use Rattle.cost_functions.specs.Pieces.{value_at}
use Rattle.cost_functions.specs.declared.pieces.Piece.{Piece}

-- when the pair arrives, or at the piece's end, the piece with the bound to the goal is still cheaper than the pair
abbrev pub stays_cheaper : Piece → Bound → Pair → Bool
stays_cheaper piece bound pair = nat_lt (line_at piece (min (pair.arrival - bound.minutes) piece.hi)) (pair.cost - bound.cost)

-- so many pairs have arrived by the minute with the bound to the goal
abbrev pub HaveArrived : Bound → ℕ → List Pair → ℕ → Type 0
HaveArrived bound minute pairs count = AllWithin (λ p. p.arrival - bound.minutes ≤ minute) pairs 0 count

-- from the minute on a pair dominates the piece, and before it none does
pub record IsUndominatedUntil (pairs : List Pair) (bound : Bound) (piece : Piece) (end : ℕ) : Type 0 where
  pub before : (t : ℕ) → piece.lo ≤ t → t < end → t ≤ piece.hi → HasPair pairs (t + bound.minutes) (line_at piece t + bound.cost) → ⊥
  pub after : (t : ℕ) → piece.lo ≤ t → end ≤ t → t ≤ piece.hi → HasPair pairs (t + bound.minutes) (line_at piece t + bound.cost)

-- from the minute on the piece is dominated or late, and before it neither
pub record IsClearUntil (until : ℕ) (pairs : List Pair) (bound : Bound) (piece : Piece) (end : ℕ) : Type 0 where
  pub upto : end ≤ piece.hi + 1
  pub before : (p : Position) → piece.lo ≤ p.minute → p.minute < end → p.cost ≡ line_at piece p.minute → IsDominatedOrLate until pairs (Some bound) p → ⊥
  pub after : (p : Position) → piece.lo ≤ p.minute → end ≤ p.minute → p.minute ≤ piece.hi → p.cost ≡ line_at piece p.minute
      → IsDominatedOrLate until pairs (Some bound) p

-- before a minute g has the wanted values without those that are dominated or late, and from it on none yet
pub record IsPrunedUpTo (until : ℕ) (pairs : List Pair) (bound : Bound) (wanted : ℕ → Option ℕ) (g : List Piece) (from : ℕ) : Type 0 where
  pub kept : (t x : ℕ) → t < from → value_at g t ≡ Some x → wanted t ≡ Some x
  pub clear : (p : Position) → p.minute < from → value_at g p.minute ≡ Some p.cost → IsDominatedOrLate until pairs (Some bound) p → ⊥
  pub left : (p : Position) → p.minute < from → wanted p.minute ≡ Some p.cost
      → (value_at g p.minute ≡ Some p.cost) ⊎ IsDominatedOrLate until pairs (Some bound) p
  pub ended : All (λ q. q.hi < from) g

-- the new pieces have the values of the old ones, and behind them those of the piece before the minute
pub record HasPrefix (piece : Piece) (end : ℕ) (old new : List Piece) : Type 0 where
  pub front : (t : ℕ) → t < piece.lo → value_at new t ≡ value_at old t
  pub part : (t : ℕ) → piece.lo ≤ t → t < end → value_at new t ≡ Some (line_at piece t)
  pub rest : (t : ℕ) → piece.lo ≤ t → end ≤ t → value_at new t ≡ None
  pub ended : All (λ q. q.hi ≤ piece.hi) new
