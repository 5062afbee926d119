-- On a piece the charged cost rises or falls.
use Rattle.std.proofs.Common.{◌≡◌, ◌⊎◌, inl, inr, ⊎_elim, ℕ, suc, ◌+◌, ◌*◌, ◌-◌, ◌≤◌, ◌<◌, Option, Some, None, List, ◌∷◌, sym, ◌∙◌, ap, subst, arith}
use Rattle.std.specs.Prelude.{IfSome}
use Rattle.std.proofs.lemmas.Bool.{cases_lt}
use Rattle.std.proofs.Math.Nat.{mul-add, mul-le-mul_right}
use Rattle.cost_functions.specs.Lines.{line_at, IsPiece}
use Rattle.cost_functions.specs.Pieces.{value_at, ArePieces}
use Rattle.cost_functions.specs.declared.pieces.Piece.{Piece}
use Rattle.cost_functions.proofs.Values.{pieces_tail, value_after, value_here}
use Rattle.std.proofs.lemmas.List.Elements.{All-head}
use Rattle.ruled_search.specs.Inside.Charges.{charged, IsChargedWithin}

-- what is charged for two times, one after the other
two_times : (n a b c : ℕ) → a ≤ b → b ≤ c → n * (c - a) ≡ n * (c - b) + n * (b - a)
two_times n a b c first second = ap (λ m. n * m) (omega (arith, first, second)) ∙ mul-add n (c - b) (b - a)

module _ (price until : ℕ) (p : Piece) where
  falls : p.slope ≤ price → (s t : ℕ) → p.lo ≤ s → s ≤ t → t ≤ until → charged price until t (line_at p t) ≤ charged price until s (line_at p s)
  falls flat s t low later within = omega (
    arith,
    two_times p.slope p.lo s t low later,
    two_times price s t until later within,
    mul-le-mul_right (t - s) flat,
  )

  rises : price ≤ p.slope → (s t : ℕ) → p.lo ≤ s → s ≤ t → t ≤ until → charged price until s (line_at p s) ≤ charged price until t (line_at p t)
  rises steep s t low later within = omega (
    arith,
    two_times p.slope p.lo s t low later,
    two_times price s t until later within,
    mul-le-mul_right (t - s) steep,
  )

  kinds : (p.slope ≤ price) ⊎ (price ≤ p.slope)
  kinds = ⊎_elim (λ (less : p.slope < price). inl (omega (arith, less))) (λ (more : price ≤ p.slope). inr more) (cases_lt p.slope price)

  -- one of the ends is no less, and one no more
  pub an_end_is_most : (lo hi u : ℕ) → p.lo ≤ lo → lo ≤ u → u ≤ hi → hi ≤ until
      → (charged price until u (line_at p u) ≤ charged price until lo (line_at p lo)) ⊎ (charged price until u (line_at p u) ≤ charged price until hi (line_at p hi))
  an_end_is_most lo hi u low first last within = ⊎_elim
      (λ (flat : p.slope ≤ price). inl (falls flat lo u low first (omega (arith, last, within))))
      (λ (steep : price ≤ p.slope). inr (rises steep u hi (omega (arith, low, first)) last within))
      kinds

  pub an_end_is_least : (hi u : ℕ) → p.lo ≤ u → u ≤ hi → hi ≤ until
      → (charged price until p.lo (line_at p p.lo) ≤ charged price until u (line_at p u)) ⊎ (charged price until hi (line_at p hi) ≤ charged price until u (line_at p u))
  an_end_is_least hi u first last within = ⊎_elim
      (λ (flat : p.slope ≤ price). inr (falls flat u hi first last within))
      (λ (steep : price ≤ p.slope). inl (rises steep p.lo u (omega arith) first (omega (arith, last, within))))
      kinds

-- what is left of pieces, from minute `next` on
pub record AreLeft (pieces left : List Piece) (next : ℕ) : Type 0 where
  pub are : ArePieces left
  pub values : (u : ℕ) → next ≤ u → value_at left u ≡ value_at pieces u

-- before minute `next` no charged cost is more, if the most isn't the greatest number
abbrev pub IsMost : ℕ → ℕ → List Piece → ℕ → ℕ → ℕ → ℕ → Type 0
IsMost price until pieces lo hi next most =
    most < 18446744073709551615 → (u : ℕ) → lo ≤ u → u < next → u ≤ hi → IsChargedWithin price until (value_at pieces) most u

module _ (pieces left : List Piece) (p : Piece) (rest : List Piece) (next : ℕ) (split : left ≡ p ∷ rest) (held : AreLeft pieces left next) where
  whole : ArePieces (p ∷ rest)
  whole = subst ArePieces split held.are

  pub is_piece : IsPiece p
  is_piece = All-head IsPiece p rest whole.each

  pub left_behind : (n : ℕ) → next ≤ n → p.hi < n → AreLeft pieces rest n
  left_behind n later behind = record {
    are = pieces_tail p rest whole;
    values = λ u from. sym (value_after p rest u (omega (arith, behind, from))) ∙ ap (λ ps. value_at ps u) (sym split)
        ∙ held.values u (omega (arith, later, from));
  }

  value_on : (u : ℕ) → next ≤ u → p.lo ≤ u → u ≤ p.hi → value_at pieces u ≡ Some (line_at p u)
  value_on u later from upto = sym (held.values u later) ∙ ap (λ ps. value_at ps u) split ∙ value_here p rest u from upto

  pub most_behind : (price until lo hi most more : ℕ) → p.lo ≤ next → IsMost price until pieces lo hi next most → most ≤ more
      → (more < 18446744073709551615 → (u : ℕ) → next ≤ u → u ≤ hi → u ≤ p.hi → charged price until u (line_at p u) ≤ more)
      → IsMost price until pieces lo hi (p.hi + 1) more
  most_behind price until lo hi most more begun before le here small u from upto within = ⊎_elim
      (λ (early : u < next). let b = before (omega (arith, le, small)) u from early within in
      record { value = b.value; is = b.is; within = omega (arith, b.within, le) })
      (λ (late : next ≤ u). record {
        value = line_at p u;
        is = value_on u late (omega (arith, begun, late)) (omega (arith, upto));
        within = here small u late within (omega (arith, upto));
      })
      (cases_lt u next)

-- what is found holds for all minutes, if the next is behind them
pub found_most : (price until : ℕ) (pieces : List Piece) (lo hi next most : ℕ) (o : Option ℕ) → hi < next → IsMost price until pieces lo hi next most
    → IfSome o (λ m. (m ≡ most) × (most < 18446744073709551615))
    → IfSome o (λ m. (u : ℕ) → lo ≤ u → u ≤ hi → IsChargedWithin price until (value_at pieces) m u)
found_most price until pieces lo hi next most None done before is = tt
found_most price until pieces lo hi next most (Some m) done before is = λ u from upto.
    let b = before is.1 u from (omega (arith, upto, done)) upto in
    record { value = b.value; is = b.is; within = omega (arith, b.within, is.0) }
