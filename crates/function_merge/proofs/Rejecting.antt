-- A piece that shows a function to be no larger than a shifted piece.
use Rattle.std.proofs.Common.{◌≡◌, ⊎_elim, ℕ, ◌+◌, ◌-◌, ◌*◌, ◌≤◌, ◌<◌, List, length, get_or, take, drop, All, ◌∙◌, ap, sym, subst, arith}
use Rattle.std.proofs.Math.Nat.{mul-le-mul_right}
use Rattle.std.proofs.lemmas.Bool.{cases_lt}
use Rattle.std.proofs.lemmas.List.{get_or_default}
use Rattle.std.proofs.lemmas.List.Elements.{All-tail}
use Rattle.route_base.proofs.Lists.{first_and_rest}
use Rattle.cost_functions.proofs.Slopes.{further}
use Rattle.cost_functions.proofs.Values.{rising_head}
use Rattle.cost_functions.specs.Lines.{line_at, IsPiece}
use Rattle.cost_functions.specs.Pieces.{value_at, ArePieces}
use Rattle.cost_functions.specs.declared.pieces.Piece.{Piece}
use Rattle.function_merge.specs.Rejection.{IsNoBetter}
use Rattle.function_merge.proofs.FirstPieces.{first_of, first_value, rest_every}

-- a piece that is no larger at one minute and rises no more steeply stays no larger
module _ (own piece : Piece) (from minutes cost t : ℕ) (begins : own.lo ≤ from + minutes) (low : piece.lo ≤ from) (later : from ≤ t) where
  pub flat_no_higher : line_at own (from + minutes) ≤ line_at piece from + cost → own.slope ≤ piece.slope
      → line_at own (t + minutes) ≤ line_at piece t + cost
  flat_no_higher first flat =
      let far = further own.cost own.slope own.lo (from + minutes) (t + minutes) begins (omega (arith, later)) in
      let on = further piece.cost piece.slope piece.lo from t low later in
      let same : (t + minutes) - (from + minutes) ≡ t - from = omega (arith, later) in
      let gone : own.slope * ((t + minutes) - (from + minutes)) ≡ own.slope * (t - from) = ap (λ n. own.slope * n) same in
      let rise : own.slope * (t - from) ≤ piece.slope * (t - from) = mul-le-mul_right (t - from) flat in
      omega (arith, far, on, gone, rise, first)

  -- one that rises no less steeply, and is no larger at a later minute, is no larger before it
  pub steep_no_higher : (last : ℕ) → t ≤ last → line_at own (last + minutes) ≤ line_at piece last + cost → piece.slope ≤ own.slope
      → line_at own (t + minutes) ≤ line_at piece t + cost
  steep_no_higher last before end steep =
      let far = further own.cost own.slope own.lo (t + minutes) (last + minutes) (omega (arith, begins, later)) (omega (arith, before)) in
      let on = further piece.cost piece.slope piece.lo t last (omega (arith, low, later)) before in
      let same : (last + minutes) - (t + minutes) ≡ last - t = omega (arith, before) in
      let gone : own.slope * ((last + minutes) - (t + minutes)) ≡ own.slope * (last - t) = ap (λ n. own.slope * n) same in
      let rise : piece.slope * (last - t) ≤ own.slope * (last - t) = mul-le-mul_right (last - t) steep in
      omega (arith, far, on, gone, rise, end)

-- the pieces of f that are left, of which none ends before a minute of the shifted piece
module _ (f left : List Piece) (piece : Piece) (from minutes cost : ℕ) (some : 1 ≤ length left) (are : ArePieces left)
    (values : (t : ℕ) → from + minutes ≤ t → value_at left t ≡ value_at f t) where
  abbrev IsShown : ℕ → Type 0
  IsShown t = IsNoBetter f (t + minutes) (line_at piece t + cost)

  -- the first of them shows its minutes
  module _ (begins : (first_of left).lo ≤ from + minutes)
      (low : (t : ℕ) → from ≤ t → t ≤ piece.hi → t + minutes ≤ (first_of left).hi → line_at (first_of left) (t + minutes) ≤ line_at piece t + cost)
      (before : (t : ℕ) → piece.lo ≤ t → t < from → IsShown t) where
    pub shown_until : (t : ℕ) → piece.lo ≤ t → t ≤ piece.hi → t + minutes ≤ (first_of left).hi → IsShown t
    shown_until t low_end upto within =
        ⊎_elim
        (λ (early : t < from). before t low_end early)
        (λ (late : from ≤ t). record {
          least = line_at (first_of left) (t + minutes);
          is = sym (values (t + minutes) (omega (arith, late))) ∙ first_value left some are (t + minutes) (omega (arith, begins, late)) within;
          within = low t late upto within;
        })
        (cases_lt t from)

  -- the others end behind it
  pub rest_ends : (next : ℕ) → next ≤ (first_of left).hi + 1 → All (λ p. next ≤ p.hi) (take (length left - 1) (drop 1 left))
  rest_ends next bound k d within =
      let rest = take (length left - 1) (drop 1 left) in
      let later = rising_head (first_of left) rest (subst ArePieces (first_and_rest left _ some) are) k d within in
      let filled = (rest_every left some are IsPiece are.each k d within).filled in
      omega (arith, bound, later, filled)
