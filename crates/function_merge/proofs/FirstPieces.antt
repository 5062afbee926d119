-- Values of a list of pieces at and before its first piece.
use Rattle.std.proofs.Common.{◌≡◌, ⊎_elim, ℕ, ◌-◌, ◌≤◌, ◌<◌, Some, None, List, [], length, get_or, take, drop, All, ◌∙◌, ap, sym, subst, arith}
use Rattle.std.proofs.lemmas.List.{nil_from_length, get_or_default}
use Rattle.std.proofs.lemmas.Bool.{cases_eq}
use Rattle.std.proofs.lemmas.List.Elements.{All-nil, All-tail}
use Rattle.cost_functions.specs.Lines.{line_at, IsPiece}
use Rattle.cost_functions.specs.Pieces.{value_at, ArePieces}
use Rattle.cost_functions.specs.declared.pieces.Piece.{Piece}
use Rattle.cost_functions.proofs.Values.{value_here, value_before, value_after, none_behind, none_after}
use Rattle.route_base.proofs.Lists.{first_and_rest}

abbrev pub first_of : List Piece → Piece
first_of ps = get_or ps 0 (record { lo = 0; hi = 0; cost = 0; slope = 0 })

pub no_pieces : (ps : List Piece) (t : ℕ) → length ps ≤ 0 → value_at ps t ≡ None
no_pieces ps t none = ap (λ xs. value_at xs t) (nil_from_length ps (omega (arith, none))) ∙ none_after [] t (All-nil (λ p. p.hi < t))

module _ (ps : List Piece) (some : 1 ≤ length ps) (are : ArePieces ps) where
  pub first_is : IsPiece (first_of ps)
  first_is = are.each 0 _ (omega (arith, some))

  pub first_value : (t : ℕ) → (first_of ps).lo ≤ t → t ≤ (first_of ps).hi → value_at ps t ≡ Some (line_at (first_of ps) t)
  first_value t from upto = ap (λ xs. value_at xs t) (first_and_rest ps _ some) ∙ value_here (first_of ps) (take (length ps - 1) (drop 1 ps)) t from upto

  pub first_none : (t : ℕ) → t < (first_of ps).lo → value_at ps t ≡ None
  first_none t early =
      let is = first_is in
      let filled = is.filled in
      ap (λ xs. value_at xs t) (first_and_rest ps _ some)
      ∙ value_before (first_of ps) (take (length ps - 1) (drop 1 ps)) t early
      ∙ none_behind (first_of ps) (take (length ps - 1) (drop 1 ps)) t (subst ArePieces (first_and_rest ps _ some) are) (omega (arith, early, filled))

  pub rest_every : (P : Piece → Type 0) → All P ps → All P (take (length ps - 1) (drop 1 ps))
  rest_every P all = All-tail P (first_of ps) (take (length ps - 1) (drop 1 ps)) (subst (All P) (first_and_rest ps _ some) all)

  pub rest_values : (t : ℕ) → (first_of ps).hi < t → value_at (take (length ps - 1) (drop 1 ps)) t ≡ value_at ps t
  rest_values t late = sym (ap (λ xs. value_at xs t) (first_and_rest ps _ some) ∙ value_after (first_of ps) (take (length ps - 1) (drop 1 ps)) t late)

  -- where the first piece doesn't end before a minute, none does
  pub reach_all : (from : ℕ) → from ≤ (first_of ps).hi → All (λ p. from ≤ p.hi) ps
  reach_all from first k d within =
      let same = ap (λ (p : Piece). p.hi) (get_or_default ps 0 (record { lo = 0; hi = 0; cost = 0; slope = 0 }) d (omega (arith, some))) in
      ⊎_elim
      (λ (head : 0 ≡ k). subst (λ (n : ℕ). from ≤ (get_or ps n d).hi) head (omega (arith, same, first)))
      (λ (behind : 0 ≡ k → ⊥). (let far = are.apart 0 k d (omega (arith, behind)) within in let is = are.each k d within in let filled = is.filled in
      omega (arith, far, filled, same, first)))
      (cases_eq 0 k)

  -- no piece begins before the first
  pub begin_all : All (λ p. (first_of ps).lo ≤ p.lo) ps
  begin_all k d within =
      let same = ap (λ (p : Piece). p.lo) (get_or_default ps 0 (record { lo = 0; hi = 0; cost = 0; slope = 0 }) d (omega (arith, some))) in
      ⊎_elim
      (λ (head : 0 ≡ k). subst (λ (n : ℕ). (first_of ps).lo ≤ (get_or ps n d).lo) head (omega (arith, same)))
      (λ (behind : 0 ≡ k → ⊥). (let far = are.apart 0 k d (omega (arith, behind)) within in let is = are.each 0 d (omega (arith, some)) in
      let filled = is.filled in omega (arith, far, filled, same)))
      (cases_eq 0 k)
