-- A write to a list of functions lowers one of them.
use Rattle.std.proofs.Common.{◌≡◌, ℕ, ◌-◌, ◌≤◌, Bool, Option, List, length, get_or, set, sym, ◌∙◌, ap}
use Rattle.potentials.proofs.Lists.{number_read, number_set, number_set_other}
use Rattle.cost_functions.specs.Pieces.{value_at, value_in}
use Rattle.function_merge.specs.Least.{least_of, is_better}
use Rattle.propagation.specs.Found.{cost_at}
use Rattle.propagation.specs.Inside.States.{IsLowered}
use Rattle.cost_functions.specs.declared.pieces.Piece.{Piece}

pub lowered : (functions : List (List Piece)) (h : ℕ) (f : List Piece) (offer : ℕ → Option ℕ) (better : ℕ → Bool) (own : List Piece) → 1 ≤ h
    → h ≤ length functions
    → own ≡ get_or functions (h - 1) own
    → ((t : ℕ) → value_at f t ≡ least_of (value_at own t) (offer t)) → ((t : ℕ) → better t ≡ is_better (value_at own t) (offer t))
    → IsLowered h offer better (cost_at functions) (cost_at (set functions (h - 1) f))
lowered functions h f offer better own low high is value improved = record {
  here = λ t. ap (λ o. value_in o t) (number_set functions h f low high) ∙ value t ∙ ap (λ o. least_of o (offer t)) (sym (was t));
  others = λ v t ne. ap (λ o. value_in o t) (number_set_other functions h v f low high ne);
  improved = λ t. improved t ∙ ap (λ o. is_better o (offer t)) (sym (was t));
}
  where
    was : (t : ℕ) → cost_at functions h t ≡ value_at own t
    was t = ap (λ o. value_in o t) (number_read functions h own low high) ∙ ap (λ w. value_at w t) (sym is)

pub value_is : (functions : List (List Piece)) (h : ℕ) (own : List Piece) → 1 ≤ h → h ≤ length functions → own ≡ get_or functions (h - 1) own → (t : ℕ)
    → cost_at functions h t ≡ value_at own t
value_is functions h own low high is t = ap (λ o. value_in o t) (number_read functions h own low high) ∙ ap (λ w. value_at w t) (sym is)
