-- The list at a place, of lists that are changed one by one, or that stand before others.
use Rattle.std.proofs.Common.{◌≡◌, ℕ, zero, suc, ◌+◌, ◌<◌, List, [], ◌∷◌, ◌++◌, length, map, refl, ◌∙◌, ap, arith}
use Rattle.std.specs.Prelude.{slice_get, unwrap_or}

-- the list at a place stays where others come behind
pub list_kept : {A : Type 0} (xss yss : List (List A)) (k : ℕ) → k < length xss → unwrap_or (slice_get (xss ++ yss) k) [] ≡ unwrap_or (slice_get xss k) []
list_kept [] yss k within = absurd (omega (arith, within))
list_kept (xs ∷ xss) yss zero within = refl
list_kept (xs ∷ xss) yss (suc k) within = list_kept xss yss k (omega (arith, within))

-- a list that came behind
pub list_behind : {A : Type 0} (xss yss : List (List A)) (k : ℕ) → unwrap_or (slice_get (xss ++ yss) (length xss + k)) [] ≡ unwrap_or (slice_get yss k) []
list_behind [] yss k = let same : 0 + k ≡ k = omega arith in ap (λ (n : ℕ). unwrap_or (slice_get yss n) []) same
list_behind (xs ∷ xss) yss k =
    let same : length (xs ∷ xss) + k ≡ suc (length xss + k) = omega arith in
    ap (λ (n : ℕ). unwrap_or (slice_get (xs ∷ xss ++ yss) n) []) same ∙ list_behind xss yss k

-- the list at a place where each was changed, with an empty one behind them
pub list_at : {A : Type 0} (f : List A → List A) (xss : List (List A)) (k : ℕ) → k < length xss
    → unwrap_or (slice_get (map f xss ++ [] ∷ []) k) [] ≡ f (unwrap_or (slice_get xss k) [])
list_at f [] k within = absurd (omega (arith, within))
list_at f (xs ∷ xss) zero within = refl
list_at f (xs ∷ xss) (suc k) within = list_at f xss k (omega (arith, within))

pub list_last : {A : Type 0} (f : List A → List A) (xss : List (List A)) → unwrap_or (slice_get (map f xss ++ [] ∷ []) (length xss)) [] ≡ []
list_last f [] = refl
list_last f (xs ∷ xss) = list_last f xss
