-- A search in a list that rises.
use Rattle.std.proofs.Common.{◌≡◌, ◌≢◌, ℕ, zero, suc, ◌+◌, ◌-◌, inl, inr, ◌<◌, ◌≤◌, true, false, List, [], ◌∷◌}
use Rattle.std.proofs.Common.{length, get_or, Result, Ok, Err, refl, sym, ap, ◌∙◌, arith, nat_cmp, eqb, eq-eqb}
use Rattle.std.specs.Prelude.{◌||◌, MatchResult}
use Rattle.std.specs.Result.{is_ok}
use Rattle.std.specs.List.Sorted.{IsStrictlyIncreasing, IsBinarySearchResult}
use Rattle.std.proofs.lemmas.List.Sorted.{searched}
use Rattle.std.proofs.lemmas.Bool.{ne_eqb, cases_lt}
use Rattle.std.proofs.lemmas.Grind.{common_steps}
use Rattle.opening_hours.specs.Holidays.{is_listed}

member_at : (xs : List ℕ) (x i : ℕ) → i < length xs → get_or xs i 0 ≡ x → is_listed x xs ≡ true
member_at [] x i l e = absurd (omega arith)
member_at (y ∷ ys) x zero l e = ap (λ b. b || is_listed x ys) (eq-eqb y x e)
member_at (y ∷ ys) x (suc i) l e =
    let rest : is_listed x ys ≡ true = member_at ys x i (omega arith) e in
    elim (eqb y x) as (λ b. b || is_listed x ys ≡ true) [ true ↦ refl | false ↦ rest ]

no_member : (xs : List ℕ) (x : ℕ) → ((i : ℕ) → i < length xs → get_or xs i 0 ≢ x) → is_listed x xs ≡ false
no_member [] x h = refl
no_member (y ∷ ys) x h =
    let first : eqb y x ≡ false = ne_eqb y x (h 0 (omega arith)) in
    let rest : is_listed x ys ≡ false = no_member ys x (λ i l. h (suc i) (omega arith)) in
    ap (λ b. b || is_listed x ys) first ∙ rest

rises_to : (xs : List ℕ) → IsStrictlyIncreasing xs → (i k : ℕ) → i + k < length xs → get_or xs i 0 ≤ get_or xs (i + k) 0
rises_to xs rises i zero l = grind (arith, common_steps)
rises_to xs rises i (suc k) l =
    let before : get_or xs i 0 ≤ get_or xs (i + k) 0 = rises_to xs rises i k (omega arith) in
    let step : get_or xs (i + k) 0 < get_or xs (i + k + 1) 0 = rises (i + k) (omega arith) in
    let same : i + suc k ≡ i + k + 1 = omega arith in
    rw same (omega arith)

pub ok_is_listed : (xs : List ℕ) (x : ℕ) (r : Result ℕ ℕ) → IsBinarySearchResult (λ y. nat_cmp y x) xs r
    → IsStrictlyIncreasing xs → is_ok r ≡ is_listed x xs
ok_is_listed xs x r found rises = by r (searched xs x r found order)
  where
    order : (i j : ℕ) → i ≤ j → j < length xs → get_or xs i 0 ≤ get_or xs j 0
    order i j le l = let same : i + (j - i) ≡ j = omega arith in let h = rises_to xs rises i (j - i) (omega arith) in let k = rw same at h in k

    by : (r : Result ℕ ℕ) → MatchResult r (λ i. (i < length xs) × (get_or xs i 0 ≡ x)) (λ i. (i ≤ length xs)
        × ((k : ℕ) → k < i → get_or xs k 0 < x) × ((k : ℕ) → i ≤ k → k < length xs → x < get_or xs k 0)) → is_ok r ≡ is_listed x xs
    by (Ok i) h = sym (member_at xs x i h.0 h.1)
    by (Err i) h = sym (no_member xs x (λ k l e.
        elim (cases_lt k i) [ inl lt ↦ let f = h.1 k lt in omega arith | inr ge ↦ let f = h.2 k ge l in omega arith ]))
