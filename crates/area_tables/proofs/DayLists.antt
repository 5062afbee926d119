-- Days in the order of the calendar, each once.
use Rattle.std.proofs.Common.{◌≡◌, ℕ, zero, suc, ◌+◌, ◌<◌, ◌≤◌, Bool, true, false, cond, eqb, List, [], ◌∷◌, length, get_or, refl, sym, ◌∙◌, ap}
use Rattle.std.proofs.Common.{subst, arith, ⊎_elim}
use Rattle.std.specs.Prelude.{◌||◌, All}
use Rattle.std.specs.List.{filter, range_with_len, list_any, dedup, dedup_from}
use Rattle.std.specs.List.Sorted.{IsStrictlyIncreasing, IsSorted, IsPermutation}
use Rattle.std.specs.Ordering.{nat_cmp}
use Rattle.std.proofs.lemmas.Bool.{cases_eq, cases_lt, eq-eqb, ne_eqb}
use Rattle.std.proofs.lemmas.List.Elements.{All-head, All-tail}
use Rattle.std.proofs.lemmas.List.Filters.{All-dedup}
use Rattle.std.proofs.lemmas.List.Sorted.{All-permutation, list_any-IsPermutation}
use Rattle.std.proofs.lemmas.Map.Keys.{IsStrictlyIncreasing-dedup}
use Rattle.opening_hours.specs.Holidays.{is_listed}
use Rattle.area_tables.specs.Holidays.{calendar_days}

-- each from the first number on and below the second, and below the next
abbrev Rises : ℕ → ℕ → List ℕ → Type 0
Rises a b [] = Unit {0}
Rises a b (x ∷ xs) = (a ≤ x) × (x < b) × Rises (x + 1) b xs

increasing_rest : (x : ℕ) (xs : List ℕ) → IsStrictlyIncreasing (x ∷ xs) → IsStrictlyIncreasing xs
increasing_rest x xs up = λ k h.
    let e : suc k + 1 ≡ suc (k + 1) = omega arith in
    subst (λ (j : ℕ). get_or xs k 0 < get_or (x ∷ xs) j 0) e (up (suc k) (omega (arith, h)))

Rises-from : (a b : ℕ) (xs : List ℕ) → IsStrictlyIncreasing xs → All (λ x. x < b) xs → (0 < length xs → a ≤ get_or xs 0 0) → Rises a b xs
Rises-from a b [] up below low = tt
Rises-from a b (x ∷ xs) up below low = (
  low (omega arith),
  All-head (λ x. x < b) x xs below,
  Rises-from (x + 1) b xs (increasing_rest x xs up) (All-tail (λ x. x < b) x xs below)
      (λ h. omega (arith, up 0 (omega (arith, h)))),
)

-- a number below all of them isn't listed
not_listed : (a b d : ℕ) (xs : List ℕ) → d < a → Rises a b xs → is_listed d xs ≡ false
not_listed a b d [] low rises = refl
not_listed a b d (x ∷ xs) low rises =
    ap (λ (t : Bool). t || is_listed d xs) (ne_eqb x d (λ e. omega (arith, rises.0, e))) ∙ not_listed (x + 1) b d xs (omega (arith, rises.0)) rises.2

-- a rising list is a choice from the numbers in a row: with one number more at the front
module _ (p : ℕ → Bool) (a n b x : ℕ) (xs : List ℕ) (rises : Rises a b (x ∷ xs)) (says : (d : ℕ) → a ≤ d → is_listed d (x ∷ xs) ≡ p d)
    (more : (ys : List ℕ) → Rises (a + 1) b ys → ((d : ℕ) → a + 1 ≤ d → is_listed d ys ≡ p d) → ys ≡ filter p (range_with_len (a + 1) n)) where
  chosen_here : x ≡ a → x ∷ xs ≡ filter p (range_with_len a (suc n))
  chosen_here e =
      let rest : List ℕ = filter p (range_with_len (a + 1) n) in
      let here : p a ≡ true = sym (says a (omega arith)) ∙ ap (λ (t : Bool). t || is_listed a xs) (eq-eqb x a e) in
      let tail : xs ≡ rest = more xs (subst (λ (k : ℕ). Rises (k + 1) b xs) e rises.2) (λ d h.
      sym (ap (λ (t : Bool). t || is_listed d xs) (ne_eqb x d (λ q. omega (arith, h, q, e)))) ∙ says d (omega (arith, h))) in
      ap (λ (ys : List ℕ). x ∷ ys) tail ∙ ap (λ (k : ℕ). k ∷ rest) e ∙ sym (ap (λ (t : Bool). cond t (a ∷ rest) rest) here)

  chosen_later : a < x → x ∷ xs ≡ filter p (range_with_len a (suc n))
  chosen_later low =
      let rest : List ℕ = filter p (range_with_len (a + 1) n) in
      let above : Rises (a + 1) b (x ∷ xs) = (omega (arith, low), rises.1, rises.2) in
      let gone : p a ≡ false = sym (says a (omega arith)) ∙ not_listed (a + 1) b a (x ∷ xs) (omega arith) above in
      more (x ∷ xs) above (λ d h. says d (omega (arith, h))) ∙ sym (ap (λ (t : Bool). cond t (a ∷ rest) rest) gone)

chosen : (p : ℕ → Bool) (a n b : ℕ) (xs : List ℕ) → a + n ≡ b → Rises a b xs → ((d : ℕ) → a ≤ d → is_listed d xs ≡ p d) → xs ≡ filter p (range_with_len a n)
chosen p a zero b [] end rises says = refl
chosen p a zero b (x ∷ xs) end rises says = absurd (omega (arith, rises.0, rises.1))
chosen p a (suc n) b [] end rises says =
    chosen p (a + 1) n b [] (omega (arith, end)) tt (λ d h. says d (omega (arith, h)))
    ∙ ap (λ (t : Bool). cond t (a ∷ filter p (range_with_len (a + 1) n)) (filter p (range_with_len (a + 1) n))) (says a (omega arith))
chosen p a (suc n) b (x ∷ xs) end rises says =
    let more : (ys : List ℕ) → Rises (a + 1) b ys → ((d : ℕ) → a + 1 ≤ d → is_listed d ys ≡ p d) → ys ≡ filter p (range_with_len (a + 1) n) =
    λ ys. chosen p (a + 1) n b ys (omega (arith, end)) in
    ⊎_elim (λ (low : a < x). chosen_later p a n b x xs rises says more low)
    (λ (high : x ≤ a). (let e : x ≡ a = omega (arith, rises.0, high) in chosen_here p a n b x xs rises says more e))
    (cases_lt a x)

-- a test of what a list keeps without repeats
or_again : (b r : Bool) → (b || r) ≡ (b || (b || r))
or_again true r = refl
or_again false r = refl

any_kept : (q : ℕ → Bool) (k : ℕ) (xs : List ℕ) → list_any q (dedup_from eqb k xs) ≡ (q k || list_any q xs)
any_kept q k [] = refl
any_kept q k (x ∷ xs) =
    ⊎_elim
    (λ (e : x ≡ k). ap (λ (t : Bool). list_any q (cond t (dedup_from eqb k xs) (k ∷ dedup_from eqb x xs))) (eq-eqb x k e)
    ∙ any_kept q k xs ∙ or_again (q k) (list_any q xs) ∙ ap (λ (j : ℕ). q k || (q j || list_any q xs)) (sym e))
    (λ (ne : x ≡ k → ⊥). ap (λ (t : Bool). list_any q (cond t (dedup_from eqb k xs) (k ∷ dedup_from eqb x xs))) (ne_eqb x k ne)
    ∙ ap (λ (t : Bool). q k || t) (any_kept q x xs))
    (cases_eq x k)

any_dedup : (q : ℕ → Bool) (xs : List ℕ) → list_any q (dedup eqb xs) ≡ list_any q xs
any_dedup q [] = refl
any_dedup q (x ∷ xs) = any_kept q x xs

-- sorted and without repeats, numbers below n are the first n numbers that are listed
pub in_calendar_order : (n : ℕ) (days sorted kept : List ℕ) → IsPermutation days sorted → IsSorted nat_cmp sorted → kept ≡ dedup eqb sorted
    → All (λ day. day < n) days
    → kept ≡ filter (λ day. is_listed day days) (calendar_days n)
unfolding calendar_days
in_calendar_order n days sorted kept moved up is below =
    let rising : IsStrictlyIncreasing (dedup eqb sorted) = IsStrictlyIncreasing-dedup sorted up in
    let within : All (λ day. day < n) (dedup eqb sorted) = All-dedup eqb (λ day. day < n) sorted (All-permutation (λ day. day < n) days sorted moved below) in
    is ∙ chosen (λ day. is_listed day days) 0 n n (dedup eqb sorted) (omega arith) (Rises-from 0 n (dedup eqb sorted) rising within (λ h. omega arith)) (λ d h.
    any_dedup (λ x. eqb x d) sorted ∙ sym (list_any-IsPermutation (λ x. eqb x d) days sorted moved))
