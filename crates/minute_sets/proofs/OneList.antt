-- Two lists of runs with the same minutes are one.
use Rattle.std.proofs.Common.{◌≡◌, ⊎_elim, ℕ, ◌≤◌, ◌<◌, true, false, List, [], ◌∷◌, refl, sym, ◌∙◌, ap, arith}
use Rattle.std.proofs.lemmas.Bool.{cases_lt, cases_order, both_ways}
use Rattle.route_base.specs.Runs.{any_has, AreRuns}
use Rattle.route_base.specs.declared.types.Run.{Run}
use Rattle.route_base.proofs.FirstRuns.{runs_tail, runs_head, behind_first, in_first, in_others, not_behind, none_before, before_first}

abbrev run_of : ℕ → ℕ → Run
run_of a b = record { lo = a; hi = b }

same_run : (x y : Run) → x.lo ≡ y.lo → x.hi ≡ y.hi → x ≡ y
same_run x y a b = ap (λ (n : ℕ). run_of n x.hi) a ∙ ap (λ (n : ℕ). run_of y.lo n) b

-- the others have no minute up to the first one's end
others_later : (x : Run) (xs : List Run) (t : ℕ) → AreRuns (x ∷ xs) → t ≤ x.hi → any_has xs t ≡ false
others_later x xs t are early = none_before xs t (λ k d within. (let rise = behind_first x xs are k d within in omega (arith, rise, early)))

begins : (x : Run) (xs : List Run) → AreRuns (x ∷ xs) → any_has (x ∷ xs) x.lo ≡ true
begins x xs are = in_first x xs x.lo (omega arith) (runs_head x xs are)

not_earlier : (x y : Run) (xs ys : List Run) → AreRuns (x ∷ xs) → AreRuns (y ∷ ys)
    → ((t : ℕ) → any_has (x ∷ xs) t ≡ any_has (y ∷ ys) t) → x.lo < y.lo → ⊥
not_earlier x y xs ys a b same early = both_ways (any_has (y ∷ ys) x.lo) (before_first y ys x.lo b early) (sym (same x.lo) ∙ begins x xs a)

not_shorter : (x y : Run) (xs ys : List Run) → AreRuns (x ∷ xs) → AreRuns (y ∷ ys)
    → ((t : ℕ) → any_has (x ∷ xs) t ≡ any_has (y ∷ ys) t) → x.lo ≡ y.lo → x.hi < y.hi → ⊥
not_shorter x y xs ys a b same start early =
    let filled = runs_head x xs a in
    both_ways (any_has (x ∷ xs) x.hi)
    (in_others x xs x.hi (not_behind x x.hi (omega arith)) ∙ others_later x xs x.hi a (omega arith))
    (same x.hi ∙ in_first y ys x.hi (omega (arith, filled, start)) early)

pub one_list : (xs ys : List Run) → AreRuns xs → AreRuns ys → ((t : ℕ) → any_has xs t ≡ any_has ys t) → xs ≡ ys
one_list [] [] a b same = refl
one_list [] (y ∷ ys) a b same = absurd (both_ways (any_has (y ∷ ys) y.lo) (sym (same y.lo)) (begins y ys b))
one_list (x ∷ xs) [] a b same = absurd (both_ways (any_has (x ∷ xs) x.lo) (same x.lo) (begins x xs a))
one_list (x ∷ xs) (y ∷ ys) a b same =
    let back : (t : ℕ) → any_has (y ∷ ys) t ≡ any_has (x ∷ xs) t = λ t. sym (same t) in
    let lo : x.lo ≡ y.lo =
    ⊎_elim
    (λ (e : x.lo ≡ y.lo). e)
    (λ other. ⊎_elim
    (λ (early : x.lo < y.lo). absurd (not_earlier x y xs ys a b same early))
    (λ (late : y.lo < x.lo). absurd (not_earlier y x ys xs b a back late))
    other)
    (cases_order x.lo y.lo) in
    let hi : x.hi ≡ y.hi =
    ⊎_elim
    (λ (e : x.hi ≡ y.hi). e)
    (λ other. ⊎_elim
    (λ (early : x.hi < y.hi). absurd (not_shorter x y xs ys a b same lo early))
    (λ (late : y.hi < x.hi). absurd (not_shorter y x ys xs b a back (sym lo) late))
    other)
    (cases_order x.hi y.hi) in
    let rest : (t : ℕ) → any_has xs t ≡ any_has ys t = λ t.
    ⊎_elim
    (λ (behind : x.hi < t).
    sym (in_others x xs t (not_behind x t (omega (arith, behind)))) ∙ same t ∙ in_others y ys t (not_behind y t (omega (arith, behind, hi))))
    (λ (early : t ≤ x.hi). others_later x xs t a early ∙ sym (others_later y ys t b (omega (arith, early, hi))))
    (cases_lt x.hi t) in
    ap (λ (r : Run). r ∷ xs) (same_run x y lo hi) ∙ ap (λ (rs : List Run). y ∷ rs) (one_list xs ys (runs_tail x xs a) (runs_tail y ys b) rest)
