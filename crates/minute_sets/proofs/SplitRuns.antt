-- Runs before a minute and from it on.
use Rattle.std.proofs.Common.{◌≡◌, ⊎_elim, ℕ, ◌≤◌, ◌<◌, ◌&&◌, ◌||◌, not, max, Bool, true, false, leb, ltb, zero, suc, List, [], ◌∷◌, length, get_or, take, drop}
use Rattle.std.proofs.Common.{◌+◌, All, refl, ◌∙◌, ap, sym, subst, arith}
use Rattle.std.specs.List.{AllWithin}
use Rattle.std.proofs.lemmas.Bool.{cases_lt, lt-ltb, le-ltb, and_right}
use Rattle.std.proofs.lemmas.Bool.Decides.{nat_tests}
use Rattle.std.proofs.lemmas.List.{drop_more, get_or_default, get_or-take, length-take-le}
use Rattle.route_base.specs.Runs.{has_minute, any_has, AreRuns}
use Rattle.route_base.specs.declared.types.Run.{Run}
use Rattle.route_base.proofs.FirstRuns.{runs_tail, behind_first, none_before}
use Rattle.minute_sets.proofs.RunSuffixes.{any_drop}

regroup : (h a f b e : Bool) → (h ≡ true → e ≡ true) → (a || f) ≡ (b && e) → ((h || a) || f) ≡ ((h || b) && e)
regroup true a f b true within same = refl
regroup true a f b false within same = sym (within refl)
regroup false a f b e within same = same

ends_early : (r : Run) (end t : ℕ) → r.hi ≤ end → has_minute t r ≡ true → ltb t end ≡ true
ends_early r end t early has = grind (arith, nat_tests)

-- the runs that end by a minute have what all have before it, but for what the others have there
pub early_runs : (rs : List Run) (k end t : ℕ) (first : Bool) → AllWithin (λ r. r.hi ≤ end) rs 0 k → first ≡ (any_has (drop k rs) t && ltb t end)
    → (any_has (take k rs) t || first) ≡ (any_has rs t && ltb t end)
early_runs rs zero end t first early same = same
early_runs [] (suc k) end t first early same = same
early_runs (r ∷ rs) (suc k) end t first early same =
    regroup (has_minute t r) (any_has (take k rs) t) first (any_has rs t) (ltb t end)
    (ends_early r end t (early 0 r (omega arith) (omega arith)))
    (early_runs rs k end t first (λ j d from upto. early (suc j) d (omega arith) (omega (arith, upto))) same)

-- from a minute on, those that end by it have nothing
pub late_runs : (rs : List Run) (k end t : ℕ) → k ≤ length rs → AllWithin (λ r. r.hi ≤ end) rs 0 k
    → (any_has (drop k rs) t && not (ltb t end)) ≡ (any_has rs t && not (ltb t end))
late_runs rs k end t le early =
    ⊎_elim
    (λ (before : t < end). (let none = ap not (lt-ltb t end before) in and_right _ _ none ∙ sym (and_right _ _ none)))
    (λ (behind : end ≤ t). ap (λ b. b && not (ltb t end))
    (any_drop rs k t le (λ j d from upto. (let ends = early j d from upto in omega (arith, ends, behind)))))
    (cases_lt t end)

module _ (r : Run) (rs : List Run) (end t : ℕ) (are : AreRuns (r ∷ rs)) (over : end < r.hi) where
  others_late : t < end → any_has rs t ≡ false
  others_late before = none_before rs t (λ k d within. (let far = behind_first r rs are k d within in omega (arith, far, over, before)))

  pub first_before : (leb r.lo t && ltb t end) ≡ (any_has (r ∷ rs) t && ltb t end)
  first_before =
      ⊎_elim
      (λ (before : t < end). rw (others_late before) (grind (arith, nat_tests)))
      (λ (behind : end ≤ t). (let none = le-ltb t end behind in and_right _ _ none ∙ sym (and_right _ _ none)))
      (cases_lt t end)

  pub first_behind : any_has (record { lo = max r.lo end; hi = r.hi } ∷ rs) t ≡ (any_has (r ∷ rs) t && not (ltb t end))
  first_behind =
      ⊎_elim
      (λ (before : t < end). rw (others_late before) (grind (arith, nat_tests)))
      (λ (behind : end ≤ t). grind (arith, nat_tests))
      (cases_lt t end)

runs_drop : (rs : List Run) (k : ℕ) → AreRuns rs → AreRuns (drop k rs)
runs_drop rs zero are = are
runs_drop [] (suc k) are = are
runs_drop (r ∷ rs) (suc k) are = runs_drop rs k (runs_tail r rs are)

module _ (rs : List Run) (k : ℕ) (run : Run) (are : AreRuns rs) (some : k < length rs) (is : run ≡ get_or rs k run) where
  -- what the run at a place and those behind it have before a minute that the run goes over
  pub over_runs : (end t : ℕ) → end < run.hi → (leb run.lo t && ltb t end) ≡ (any_has (drop k rs) t && ltb t end)
  over_runs end t over =
      let others : drop k rs ≡ run ∷ drop (k + 1) rs = drop_more rs k run some ∙ ap (λ (r : Run). r ∷ drop (k + 1) rs) (sym is) in
      first_before run (drop (k + 1) rs) end t (subst AreRuns others (runs_drop rs k are)) over
      ∙ ap (λ rs. any_has rs t && ltb t end) (sym others)

  pub begin_before : All (λ r. r.lo ≤ run.lo) (take k rs)
  begin_before j d within =
      let lt : j < k = omega (arith, within, length-take-le k rs (omega (arith, some))) in
      let same = ap (λ (r : Run). r.lo) (get_or_default (take k rs) j d run within ∙ get_or-take k rs j run lt) in
      let far = are.apart j k run lt some in
      let filled = are.filled j run (omega (arith, lt, some)) in
      let begin = ap (λ (r : Run). r.lo) is in
      omega (arith, same, far, filled, begin)
