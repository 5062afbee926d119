-- Where the runs that end after a minute begin.
use Rattle.std.proofs.Common.{◌≡◌, ⊎_elim, ℕ, ◌+◌, ◌≤◌, ◌<◌, true, false, leb, List, length, get_or, ◌∙◌, ap, arith}
use Rattle.std.specs.List.{AllWithin}
use Rattle.std.specs.List.Sorted.{IsNonDecreasingBy}
use Rattle.std.proofs.lemmas.List.Folds.{list_any_none, list_any_at}
use Rattle.std.proofs.lemmas.List.{get_or_default}
use Rattle.std.proofs.lemmas.Bool.{cases_lt, cases_eq, leb-true, leb-false, lt-ltb, le-ltb, le-leb, lt-leb, and_left, and_right, and_from, both_ways}
use Rattle.route_base.specs.Runs.{has_minute, any_has, AreRuns, IsFree}
use Rattle.route_base.specs.declared.types.Run.{Run}

module _ (runs : List Run) (rising : AreRuns runs) where
  -- the ends rise
  pub ends_rise : IsNonDecreasingBy (λ r. r.hi) runs
  ends_rise i j d le within =
      ⊎_elim
      (λ (same : i ≡ j). omega (arith, ap (λ n. (get_or runs n d).hi) same))
      (λ (other : i ≡ j → ⊥).
      let before : i < j = omega (arith, other) in
      omega (arith, rising.apart i j d before within, rising.filled j d within))
      (cases_eq i j)

  module _ (t minutes i : ℕ) (some : 1 ≤ minutes) (before : AllWithin (λ r. leb r.hi t ≡ true) runs 0 i)
      (after : AllWithin (λ r. leb r.hi t ≡ false) runs i (length runs)) where
    -- nothing has a minute that is before the next run
    free_from : (u : ℕ) → t ≤ u → ((d : Run) → i < length runs → u < (get_or runs i d).lo) → any_has runs u ≡ false
    free_from u from next = list_any_none (has_minute u) runs (λ k d within.
        ⊎_elim
        (λ (early : k < i). and_right _ _ (le-ltb u (get_or runs k d).hi (omega (arith, leb-true _ _ (before k d (omega arith) early), from))))
        (λ (late : i ≤ k).
        let here : u < (get_or runs i d).lo = next d (omega arith) in
        let le : (get_or runs i d).lo ≤ (get_or runs k d).lo =
        ⊎_elim
        (λ (same : i ≡ k). omega (arith, ap (λ n. (get_or runs n d).lo) same))
        (λ (other : i ≡ k → ⊥). omega (arith, rising.apart i k d (omega (arith, other)) within, rising.filled i d (omega arith)))
        (cases_eq i k) in
        and_left _ _ (lt-leb (get_or runs k d).lo u (omega (arith, here, le))))
        (cases_lt k i))

    pub free_before : (run : Run) → i < length runs → run ≡ get_or runs i run → t + minutes ≤ run.lo → IsFree runs t minutes
    free_before run within is late u from upto = free_from u from
        (λ d w. omega (arith, upto, late, ap (λ (r : Run). r.lo) (is ∙ get_or_default runs i run d within)))

    pub free_behind : length runs ≤ i → IsFree runs t minutes
    free_behind end u from upto = free_from u from (λ d w. absurd (omega (arith, w, end)))

    pub runs_later : (run : Run) → i < length runs → run ≡ get_or runs i run → IsFree runs t minutes → t + minutes ≤ run.lo
    runs_later run within is free =
        ⊎_elim
        (λ (hit : run.lo < t + minutes).
        let lo : run.lo ≡ (get_or runs i run).lo = ap (λ (r : Run). r.lo) is in
        let ends : t < (get_or runs i run).hi = leb-false _ _ (after i run (omega arith) within) in
        let filled : (get_or runs i run).lo < (get_or runs i run).hi = rising.filled i run within in
        ⊎_elim
        (λ (soon : run.lo < t).
        let one : t < t + minutes = omega (arith, some) in
        let same : t ≤ t = omega arith in
        absurd (both_ways (any_has runs t) (free t same one)
        (list_any_at (has_minute t) runs i run within
        (and_from _ _ (le-leb (get_or runs i run).lo t (omega (arith, soon, lo))) (lt-ltb t (get_or runs i run).hi ends)))))
        (λ (then : t ≤ run.lo). absurd (both_ways (any_has runs run.lo) (free run.lo then hit)
        (list_any_at (has_minute run.lo) runs i run within
        (and_from _ _ (le-leb (get_or runs i run).lo run.lo (omega (arith, lo)))
        (lt-ltb run.lo (get_or runs i run).hi (omega (arith, lo, filled)))))))
        (cases_lt run.lo t))
        (λ (past : t + minutes ≤ run.lo). past)
        (cases_lt run.lo (t + minutes))
