-- Stays between runs.
use Rattle.std.proofs.Common.{◌≡◌, ◌↔◌, IsTrue, ⊎_elim, ℕ, ◌+◌, ◌≤◌, ◌<◌, ◌||◌, true, false, max, List, length, All, ◌∙◌, ap, sym, arith}
use Rattle.std.proofs.lemmas.Bool.{cases_lt, both_ways}
use Rattle.route_base.specs.Runs.{has_minute, any_has, AreRuns}
use Rattle.route_base.specs.declared.types.Run.{Run}
use Rattle.route_base.proofs.Logic.{or-false, or-true}
use Rattle.minute_sets.specs.Entries.{IsEntry}
use Rattle.route_base.proofs.FirstRuns.{not_before, not_behind, within_run}
use Rattle.minute_sets.proofs.HeadRuns.{head_run, head_before, head_within}

-- before a minute the set has the entries, and from it on nothing yet
pub record HasEntries (runs : List Run) (window : Run) (minutes : ℕ) (set : List Run) (from : ℕ) : Type 0 where
  pub before : (t : ℕ) → t < from → IsTrue (any_has set t) ↔ IsEntry runs window minutes t
  pub after : (t : ℕ) → from ≤ t → any_has set t ≡ false
  pub begins : All (λ r. r.lo ≤ from) set

module _ (runs : List Run) (window : Run) (minutes : ℕ) (some : 1 ≤ minutes) where
  -- the set `old` has the entries before the run, and `new` has the minutes of the run too
  module _ (old new : List Run) (run : Run) (to : ℕ) (from : run.lo ≤ to)
      (values : (t : ℕ) → any_has new t ≡ (any_has old t || has_minute t run))
      (has : HasEntries runs window minutes old run.lo) (upto : run.hi ≤ to) (begins : All (λ r. r.lo ≤ run.lo) new)
      (only : (t : ℕ) → run.lo ≤ t → t < run.hi → IsEntry runs window minutes t)
      (every : (t : ℕ) → run.lo ≤ t → t < to → IsEntry runs window minutes t → t < run.hi) where
    old_or : (t : ℕ) → has_minute t run ≡ false → any_has new t ≡ any_has old t
    old_or t out = values t ∙ ap (λ b. any_has old t || b) out ∙ or-false (any_has old t)

    new_or : (t : ℕ) → has_minute t run ≡ true → any_has new t ≡ true
    new_or t held = values t ∙ ap (λ b. any_has old t || b) held ∙ or-true (any_has old t)

    is_entry : (t : ℕ) → any_has new t ≡ true → IsEntry runs window minutes t
    is_entry t held =
        ⊎_elim
        (λ (early : t < run.lo). (has.before t early).0 (sym (old_or t (not_before run t early)) ∙ held))
        (λ (late : run.lo ≤ t).
        ⊎_elim
        (λ (within : t < run.hi). only t late within)
        (λ (behind : run.hi ≤ t). absurd (both_ways (any_has new t) (old_or t (not_behind run t behind) ∙ has.after t late) held))
        (cases_lt t run.hi))
        (cases_lt t run.lo)

    is_had : (t : ℕ) → t < to → IsEntry runs window minutes t → any_has new t ≡ true
    is_had t before is =
        ⊎_elim
        (λ (early : t < run.lo). old_or t (not_before run t early) ∙ (has.before t early).1 is)
        (λ (late : run.lo ≤ t). new_or t (within_run run t late (every t late before is)))
        (cases_lt t run.lo)

    pub entries_more : HasEntries runs window minutes new to
    entries_more = record {
      before = λ t before. (is_entry t, is_had t before);
      after = λ t late. old_or t (not_behind run t (omega (arith, upto, late))) ∙ has.after t (omega (arith, from, late));
      begins = λ k d within. (let begin = begins k d within in omega (arith, begin, from));
    }

  -- between a minute and the first run of those that are left
  module _ (from : ℕ) (left : List Run) (one : 1 ≤ length left) (are : AreRuns left)
      (same : (t : ℕ) → from ≤ t → any_has left t ≡ any_has runs t) where
    pub gap_only : window.lo ≤ from → (t : ℕ) → from ≤ t → t + minutes ≤ (head_run left).lo → t + minutes ≤ window.hi
        → IsEntry runs window minutes t
    gap_only begun t late fits ends = record {
      begins = omega (arith, begun, late);
      ends = ends;
      free = λ u after before. sym (same u (omega (arith, late, after))) ∙ head_before left one are u (omega (arith, before, fits));
    }

    -- a stay within the run or into it would meet one of its minutes
    hits : (t u : ℕ) → IsEntry runs window minutes t → t ≤ u → u < t + minutes → from ≤ u
        → (head_run left).lo ≤ u → u < (head_run left).hi → ⊥
    hits t u is after before late low high = both_ways (any_has runs u) (is.free u after before) (sym (same u late) ∙ head_within left one u low high)

    pub gap_every : (t : ℕ) → from ≤ t → t < max from (head_run left).hi → IsEntry runs window minutes t
        → t + minutes ≤ (head_run left).lo
    gap_every t late before is =
        let r : Run = head_run left in
        let filled : r.lo < r.hi = are.filled 0 _ (omega (arith, one)) in
        ⊎_elim
        (λ (hit : r.lo < t + minutes).
        ⊎_elim
        (λ (soon : r.lo < t). absurd (hits t t is (omega arith) (omega (arith, some)) late (omega (arith, soon)) (omega (arith, before, late))))
        (λ (then : t ≤ r.lo). absurd (hits t r.lo is then hit (omega (arith, late, then)) (omega arith) filled))
        (cases_lt r.lo t))
        (λ (past : t + minutes ≤ r.lo). past)
        (cases_lt r.lo (t + minutes))
