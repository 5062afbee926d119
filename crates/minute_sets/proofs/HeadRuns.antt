-- The first run of a list that has one, and the others as a slice pattern gives them.
use Rattle.std.proofs.Common.{◌≡◌, ℕ, ◌-◌, ◌≤◌, ◌<◌, true, false, List, ◌∷◌, length, get_or, take, drop, ◌∙◌, ap, subst, sym, arith}
use Rattle.route_base.specs.Runs.{any_has, AreRuns}
use Rattle.route_base.specs.declared.types.Run.{Run}
use Rattle.route_base.proofs.Lists.{first_and_rest}
use Rattle.route_base.proofs.FirstRuns.{before_first, behind_first, in_first, in_others, none_before, not_behind, runs_tail}

abbrev pub head_run : List Run → Run
head_run runs = get_or runs 0 (record { lo = 0; hi = 0 })

abbrev pub other_runs : List Run → List Run
other_runs runs = take (length runs - 1) (drop 1 runs)

module _ (runs : List Run) (one : 1 ≤ length runs) where
  parts_have : (t : ℕ) → any_has runs t ≡ any_has (head_run runs ∷ other_runs runs) t
  parts_have t = ap (λ rs. any_has rs t) (first_and_rest runs _ one)

  pub head_within : (t : ℕ) → (head_run runs).lo ≤ t → t < (head_run runs).hi → any_has runs t ≡ true
  head_within t late early = parts_have t ∙ in_first (head_run runs) (other_runs runs) t late early

  pub others_behind : (t : ℕ) → (head_run runs).hi ≤ t → any_has (other_runs runs) t ≡ any_has runs t
  others_behind t late = sym (parts_have t ∙ in_others (head_run runs) (other_runs runs) t (not_behind (head_run runs) t late))

  module _ (are : AreRuns runs) where
    parts_are : AreRuns (head_run runs ∷ other_runs runs)
    parts_are = subst AreRuns (first_and_rest runs _ one) are

    pub head_before : (t : ℕ) → t < (head_run runs).lo → any_has runs t ≡ false
    head_before t early = parts_have t ∙ before_first (head_run runs) (other_runs runs) t parts_are early

    pub head_ends : any_has runs (head_run runs).hi ≡ false
    head_ends = sym (others_behind (head_run runs).hi (omega arith))
        ∙ none_before (other_runs runs) (head_run runs).hi (behind_first (head_run runs) (other_runs runs) parts_are)

    pub rest_runs : AreRuns (other_runs runs)
    rest_runs = runs_tail (head_run runs) (other_runs runs) parts_are
