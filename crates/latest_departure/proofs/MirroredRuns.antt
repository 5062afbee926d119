-- Mirrored runs are rising runs again, and have the mirrored minutes.
use Rattle.std.proofs.Common.{◌≡◌, ⊎_elim, ℕ, ◌+◌, ◌-◌, ◌≤◌, ◌<◌, ◌||◌, Bool, true, false, if◌then◌else◌, nat_lt, List, [], ◌∷◌, length, All}
use Rattle.std.proofs.Common.{AllPairs, refl, sym, ◌∙◌, ap, arith}
use Rattle.std.proofs.lemmas.Bool.{cases_lt, lt-ltb, le-ltb}
use Rattle.std.proofs.lemmas.List.Elements.{All-append, All-cons, All-nil, All-tail}
use Rattle.std.proofs.lemmas.List.Folds.{list_any-append}
use Rattle.route_base.specs.Runs.{has_minute, any_has, AreRuns}
use Rattle.route_base.specs.declared.types.Run.{Run}
use Rattle.route_base.proofs.Lists.{pairs_append}
use Rattle.route_base.proofs.FirstRuns.{minute_within, within_run, runs_tail, behind_first}
use Rattle.route_base.proofs.Logic.{or-false, same_from}
use Rattle.latest_departure.specs.Inside.Mirror.{mirrored_run, mirrored_runs}

or_turned : (a b : Bool) → (a || b) ≡ (b || a)
or_turned true true = refl
or_turned true false = refl
or_turned false true = refl
or_turned false false = refl

-- the run, where it begins before the sum
kept : ℕ → Run → List Run
kept sum r = if nat_lt r.lo sum then mirrored_run sum r ∷ [] else []

kept_early : (sum : ℕ) (r : Run) → r.lo < sum → kept sum r ≡ mirrored_run sum r ∷ []
unfolding kept
kept_early sum r early = rw (lt-ltb r.lo sum early) refl

kept_late : (sum : ℕ) (r : Run) → sum ≤ r.lo → kept sum r ≡ []
unfolding kept
kept_late sum r late = rw (le-ltb r.lo sum late) refl

module _ (sum t u : ℕ) (mirror : t + u + 1 ≡ sum) where
  minute_mirrors : (r : Run) → r.lo < sum → has_minute t (mirrored_run sum r) ≡ has_minute u r
  minute_mirrors r early = same_from _ _
      (λ has. let h = minute_within t (mirrored_run sum r) has in within_run r u (omega (arith, h.1, mirror)) (omega (arith, h.0, h.1, mirror)))
      (λ has. let h = minute_within u r has in within_run (mirrored_run sum r) t (omega (arith, h.1, mirror)) (omega (arith, h.0, mirror)))

  late_has_none : (r : Run) → sum ≤ r.lo → has_minute u r ≡ false
  late_has_none r late = same_from _ _ (λ has. let h = minute_within u r has in absurd (omega (arith, h.0, late, mirror))) (λ no. absurd (cc))

  kept_mirrors : (r : Run) → any_has (kept sum r) t ≡ has_minute u r
  kept_mirrors r = ⊎_elim
      (λ (early : r.lo < sum). ap (λ (w : List Run). any_has w t) (kept_early sum r early) ∙ or-false (has_minute t (mirrored_run sum r))
      ∙ minute_mirrors r early)
      (λ (late : sum ≤ r.lo). ap (λ (w : List Run). any_has w t) (kept_late sum r late) ∙ sym (late_has_none r late))
      (cases_lt r.lo sum)

  -- the mirrored runs have the mirrored minutes
  pub runs_mirror : (runs : List Run) → any_has (mirrored_runs sum runs) t ≡ any_has runs u
  unfolding kept
  runs_mirror [] = refl
  runs_mirror (r ∷ rs) =
      list_any-append (has_minute t) (mirrored_runs sum rs) (kept sum r)
      ∙ ap (λ (b : Bool). b || any_has (kept sum r) t) (runs_mirror rs)
      ∙ ap (λ (b : Bool). any_has rs u || b) (kept_mirrors r)
      ∙ or_turned (any_has rs u) (has_minute u r)

kept_all : (P : Run → Type 0) (sum : ℕ) (r : Run) → (r.lo < sum → P (mirrored_run sum r)) → All P (kept sum r)
kept_all P sum r holds = ⊎_elim
    (λ (early : r.lo < sum). rw (kept_early sum r early) (All-cons P (mirrored_run sum r) [] (holds early) (All-nil P)))
    (λ (late : sum ≤ r.lo). rw (kept_late sum r late) (All-nil P))
    (cases_lt r.lo sum)

mirrored_all : (P : Run → Type 0) (sum : ℕ) (runs : List Run) → All (λ r. r.lo < sum → P (mirrored_run sum r)) runs → All P (mirrored_runs sum runs)
unfolding kept
mirrored_all P sum [] each = All-nil P
mirrored_all P sum (r ∷ rs) each = All-append P (mirrored_runs sum rs) (kept sum r)
    (mirrored_all P sum rs (All-tail (λ q. q.lo < sum → P (mirrored_run sum q)) r rs each))
    (kept_all P sum r (each 0 r (omega arith)))

one_apart : (sum : ℕ) (r : Run) → AllPairs (λ p q. p.hi < q.lo) (kept sum r)
one_apart sum r i j d lt within = absurd (omega (arith, lt, within, short))
  where
    short : length (kept sum r) ≤ 1
    short = ⊎_elim
        (λ (early : r.lo < sum). rw (kept_early sum r early) (omega arith))
        (λ (late : sum ≤ r.lo). rw (kept_late sum r late) (omega arith))
        (cases_lt r.lo sum)

runs_apart : (sum : ℕ) (runs : List Run) → AreRuns runs → AllPairs (λ p q. p.hi < q.lo) (mirrored_runs sum runs)
unfolding kept
runs_apart sum [] are = λ i j d lt within. absurd (omega (arith, lt, within))
runs_apart sum (r ∷ rs) are = pairs_append (λ p q. p.hi < q.lo) (mirrored_runs sum rs) (kept sum r)
    (runs_apart sum rs (runs_tail r rs are))
    (one_apart sum r)
    (kept_all (λ y. All (λ x. x.hi < y.lo) (mirrored_runs sum rs)) sum r (λ early.
    mirrored_all (λ x. x.hi < sum - r.hi) sum rs (λ k d within before. (let far = behind_first r rs are k d within in omega (arith, before, far)))))

-- the mirrored runs are rising and apart
pub runs_rise : (sum : ℕ) (runs : List Run) → AreRuns runs → AreRuns (mirrored_runs sum runs)
runs_rise sum runs are = record {
  filled = mirrored_all (λ r. r.lo < r.hi) sum runs (λ k d within early. omega (arith, early, are.filled k d within));
  apart = runs_apart sum runs are;
}
