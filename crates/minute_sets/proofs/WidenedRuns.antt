-- Runs of which one is widened in its place.
use Rattle.std.proofs.Common.{◌≡◌, ℕ, ◌+◌, ◌<◌, zero, suc, List, [], ◌∷◌, set, length, get_or, ap, arith}
use Rattle.std.specs.List.{AllWithin}
use Rattle.std.proofs.lemmas.List.Elements.{All-set}
use Rattle.route_base.specs.Runs.{AreRuns}
use Rattle.route_base.specs.declared.types.Run.{Run}
use Rattle.route_base.proofs.FirstRuns.{runs_tail, runs_head, behind_first}
use Rattle.minute_sets.proofs.AddedRuns.{runs_cons, begin_late}

-- those before it end before it begins, and the next one begins behind it
pub widened_runs : (rs : List Run) (k : ℕ) (run : Run) → AreRuns rs → k < length rs → run.lo < run.hi → AllWithin (λ r. r.hi < run.lo) rs 0 k
    → ((d : Run) → k + 1 < length rs → run.hi < (get_or rs (k + 1) d).lo) → AreRuns (set rs k run)
widened_runs [] k run are some filled early next = absurd (omega (arith, some))
widened_runs (r ∷ rs) zero run are some filled early next =
    runs_cons run rs filled
    (λ j d within. (let behind = next d (omega (arith, within)) in let late = begin_late rs d (runs_tail r rs are) j d within in omega (arith, behind, late)))
    (runs_tail r rs are)
widened_runs (r ∷ rs) (suc k) run are some filled early next =
    runs_cons r (set rs k run) (runs_head r rs are)
    (All-set (λ q. r.hi < q.lo) rs k run (early 0 r (omega arith) (omega arith)) (behind_first r rs are))
    (widened_runs rs k run (runs_tail r rs are) (omega (arith, some)) filled
    (λ j d from upto. early (suc j) d (omega arith) (omega (arith, upto)))
    (λ d within. (let behind = next d (omega (arith, within)) in let place : suc k + 1 ≡ suc (k + 1) = omega arith in
    omega (arith, behind, ap (λ (n : ℕ). (get_or (r ∷ rs) n d).lo) place))))
