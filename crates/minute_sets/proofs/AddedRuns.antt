-- Runs that stay, and behind them the others with those of another set.
use Rattle.std.proofs.Common.{◌≡◌, ⊎_elim, ℕ, ◌+◌, ◌≤◌, ◌<◌, ◌||◌, true, false, zero, suc, List, [], ◌∷◌, ◌++◌, length, get_or, take, drop, All}
use Rattle.std.proofs.Common.{AllPairs, ◌∙◌, ap, sym, arith}
use Rattle.std.specs.List.{AllWithin}
use Rattle.std.proofs.lemmas.Bool.{cases_lt, cases_eq, both_ways, or_from}
use Rattle.std.proofs.lemmas.List.{get_or_default, get_or-take, get_or-drop, length-take-le, length-drop, take-append-drop}
use Rattle.std.proofs.lemmas.List.Elements.{All-append, All-cons, All-tail, All-take}
use Rattle.std.proofs.lemmas.List.Folds.{list_any-append, list_any_at}
use Rattle.route_base.specs.Runs.{has_minute, any_has, AreRuns}
use Rattle.route_base.specs.declared.types.Run.{Run}
use Rattle.minute_sets.proofs.MergedRuns.{or_assoc}
use Rattle.route_base.proofs.FirstRuns.{runs_tail, runs_head, behind_first, none_before, within_run}

-- a run before others that begin behind it
pub runs_cons : (r : Run) (rs : List Run) → r.lo < r.hi → All (λ q. r.hi < q.lo) rs → AreRuns rs → AreRuns (r ∷ rs)
runs_cons r rs filled rise are = record { filled = All-cons (λ q. q.lo < q.hi) r rs filled are.filled; apart = apart }
  where
    apart : AllPairs (λ p q. p.hi < q.lo) (r ∷ rs)
    apart i zero d lt within = absurd (omega (arith, lt))
    apart zero (suc j) d lt within = rise j d (omega (arith, within))
    apart (suc i) (suc j) d lt within = are.apart i j d (omega (arith, lt)) (omega (arith, within))

pub runs_append : (xs ys : List Run) → AreRuns xs → AreRuns ys → All (λ x. All (λ y. x.hi < y.lo) ys) xs → AreRuns (xs ++ ys)
runs_append [] ys first second across = second
runs_append (x ∷ xs) ys first second across =
    runs_cons x (xs ++ ys) (runs_head x xs first)
    (All-append (λ q. x.hi < q.lo) xs ys (behind_first x xs first) (across 0 x (omega arith)))
    (runs_append xs ys (runs_tail x xs first) second (All-tail (λ z. All (λ y. z.hi < y.lo) ys) x xs across))

module _ (held other both : List Run) (k : ℕ) (le : k ≤ length held) (are : AreRuns held) (made : AreRuns both)
    (early : AllWithin (λ r. All (λ q. r.hi < q.lo) other) held 0 k)
    (minutes : (t : ℕ) → any_has both t ≡ (any_has (drop k held) t || any_has other t)) where
  front_runs : AreRuns (take k held)
  front_runs = record {
    filled = All-take (λ r. r.lo < r.hi) k held are.filled;
    apart = λ i j d lt within.
        (let short : j < k = omega (arith, within, length-take-le k held le) in
        let far : (get_or held i d).hi < (get_or held j d).lo = are.apart i j d lt (omega (arith, short, le)) in
        rw (get_or-take k held i d (omega (arith, lt, short)), get_or-take k held j d short) far);
  }

  -- the minute at which a run of both begins is a minute of a later run or of the other set
  across : All (λ x. All (λ y. x.hi < y.lo) both) (take k held)
  across i d within j e inside =
      let lt : i < k = omega (arith, within, length-take-le k held le) in
      let x = get_or (take k held) i d in
      let y = get_or both j e in
      let same = ap (λ (r : Run). r.hi) (get_or-take k held i d lt) in
      ⊎_elim
      (λ (fine : x.hi < y.lo). fine)
      (λ (over : y.lo ≤ x.hi).
      let has : any_has both y.lo ≡ true = list_any_at (has_minute y.lo) both j e inside (within_run y y.lo (omega arith) (made.filled j e inside)) in
      let first : any_has (drop k held) y.lo ≡ false = none_before (drop k held) y.lo (λ m z low.
      (let far = are.apart i (k + m) z (omega (arith, lt)) (omega (arith, low, length-drop k held)) in
      let begin = ap (λ (r : Run). r.lo) (get_or-drop k held m z) in
      let end = ap (λ (r : Run). r.hi) (get_or_default held i d z (omega (arith, lt, le))) in
      omega (arith, far, begin, end, same, over))) in
      let second : any_has other y.lo ≡ false = none_before other y.lo (λ m z low.
      (let far = early i d (omega arith) lt m z low in omega (arith, far, same, over))) in
      absurd (both_ways (any_has both y.lo) (minutes y.lo ∙ or_from (any_has (drop k held) y.lo) (any_has other y.lo) first second) has))
      (cases_lt x.hi y.lo)

  pub added : AreRuns (take k held ++ both) × ((t : ℕ) → any_has (take k held ++ both) t ≡ (any_has held t || any_has other t))
  added = (
    runs_append (take k held) both front_runs made across,
    λ t.
        list_any-append (has_minute t) (take k held) both
        ∙ ap (λ b. any_has (take k held) t || b) (minutes t)
        ∙ or_assoc (any_has (take k held) t) (any_has (drop k held) t) (any_has other t)
        ∙ ap (λ b. b || any_has other t) (sym (list_any-append (has_minute t) (take k held) (drop k held)) ∙ ap (λ rs. any_has rs t) (take-append-drop k held)),
  )

-- no run begins before the first
pub begin_late : (rs : List Run) (d : Run) → AreRuns rs → All (λ r. (get_or rs 0 d).lo ≤ r.lo) rs
begin_late rs d are k e within =
    let same = ap (λ (r : Run). r.lo) (get_or_default rs 0 d e (omega (arith, within))) in
    ⊎_elim
    (λ (head : 0 ≡ k). omega (arith, same, ap (λ n. (get_or rs n e).lo) head))
    (λ (behind : 0 ≡ k → ⊥). (let far = are.apart 0 k e (omega (arith, behind)) within in let filled = are.filled 0 e (omega (arith, within)) in
    omega (arith, far, filled, same)))
    (cases_eq 0 k)

-- runs that end before the first of the others begins end before each of them
pub end_before : (held other : List Run) (k : ℕ) (d : Run) → AreRuns other → AllWithin (λ r. r.hi < (get_or other 0 d).lo) held 0 k
    → AllWithin (λ r. All (λ q. r.hi < q.lo) other) held 0 k
end_before held other k d are early i e from upto j f within =
    let end = early i e from upto in
    let late = begin_late other d are j f within in
    omega (arith, end, late)
