-- The lists of closed runs of layers, and the last minutes of layers.
use Rattle.std.proofs.Common.{◌≡◌, ⊎_elim, ℕ, zero, suc, ◌+◌, ◌-◌, ◌*◌, ◌≤◌, ◌<◌, ◌||◌, Bool, min, Some, List, [], ◌∷◌, length, map}
use Rattle.std.proofs.Common.{get_or, All, refl, sym, ◌∙◌, ap, subst, arith, length-append, false, true}
use Rattle.std.specs.Prelude.{slice_get, unwrap_or}
use Rattle.std.proofs.lemmas.Bool.{cases_lt, lt-ltb, le-ltb, le-leb, lt-leb, and_from, and_left, both_ways}
use Rattle.std.proofs.lemmas.List.{length-map}
use Rattle.std.proofs.lemmas.List.Elements.{All-append, All-cons, All-nil, All-map}
use Rattle.std.proofs.lemmas.List.Folds.{list_any_none}
use Rattle.std.proofs.lemmas.Nat.{mul-le}
use Rattle.route_base.proofs.FirstRuns.{runs_tail, runs_head, behind_first}
use Rattle.route_base.specs.Net.{at_number}
use Rattle.route_base.specs.Runs.{has_minute, any_has, AreRuns}
use Rattle.route_base.specs.declared.types.Run.{Run}
use Rattle.route_base.proofs.Lists.{pairs_append}
use Rattle.front_transport.proofs.ListPlaces.{list_kept, list_behind}
use Rattle.stop_tour.specs.Inside.Layers.{closed_from, runs_and_rest, last_minute, layered_lists}
use Rattle.stop_tour.specs.declared.stops.Stop.{Stop}
use Rattle.stop_tour.proofs.Windows.{or_none, or_first, or_second}

-- the rest of the time is closed, and no minute before it
before_rest : (late until t : ℕ) → t < late → any_has (closed_from late until) t ≡ false
before_rest late until t early = ⊎_elim
    (λ (some : late < until). rw (lt-ltb late until some) (or_none _ false (and_left _ _ (lt-leb late t early)) refl))
    (λ (none : until ≤ late). rw (le-ltb late until none) refl)
    (cases_lt late until)

in_rest : (late until t : ℕ) → late ≤ t → t < until → any_has (closed_from late until) t ≡ true
in_rest late until t low high = rw (lt-ltb late until (omega (arith, low, high)))
    (ap (λ (b : Bool). b || false) (and_from _ _ (le-leb late t low) (lt-ltb t until high)))

run_kept : (late until : ℕ) (run : Run) (runs : List Run) → run.hi < late → runs_and_rest late until (run ∷ runs) ≡ run ∷ runs_and_rest late until runs
run_kept late until run runs early = rw (lt-ltb run.hi late early) refl

run_cut : (late until : ℕ) (run : Run) (runs : List Run) → late ≤ run.hi → runs_and_rest late until (run ∷ runs) ≡ closed_from (min run.lo late) until
run_cut late until run runs far = rw (le-ltb run.hi late far) refl

-- what is open before the last minute stays open
pub open_before : (late until t : ℕ) (runs : List Run) → t < late → any_has runs t ≡ false → any_has (runs_and_rest late until runs) t ≡ false
open_before late until t [] early free = before_rest late until t early
open_before late until t (run ∷ runs) early free = ⊎_elim
    (λ (short : run.hi < late). ap (λ (w : List Run). any_has w t) (run_kept late until run runs short)
    ∙ or_none _ _ (or_first _ _ free) (open_before late until t runs early (or_second _ _ free)))
    (λ (far : late ≤ run.hi). ap (λ (w : List Run). any_has w t) (run_cut late until run runs far)
    ∙ before_rest (min run.lo late) until t (⊎_elim
    (λ (low : t < run.lo). omega (arith, low, early))
    (λ (high : run.lo ≤ t). absurd (both_ways (has_minute t run) (or_first _ _ free)
    (and_from _ _ (le-leb run.lo t high) (lt-ltb t run.hi (omega (arith, early, far))))))
    (cases_lt t run.lo)))
    (cases_lt run.hi late)

-- what is closed stays closed
pub closed_still : (late until t : ℕ) (runs : List Run) → AreRuns runs → t < until → any_has (runs_and_rest late until runs) t ≡ false → any_has runs t ≡ false
closed_still late until t [] rising in_time free = refl
closed_still late until t (run ∷ runs) rising in_time free = ⊎_elim
    (λ (short : run.hi < late).
    (let kept = ap (λ (w : List Run). any_has w t) (sym (run_kept late until run runs short)) ∙ free in
    or_none _ _ (or_first _ _ kept) (closed_still late until t runs (runs_tail run runs rising) in_time (or_second _ _ kept))))
    (λ (far : late ≤ run.hi).
    (let cut = ap (λ (w : List Run). any_has w t) (sym (run_cut late until run runs far)) ∙ free in
    let low : t < min run.lo late = ⊎_elim
    (λ (early : t < min run.lo late). early)
    (λ (later : min run.lo late ≤ t). absurd (both_ways _ cut (in_rest (min run.lo late) until t later in_time)))
    (cases_lt t (min run.lo late)) in
    or_none _ _ (and_left _ _ (lt-leb run.lo t (omega (arith, low))))
    (list_any_none (has_minute t) runs (λ k d within. and_left _ _ (lt-leb (get_or runs k d).lo t
    (omega (arith, low, runs_head run runs rising, behind_first run runs rising k d within)))))))
    (cases_lt run.hi late)

rest_filled : (late until : ℕ) → All (λ r. r.lo < r.hi) (closed_from late until)
rest_filled late until = ⊎_elim
    (λ (some : late < until). rw (lt-ltb late until some) (All-cons (λ r. r.lo < r.hi) (record { lo = late; hi = until }) [] some (All-nil (λ r. r.lo < r.hi))))
    (λ (none : until ≤ late). rw (le-ltb late until none) (All-nil (λ r. r.lo < r.hi)))
    (cases_lt late until)

rest_low : (b late until : ℕ) → b < late → All (λ q. b < q.lo) (closed_from late until)
rest_low b late until low = ⊎_elim
    (λ (some : late < until). rw (lt-ltb late until some) (All-cons (λ q. b < q.lo) (record { lo = late; hi = until }) [] low (All-nil (λ q. b < q.lo))))
    (λ (none : until ≤ late). rw (le-ltb late until none) (All-nil (λ q. b < q.lo)))
    (cases_lt late until)

rest_short : (late until : ℕ) → length (closed_from late until) ≤ 1
rest_short late until = ⊎_elim
    (λ (some : late < until). rw (lt-ltb late until some) (omega arith))
    (λ (none : until ≤ late). rw (le-ltb late until none) (omega arith))
    (cases_lt late until)

rest_runs : (late until : ℕ) → AreRuns (closed_from late until)
rest_runs late until = record {
  filled = rest_filled late until;
  apart = λ i j d lt within. absurd (omega (arith, lt, within, rest_short late until));
}

low_still : (b late until : ℕ) (runs : List Run) → b < late → All (λ q. b < q.lo) runs → All (λ q. b < q.lo) (runs_and_rest late until runs)
low_still b late until [] low all = rest_low b late until low
low_still b late until (run ∷ runs) low all = ⊎_elim
    (λ (short : run.hi < late). subst (All (λ q. b < q.lo)) (sym (run_kept late until run runs short))
    (All-cons (λ q. b < q.lo) run (runs_and_rest late until runs) (all zero run (omega arith))
    (low_still b late until runs low (λ k d within. all (suc k) d (omega (arith, within))))))
    (λ (far : late ≤ run.hi). subst (All (λ q. b < q.lo)) (sym (run_cut late until run runs far))
    (rest_low b (min run.lo late) until (omega (arith, low, all zero run (omega arith)))))
    (cases_lt run.hi late)

-- the runs with the rest are rising runs again
pub still_runs : (late until : ℕ) (runs : List Run) → AreRuns runs → AreRuns (runs_and_rest late until runs)
still_runs late until [] rising = rest_runs late until
still_runs late until (run ∷ runs) rising = ⊎_elim
    (λ (short : run.hi < late).
    (let more : AreRuns (runs_and_rest late until runs) = still_runs late until runs (runs_tail run runs rising) in
    let low : All (λ q. run.hi < q.lo) (runs_and_rest late until runs) = low_still run.hi late until runs short (behind_first run runs rising) in
    subst AreRuns (sym (run_kept late until run runs short)) (record {
      filled = All-cons (λ r. r.lo < r.hi) run (runs_and_rest late until runs) (runs_head run runs rising) more.filled;
      apart = pairs_append (λ p q. p.hi < q.lo) (run ∷ []) (runs_and_rest late until runs)
          (λ i j d lt within. absurd (omega (arith, lt, within))) more.apart
          (λ k d within. All-cons (λ x. x.hi < (get_or (runs_and_rest late until runs) k d).lo) run [] (low k d within)
          (All-nil (λ x. x.hi < (get_or (runs_and_rest late until runs) k d).lo)));
    })))
    (λ (far : late ≤ run.hi). subst AreRuns (sym (run_cut late until run runs far)) (rest_runs (min run.lo late) until))
    (cases_lt run.hi late)

-- the last minute of a layer is that of the next, within the window of the stop, less its service
pub last_next : (until : ℕ) (stops : List Stop) (i : ℕ) (stop : Stop) → at_number stops (suc i) ≡ Some stop
    → last_minute until stops i ≡ min stop.to (last_minute until stops (suc i)) - stop.service
last_next until [] i stop is = absurd (cc)
last_next until (x ∷ xs) zero stop is = ap (λ (w : Stop). min w.to (last_minute until xs zero) - w.service) (some_stop x stop is)
  where
    some_stop : (u w : Stop) → Some u ≡ Some w → u ≡ w
    some_stop u w same = cc
last_next until (x ∷ xs) (suc i) stop is = last_next until xs i stop is

pub last_end : (until : ℕ) (stops : List Stop) → last_minute until stops (length stops) ≡ until
last_end until [] = refl
last_end until (x ∷ xs) = last_end until xs

pub length_lists : (until : ℕ) (lists : List (List Run)) (stops : List Stop) → length (layered_lists until lists stops) ≡ suc (length stops) * length lists
length_lists until lists [] = omega arith
length_lists until lists (x ∷ xs) = omega (
  arith,
  length-append (layered_lists until lists xs) (map (runs_and_rest (last_minute until (x ∷ xs) zero) until) lists),
  length-map lists (runs_and_rest (last_minute until (x ∷ xs) zero) until),
  length_lists until lists xs,
)

-- a place in a block of lists is one of all blocks
pub place_fits : (d n lists k : ℕ) → d ≤ n → k < lists → d * lists + k < suc n * lists
place_fits d n lists k below within = omega (arith, within, mul-le (suc d) lists (suc n) lists (omega (arith, below)) (omega arith))

-- the runs in a layer of an arc with these runs
abbrev pub runs_in_layer : ℕ → List Stop → ℕ → List Run → List Run
runs_in_layer until [] j runs = runs
runs_in_layer until (x ∷ xs) zero runs = runs_and_rest (last_minute until (x ∷ xs) zero) until runs
runs_in_layer until (x ∷ xs) (suc j) runs = runs_in_layer until xs j runs

list_mapped : (f : List Run → List Run) (xss : List (List Run)) (k : ℕ) → k < length xss
    → unwrap_or (slice_get (map f xss) k) [] ≡ f (unwrap_or (slice_get xss k) [])
list_mapped f [] k within = absurd (omega (arith, within))
list_mapped f (xs ∷ xss) zero within = refl
list_mapped f (xs ∷ xss) (suc k) within = list_mapped f xss k (omega (arith, within))

pub list_in_layer : (until : ℕ) (lists : List (List Run)) (stops : List Stop) (j k : ℕ) → j ≤ length stops → k < length lists
    → unwrap_or (slice_get (layered_lists until lists stops) ((length stops - j) * length lists + k)) []
    ≡ runs_in_layer until stops j (unwrap_or (slice_get lists k) [])
list_in_layer until lists [] j k below within =
    let none : 0 - j ≡ 0 = omega arith in
    let place : (0 - j) * length lists + k ≡ k = ap (λ (n : ℕ). n * length lists + k) none ∙ omega arith in
    ap (λ (n : ℕ). unwrap_or (slice_get lists n) []) place
list_in_layer until lists (x ∷ xs) zero k below within =
    let all : length (x ∷ xs) - zero ≡ suc (length xs) = omega arith in
    let place : (length (x ∷ xs) - zero) * length lists + k ≡ length (layered_lists until lists xs) + k =
    ap (λ (n : ℕ). n * length lists + k) all ∙ ap (λ (n : ℕ). n + k) (sym (length_lists until lists xs)) in
    ap (λ (n : ℕ). unwrap_or (slice_get (layered_lists until lists (x ∷ xs)) n) []) place
    ∙ list_behind (layered_lists until lists xs) (map (runs_and_rest (last_minute until (x ∷ xs) zero) until) lists) k
    ∙ list_mapped (runs_and_rest (last_minute until (x ∷ xs) zero) until) lists k within
list_in_layer until lists (x ∷ xs) (suc j) k below within =
    let less : length (x ∷ xs) - suc j ≡ length xs - j = omega arith in
    let fewer : length xs - j ≤ length xs = omega arith in
    ap (λ (n : ℕ). unwrap_or (slice_get (layered_lists until lists (x ∷ xs)) (n * length lists + k)) []) less
    ∙ list_kept (layered_lists until lists xs) (map (runs_and_rest (last_minute until (x ∷ xs) zero) until) lists) ((length xs - j) * length lists + k)
    (subst (λ (n : ℕ). (length xs - j) * length lists + k < n) (sym (length_lists until lists xs))
    (place_fits (length xs - j) (length xs) (length lists) k fewer within))
    ∙ list_in_layer until lists xs j k (omega (arith, below)) within

-- the lists of the last layer come first
pub list_first : (until : ℕ) (lists : List (List Run)) (stops : List Stop) (k : ℕ) → k < length lists
    → unwrap_or (slice_get (layered_lists until lists stops) k) [] ≡ unwrap_or (slice_get lists k) []
list_first until lists [] k within = refl
list_first until lists (x ∷ xs) k within =
    list_kept (layered_lists until lists xs) (map (runs_and_rest (last_minute until (x ∷ xs) zero) until) lists) k
    (omega (arith, within, length_lists until lists xs))
    ∙ list_first until lists xs k within

pub open_in_layer : (until t : ℕ) (stops : List Stop) (j : ℕ) (runs : List Run) → t < last_minute until stops j → any_has runs t ≡ false
    → any_has (runs_in_layer until stops j runs) t ≡ false
open_in_layer until t [] j runs early free = free
open_in_layer until t (x ∷ xs) zero runs early free = open_before (last_minute until (x ∷ xs) zero) until t runs early free
open_in_layer until t (x ∷ xs) (suc j) runs early free = open_in_layer until t xs j runs early free

pub closed_in_layer : (until t : ℕ) (stops : List Stop) (j : ℕ) (runs : List Run) → AreRuns runs → t < until
    → any_has (runs_in_layer until stops j runs) t ≡ false → any_has runs t ≡ false
closed_in_layer until t [] j runs rising in_time free = free
closed_in_layer until t (x ∷ xs) zero runs rising in_time free = closed_still (last_minute until (x ∷ xs) zero) until t runs rising in_time free
closed_in_layer until t (x ∷ xs) (suc j) runs rising in_time free = closed_in_layer until t xs j runs rising in_time free

pub all_runs : (until : ℕ) (lists : List (List Run)) (stops : List Stop) → All AreRuns lists → All AreRuns (layered_lists until lists stops)
all_runs until lists [] each = each
all_runs until lists (x ∷ xs) each =
    All-append AreRuns (layered_lists until lists xs) (map (runs_and_rest (last_minute until (x ∷ xs) zero) until) lists) (all_runs until lists xs each)
    (All-map AreRuns (runs_and_rest (last_minute until (x ∷ xs) zero) until) lists
    (λ k d within. still_runs (last_minute until (x ∷ xs) zero) until (get_or lists k d) (each k d within)))
