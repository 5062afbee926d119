-- A service is within its window exactly where none of its minutes is outside.
use Rattle.std.proofs.Common.{◌≡◌, ⊎_elim, ℕ, ◌+◌, ◌-◌, ◌≤◌, ◌<◌, ◌||◌, Bool, true, false, if◌then◌else◌, nat_lt, List, [], ◌∷◌, refl, sym, ◌∙◌, ap, arith}
use Rattle.std.proofs.lemmas.Bool.{cases_lt, lt-ltb, le-ltb, le-leb, lt-leb, and_from, and_left, and_right, both_ways}
use Rattle.std.proofs.lemmas.List.Folds.{list_any-append}
use Rattle.route_base.specs.Runs.{has_minute, any_has}
use Rattle.route_base.specs.declared.types.Run.{Run}
use Rattle.stop_tour.specs.Inside.Layers.{outside}
use Rattle.stop_tour.specs.declared.stops.Stop.{Stop}

front : Stop → List Run
front stop = if nat_lt 0 stop.from then record { lo = 0; hi = stop.from } ∷ [] else []

behind : ℕ → Stop → List Run
behind until stop = if nat_lt stop.to until then record { lo = stop.to; hi = until } ∷ [] else []

pub or_none : (a b : Bool) → a ≡ false → b ≡ false → (a || b) ≡ false
or_none a b first second = ap (λ x. x || b) first ∙ second

pub or_first : (a b : Bool) → (a || b) ≡ false → a ≡ false
or_first false b is = refl
or_first true b is = is

pub or_second : (a b : Bool) → (a || b) ≡ false → b ≡ false
or_second false b is = is
or_second true b is = absurd (both_ways true is refl)

module _ (until : ℕ) (stop : Stop) (t : ℕ) where
  split : any_has (outside until stop) t ≡ (any_has (front stop) t || any_has (behind until stop) t)
  unfolding front behind
  split = list_any-append (has_minute t) (front stop) (behind until stop)

  in_front : t < stop.from → any_has (front stop) t ≡ true
  unfolding front
  in_front early = rw (lt-ltb 0 stop.from (omega (arith, early))) (ap (λ (b : Bool). b || false)
      (and_from _ _ (le-leb 0 t (omega arith)) (lt-ltb t stop.from early)))

  not_front : stop.from ≤ t → any_has (front stop) t ≡ false
  unfolding front
  not_front late = ⊎_elim
      (λ (some : 0 < stop.from). rw (lt-ltb 0 stop.from some) (or_none _ false (and_right _ _ (le-ltb t stop.from late)) refl))
      (λ (none : stop.from ≤ 0). rw (le-ltb 0 stop.from none) refl)
      (cases_lt 0 stop.from)

  is_behind : stop.to ≤ t → t < until → any_has (behind until stop) t ≡ true
  unfolding behind
  is_behind late early = rw (lt-ltb stop.to until (omega (arith, late, early)))
      (ap (λ (b : Bool). b || false) (and_from _ _ (le-leb stop.to t late) (lt-ltb t until early)))

  not_behind : t < stop.to → any_has (behind until stop) t ≡ false
  unfolding behind
  not_behind early = ⊎_elim
      (λ (some : stop.to < until). rw (lt-ltb stop.to until some) (or_none _ false (and_left _ _ (lt-leb stop.to t early)) refl))
      (λ (none : until ≤ stop.to). rw (le-ltb stop.to until none) refl)
      (cases_lt stop.to until)

  pub open_within : stop.from ≤ t → t < stop.to → any_has (outside until stop) t ≡ false
  open_within late early = split ∙ or_none _ _ (not_front late) (not_behind early)

  pub from_open : any_has (outside until stop) t ≡ false → stop.from ≤ t
  from_open free = ⊎_elim
      (λ (early : t < stop.from). absurd (both_ways (any_has (front stop) t) (or_first _ _ (sym split ∙ free)) (in_front early)))
      (λ (late : stop.from ≤ t). late)
      (cases_lt t stop.from)

  pub to_open : any_has (outside until stop) t ≡ false → t < until → t < stop.to
  to_open free in_time = ⊎_elim
      (λ (early : t < stop.to). early)
      (λ (late : stop.to ≤ t). absurd (both_ways (any_has (behind until stop) t) (or_second _ _ (sym split ∙ free)) (is_behind late in_time)))
      (cases_lt t stop.to)

-- a service whose minutes are all open, and that ends by the horizon, is within its window
pub within_window : (until : ℕ) (stop : Stop) (t minutes : ℕ) → 1 ≤ minutes → t + minutes ≤ until
    → ((u : ℕ) → t ≤ u → u < t + minutes → any_has (outside until stop) u ≡ false) → (stop.from ≤ t) × (t + minutes ≤ stop.to)
within_window until stop t minutes some in_time free =
    let last = t + minutes - 1 in
    let late : last < stop.to = to_open until stop last (free last (omega (arith, some)) (omega (arith, some))) (omega (arith, some, in_time)) in
    (from_open until stop t (free t (omega arith) (omega (arith, some))), omega (arith, late, some))
