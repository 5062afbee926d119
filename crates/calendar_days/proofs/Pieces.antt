-- The pieces of texts of dates and clocks.
use Rattle.std.proofs.Common.{◌≡◌, ℕ, ◌<◌, ◌≤◌, ◌&&◌, ◌||◌, cond, None, List, [], ◌∷◌, length, get_or, take, drop, refl, arith}
use Rattle.std.specs.Prelude.{codes, bytes_eq, option_and_then}
use Rattle.route_base.specs.Digits.{number_of}
use Rattle.calendar_days.specs.Texts.{day_of_text, clock_of, minute_of_day}

-- a text of another length than ten bytes says no day
pub no_day : (text : List ℕ) → (length text ≡ 10 → ⊥) → day_of_text text ≡ None
unfolding day_of_text
no_day [] other = refl
no_day (a ∷ []) other = refl
no_day (a ∷ b ∷ []) other = refl
no_day (a ∷ b ∷ c ∷ []) other = refl
no_day (a ∷ b ∷ c ∷ d ∷ []) other = refl
no_day (a ∷ b ∷ c ∷ d ∷ e ∷ []) other = refl
no_day (a ∷ b ∷ c ∷ d ∷ e ∷ f ∷ []) other = refl
no_day (a ∷ b ∷ c ∷ d ∷ e ∷ f ∷ g ∷ []) other = refl
no_day (a ∷ b ∷ c ∷ d ∷ e ∷ f ∷ g ∷ h ∷ []) other = refl
no_day (a ∷ b ∷ c ∷ d ∷ e ∷ f ∷ g ∷ h ∷ i ∷ []) other = refl
no_day (a ∷ b ∷ c ∷ d ∷ e ∷ f ∷ g ∷ h ∷ i ∷ j ∷ []) other = absurd (other refl)
no_day (a ∷ b ∷ c ∷ d ∷ e ∷ f ∷ g ∷ h ∷ i ∷ j ∷ k ∷ text) other = refl

pub short_no_day : (text : List ℕ) → length text < 10 → day_of_text (take 10 text) ≡ None
short_no_day text h = let same : take 10 text ≡ text = grind arith in rw same (no_day text (λ ten. omega (arith, h, ten)))

-- a clock by its first six bytes and what follows them
pub clock_by_place : (text : List ℕ) → 6 ≤ length text → clock_of text ≡
    cond (bytes_eq (get_or text 0 0 ∷ get_or text 3 0 ∷ []) (codes "T:") &&
    (bytes_eq (drop 6 text) (codes "Z") || bytes_eq (drop 6 text) (codes ":00Z")))
    (option_and_then (λ h. option_and_then (λ n. minute_of_day h n) (number_of (get_or text 4 0 ∷ get_or text 5 0 ∷ [])))
    (number_of (get_or text 1 0 ∷ get_or text 2 0 ∷ [])))
    None
unfolding clock_of
clock_by_place [] h = absurd (omega arith)
clock_by_place (a ∷ []) h = absurd (omega arith)
clock_by_place (a ∷ b ∷ []) h = absurd (omega arith)
clock_by_place (a ∷ b ∷ c ∷ []) h = absurd (omega arith)
clock_by_place (a ∷ b ∷ c ∷ d ∷ []) h = absurd (omega arith)
clock_by_place (a ∷ b ∷ c ∷ d ∷ e ∷ []) h = absurd (omega arith)
clock_by_place (a ∷ b ∷ c ∷ d ∷ e ∷ f ∷ text) h = refl

pub no_clock : (text : List ℕ) → length text < 6 → clock_of text ≡ None
unfolding clock_of
no_clock [] h = refl
no_clock (a ∷ []) h = refl
no_clock (a ∷ b ∷ []) h = refl
no_clock (a ∷ b ∷ c ∷ []) h = refl
no_clock (a ∷ b ∷ c ∷ d ∷ []) h = refl
no_clock (a ∷ b ∷ c ∷ d ∷ e ∷ []) h = refl
no_clock (a ∷ b ∷ c ∷ d ∷ e ∷ f ∷ text) h = absurd (omega arith)
