-- The texts of an instant are read as it, and no others.
use Rattle.std.proofs.Common.{◌≡◌, ◌⊎◌, inl, inr, ℕ, ◌+◌, ◌*◌, ◌/◌, ◌%◌, ◌<◌, ◌≤◌, Option, Some, None, List, ◌++◌, take}
use Rattle.std.proofs.Common.{drop, refl, sym, ap, ◌∙◌, arith}
use Rattle.std.specs.Prelude.{codes, option_and_then, Result, Ok, Err, IfOk}
use Rattle.std.specs.Option.{option_or}
use Rattle.std.specs.Result.{result_ok}
use Rattle.std.proofs.lemmas.Bool.{le-leb}
use Rattle.std.proofs.lemmas.List.{take-append-drop}
use Rattle.std.proofs.lemmas.Option.{same_Some}
use Rattle.route_base.specs.Forms.{minute_of, is_from_to}
use Rattle.route_base.specs.Time.{first_instant, last_instant, IsInstant}
use Rattle.route_base.proofs.Logic.{behind_test, then_some}
use Rattle.calendar_days.specs.Days.{date_on}
use Rattle.calendar_days.specs.Texts.{day_of_text, clock_of, in_range, dated_minute_of, instant_of, date_text_of}
use Rattle.calendar_days.specs.Texts.{clock_text_of, minute_text_of, instant_text_of, IsTextOf}
use Rattle.calendar_days.proofs.DayNumbers.{date_on-is, year-small, proper-is_date}
use Rattle.calendar_days.proofs.DigitForms.{dashed_no_number}
use Rattle.calendar_days.proofs.TextForms.{date_text-read, date_text-only, clock_text-read, clock_text-only}
use Rattle.calendar_days.proofs.MinuteForms.{minute-read, minute-only}

pub day_text-read : (n : ℕ) → n ≤ 84370 → day_of_text (date_text_of (date_on n)) ≡ Some n
day_text-read n small =
    let on = date_on-is n in
    let early = year-small (date_on n) on.0 (omega (arith, on.1, small)) in
    date_text-read (date_on n) (proper-is_date (date_on n) on.0 early) ∙ ap (λ k. Some k) on.1

in_range-is : (t k : ℕ) → IsInstant t → k ≡ t → in_range k ≡ Some t
in_range-is t k h e = rw (e, le-leb first_instant t h.0, le-leb t last_instant h.1) refl

no_minute : (t : ℕ) (end : List ℕ) → minute_of (minute_text_of t ++ end) ≡ None
no_minute t end = rw dashed_no_number refl

pub dated-read : (t : ℕ) (end : List ℕ) → IsInstant t → (end ≡ codes "Z") ⊎ (end ≡ codes ":00Z") → instant_of (minute_text_of t ++ end) ≡ Some t
unfolding instant_of
dated-read t end h ends =
    rw (no_minute t end) (rw (
      day_text-read (t / 1440) (omega (arith, h.1)),
      clock_text-read (t % 1440) end
          (omega arith) ends,
    ) (in_range-is t (1440 * (t / 1440) + t % 1440) h (omega arith)))

joined : (text day clock end : List ℕ) → take 10 text ≡ day → drop 10 text ≡ clock ++ end → text ≡ day ++ (clock ++ end)
joined text day clock end is_day is_clock = sym (take-append-drop 10 text) ∙ rw (is_day, is_clock) refl

dated-only : (text : List ℕ) (t : ℕ) → dated_minute_of text ≡ Some t → (text ≡ instant_text_of t) ⊎ (text ≡ minute_text_of t ++ codes ":00Z")
unfolding instant_text_of
dated-only text t e =
    let day = then_some (day_of_text (take 10 text)) (λ day. option_and_then (λ n. in_range (1440 * day + n)) (clock_of (drop 10 text))) t e in
    let clock = then_some (clock_of (drop 10 text)) (λ n. in_range (1440 * day.0 + n)) t day.2 in
    let inside = behind_test (is_from_to first_instant last_instant (1440 * day.0 + clock.0)) (Some (1440 * day.0 + clock.0)) t clock.2 in
    split text t day.0 clock.0 (same_Some (1440 * day.0 + clock.0) t inside.1) (date_text-only (take 10 text) day.0 day.1)
    (clock_text-only (drop 10 text) clock.0 clock.1)
  where
    split : (text : List ℕ) (t d n : ℕ) → 1440 * d + n ≡ t → (d ≤ 84370) × (take 10 text ≡ date_text_of (date_on d))
        → (n < 1440) × ((drop 10 text ≡ clock_text_of n ++ codes "Z") ⊎ (drop 10 text ≡ clock_text_of n ++ codes ":00Z"))
        → (text ≡ minute_text_of t ++ codes "Z") ⊎ (text ≡ minute_text_of t ++ codes ":00Z")
    split text t d n value day clock =
        let is_d : d ≡ t / 1440 = omega (arith, value, clock.0) in
        let is_n : n ≡ t % 1440 = omega (arith, value, clock.0) in
        elim clock.1 [
          | inl z ↦ inl (joined text (date_text_of (date_on (t / 1440))) (clock_text_of (t % 1440)) (codes "Z") (day.1
              ∙ ap (λ k. date_text_of (date_on k)) is_d) (z ∙ ap (λ k. clock_text_of k ++ codes "Z") is_n))
          | inr z ↦ inr (joined text (date_text_of (date_on (t / 1440))) (clock_text_of (t % 1440)) (codes ":00Z") (day.1
              ∙ ap (λ k. date_text_of (date_on k)) is_d) (z ∙ ap (λ k. clock_text_of k ++ codes ":00Z") is_n))
        ]

either : (a b : Option ℕ) (t : ℕ) → option_or a b ≡ Some t → (a ≡ Some t) ⊎ (b ≡ Some t)
either None b t e = inr e
either (Some x) b t e = inl e

pub instant-only : (text : List ℕ) (t : ℕ) → instant_of text ≡ Some t → IsTextOf t text
unfolding instant_of
instant-only text t e =
    elim (either (minute_of text) (dated_minute_of text) t e) [
      | inl is ↦ inr (inr (minute-only text t is))
      | inr is ↦ elim (dated-only text t is) [ inl z ↦ inl z | inr z ↦ inr (inl z) ]
    ]

pub instant-read : (text : List ℕ) (t : ℕ) → IsInstant t → IsTextOf t text → instant_of text ≡ Some t
unfolding instant_of instant_text_of
instant-read text t h (inl z) = ap instant_of z ∙ dated-read t (codes "Z") h (inl refl)
instant-read text t h (inr (inl z)) = ap instant_of z ∙ dated-read t (codes ":00Z") h (inr refl)
instant-read text t h (inr (inr z)) = ap instant_of z ∙ rw (minute-read t h) refl

-- the answer of a reader that meets the definitions
pub reads_instant : {E : Type 0} (r : Result ℕ E) (text : List ℕ) → result_ok r ≡ instant_of text → IfOk r (λ t. IsTextOf t text)
reads_instant (Ok t) text e = instant-only text t (sym e)
reads_instant (Err f) text e = tt

pub finds_instant : {E : Type 0} (r : Result ℕ E) (text : List ℕ) → result_ok r ≡ instant_of text → (t : ℕ) → IsInstant t → IsTextOf t text → r ≡ Ok t
finds_instant (Ok k) text e t h is = ap (λ w. Ok w) (same_Some k t (e ∙ instant-read text t h is))
finds_instant (Err f) text e t h is = let wrong = e ∙ instant-read text t h is in absurd (cc)

pub reads_date : {E : Type 0} (r : Result ℕ E) (text : List ℕ) → result_ok r ≡ day_of_text text → IfOk r (λ n. text ≡ date_text_of (date_on n))
reads_date (Ok n) text e = (date_text-only text n (sym e)).1
reads_date (Err f) text e = tt

pub finds_date : {E : Type 0} (r : Result ℕ E) (text : List ℕ) → result_ok r ≡ day_of_text text → (n : ℕ) → n ≤ 84370
    → text ≡ date_text_of (date_on n) → r ≡ Ok n
finds_date (Ok k) text e n h is = ap (λ w. Ok w) (same_Some k n (e ∙ ap day_of_text is ∙ day_text-read n h))
finds_date (Err f) text e n h is = let wrong = e ∙ ap day_of_text is ∙ day_text-read n h in absurd (cc)
