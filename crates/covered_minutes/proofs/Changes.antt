-- The row of a zone that is in force, as rows are passed over.
use Rattle.std.proofs.Common.{◌≡◌, ℕ, ◌≤◌, ◌<◌, ◌&&◌, ◌||◌, ⊎_elim, pos, ◌+ℤ◌, unsigned_abs, true, false, leb, ltb}
use Rattle.std.proofs.Common.{Some, List, [], ◌∷◌, zero, suc, length, get_or, All, AllPairs, refl, ap, map, arith}
use Rattle.std.specs.List.{last_or}
use Rattle.std.proofs.lemmas.Bool.{lt-leb, le-leb, cases_Bool}
use Rattle.std.proofs.lemmas.Bool.Decides.{nat_tests}
use Rattle.std.proofs.lemmas.List.Elements.{All-head, All-tail}
use Rattle.std.proofs.lemmas.List.{get_or-map, length-map}
use Rattle.std.proofs.lemmas.List.Kept.{AllPairs-from_increasing}
use Rattle.opening_hours.specs.Holidays.{HolidayLists}
use Rattle.opening_hours.specs.declared.types.HoursRule.{HoursRule}
use Rattle.zone_rules.specs.Zones.{IsZone, row_at, started}
use Rattle.zone_rules.specs.declared.rows.ZoneRow.{ZoneRow}
use Rattle.covered_minutes.specs.Coverage.{covered_at}
use Rattle.covered_minutes.specs.LocalDays.{local_covered}

none_started : (rows : List ZoneRow) (t : ℕ) → All (λ q. t < q.start) rows → started rows t ≡ []
none_started [] t late = refl
none_started (row ∷ rows) t late =
    let here : leb row.start t ≡ false = lt-leb row.start t (All-head (λ q. t < q.start) row rows late) in
    rw here (none_started rows t (All-tail (λ q. t < q.start) row rows late))

pub first_counts : (row : ZoneRow) (rest : List ZoneRow) (t : ℕ) → All (λ q. t < q.start) rest → row_at (row ∷ rest) t ≡ Some row
first_counts row rest t late =
    ⊎_elim
    (λ (h : leb row.start t ≡ true). rw h (ap (last_or (Some row)) (none_started rest t late)))
    (λ (h : leb row.start t ≡ false). rw h (ap (last_or (Some row)) (none_started rest t late)))
    (cases_Bool (leb row.start t))

pub others_count : (row : ZoneRow) (rest : List ZoneRow) (t : ℕ) (d : ZoneRow) → 0 < length rest → (get_or rest 0 d).start ≤ t
    → row_at (row ∷ rest) t ≡ row_at rest t
others_count row [] t d some early = absurd (omega (arith, some))
others_count row (next ∷ rest) t d some early =
    let here : leb next.start t ≡ true = le-leb next.start t early in
    ⊎_elim
    (λ (h : leb row.start t ≡ true). rw (h, here) refl)
    (λ (h : leb row.start t ≡ false). rw (h, here) refl)
    (cases_Bool (leb row.start t))

pub rows_tail : (row : ZoneRow) (rows : List ZoneRow) → AllPairs (λ p q. p.start < q.start) (row ∷ rows)
    → AllPairs (λ p q. p.start < q.start) rows
rows_tail row rows rise = λ i j d lt within. rise (suc i) (suc j) d (omega (arith, lt)) (omega (arith, within))

-- a minute before the first start is before each
pub before_starts : (rows : List ZoneRow) (t : ℕ) → AllPairs (λ p q. p.start < q.start) rows
    → ((d : ZoneRow) → 0 < length rows → t < (get_or rows 0 d).start) → All (λ q. t < q.start) rows
before_starts rows t rise first zero d within = first d within
before_starts rows t rise first (suc k) d within = omega (arith, first d (omega (arith, within)), rise 0 (suc k) d (omega arith) within)

pub covered_by : (rules : List HoursRule) (holidays : HolidayLists) (rows : List ZoneRow) (row : ZoneRow) (t : ℕ) → row_at rows t ≡ Some row
    → local_covered rules holidays (unsigned_abs (pos t +ℤ row.offset)) ≡ covered_at rules holidays rows t
covered_by rules holidays rows row t is = rw is refl

-- minutes up to one, and on to a later one
pub both_parts : (lo from to t : ℕ) → lo ≤ from → from ≤ to → ((leb lo t && ltb t from) || (leb from t && ltb t to)) ≡ (leb lo t && ltb t to)
both_parts lo from to t a b = grind (arith, nat_tests)

pub no_minutes : (lo t : ℕ) → (leb lo t && ltb t lo) ≡ false
no_minutes lo t = grind (arith, nat_tests)

pub starts_increase : (rows : List ZoneRow) → IsZone rows → AllPairs (λ p q. p.start < q.start) rows
starts_increase rows zone i j d before within =
    let starts = map (λ r. r.start) rows in
    let long : j < length starts = omega (arith, within, length-map rows (λ r. r.start)) in
    let lower = get_or-map (λ r. r.start) rows i d 0 (omega (arith, before, within)) in
    let higher = get_or-map (λ r. r.start) rows j d 0 within in
    omega (arith, AllPairs-from_increasing starts zone.rising i j 0 before long, lower, higher)
