-- Rows without a fault that take one row more.
use Rattle.std.proofs.Common.{◌≡◌, ℕ, zero, suc, ◌+◌, ◌<◌, true, Option, None, List, [], ◌∷◌, ◌++◌, length, refl, sym}
use Rattle.std.proofs.Common.{◌∙◌, ap, subst, length-append, arith}
use Rattle.std.specs.List.{filter_map, range_with_len, slice_get, last_or, cons_option}
use Rattle.std.specs.Option.{option_and_then}
use Rattle.route_base.proofs.Items.{slice_get-append_left, slice_get-push_end, last_or-cons}
use Rattle.zone_rules.specs.Zones.{is_offset, is_later, row_fault, row_before, fault_at, zone_fault_of}
use Rattle.zone_rules.specs.declared.rows.ZoneRow.{ZoneRow}
use Rattle.zone_rules.proofs.FirstFaults.{IsFaultlessBefore, no_fault, faultless_more}
use Rattle.zone_rules.proofs.SoundZones.{faultless_at}

nothing_from : {A : Type 0} (h : ℕ → Option A) (a n : ℕ) → ((i : ℕ) → i < n → h (a + i) ≡ None) → filter_map h (range_with_len a n) ≡ []
nothing_from h a zero none = refl
nothing_from {A} h a (suc n) none =
    let same : a + 0 ≡ a = omega arith in
    let here : h a ≡ None = ap h (sym same) ∙ none 0 (omega arith) in
    ap (λ (o : Option A). cons_option o (filter_map h (range_with_len (a + 1) n))) here
    ∙ nothing_from h (a + 1) n (λ i w. (let next : a + 1 + i ≡ a + suc i = omega arith in ap h next ∙ none (suc i) (omega arith)))

-- the row before one that follows is the last one
last_before : (rows : List ZoneRow) (row : ZoneRow) → row_before (rows ++ row ∷ []) (length rows) ≡ last_or None rows
last_before [] row = refl
last_before (first ∷ rows) row = slice_get-append_left (first ∷ rows) (row ∷ []) (length rows) (omega arith) ∙ sym (last_or-cons None first rows)

before_front : (rows more : List ZoneRow) (i : ℕ) → i < length rows → row_before (rows ++ more) i ≡ row_before rows i
before_front rows more zero h = refl
before_front rows more (suc i) h = slice_get-append_left rows more i (omega arith)

fault_front : (rows more : List ZoneRow) (i : ℕ) → i < length rows → fault_at (rows ++ more) i ≡ fault_at rows i
fault_front rows more i h =
    ap (λ (o : Option ZoneRow). option_and_then (row_fault i (row_before (rows ++ more) i)) o) (slice_get-append_left rows more i h)
    ∙ ap (λ (before : Option ZoneRow). option_and_then (row_fault i before) (slice_get rows i)) (before_front rows more i h)

good_row : (i : ℕ) (before : Option ZoneRow) (row : ZoneRow) → is_offset row.offset ≡ true → is_later before row ≡ true
    → row_fault i before row ≡ None
good_row i before row near later = rw (near, later) refl

fault_behind : (rows : List ZoneRow) (row : ZoneRow) → is_offset row.offset ≡ true → is_later (last_or None rows) row ≡ true
    → fault_at (rows ++ row ∷ []) (length rows) ≡ None
fault_behind rows row near later =
    let i = length rows in
    ap (λ (o : Option ZoneRow). option_and_then (row_fault i (row_before (rows ++ row ∷ []) i)) o) (slice_get-push_end rows row)
    ∙ ap (λ (before : Option ZoneRow). row_fault i before row) (last_before rows row)
    ∙ good_row i (last_or None rows) row near later

faultless_with : (rows : List ZoneRow) (row : ZoneRow) → ((i : ℕ) → i < length rows → fault_at rows i ≡ None)
    → is_offset row.offset ≡ true → is_later (last_or None rows) row ≡ true → zone_fault_of (rows ++ row ∷ []) ≡ None
faultless_with rows row none near later =
    let all = rows ++ row ∷ [] in
    let long : length rows + 1 ≡ length all = sym (length-append rows (row ∷ [])) in
    let front : IsFaultlessBefore all (length rows) =
    nothing_from (fault_at all) 0 (length rows)
    (λ i w. (let same : 0 + i ≡ i = omega arith in ap (fault_at all) same ∙ fault_front rows (row ∷ []) i w ∙ none i w)) in
    no_fault all (omega arith) (subst (IsFaultlessBefore all) long (faultless_more all (length rows) front (fault_behind rows row near later)))

-- a row of a good offset that starts after the last
pub faultless_grown : (rows : List ZoneRow) (row : ZoneRow) → zone_fault_of rows ≡ None → is_offset row.offset ≡ true
    → is_later (last_or None rows) row ≡ true → zone_fault_of (rows ++ row ∷ []) ≡ None
faultless_grown rows row faultless near later = faultless_with rows row (faultless_at rows faultless) near later

-- one row of a good offset
pub faultless_one : (row : ZoneRow) → is_offset row.offset ≡ true → zone_fault_of (row ∷ []) ≡ None
faultless_one row near = faultless_with [] row (λ i w. absurd (omega arith)) near refl
