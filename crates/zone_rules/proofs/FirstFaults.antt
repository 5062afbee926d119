-- The least place whose row has a fault.
use Rattle.std.proofs.Common.{◌≡◌, ℕ, zero, suc, ◌+◌, ◌-◌, ◌<◌, Some, None, List, [], ◌∷◌, ◌++◌, length, refl, ◌∙◌, ap, arith}
use Rattle.std.specs.List.{filter_map, range_with_len, slice_get, cons_option}
use Rattle.std.proofs.lemmas.List.Elements.{filter_map-append}
use Rattle.zone_rules.specs.Zones.{fault_at, zone_fault_of}
use Rattle.zone_rules.specs.declared.rows.ZoneFault.{ZoneFault}
use Rattle.zone_rules.specs.declared.rows.ZoneFault.TheVariants.{Empty}
use Rattle.zone_rules.specs.declared.rows.ZoneRow.{ZoneRow}

range-split : (a i m n j : ℕ) → i + suc m ≡ n → a + i ≡ j → range_with_len a n ≡ range_with_len a i ++ j ∷ range_with_len (j + 1) m
range-split a zero m n j e f = let e' : n ≡ suc m = omega arith in let f' : a ≡ j = omega arith in rw (e', f') refl
range-split a (suc i) m zero j e f = absurd (omega arith)
range-split a (suc i) m (suc n) j e f = ap (λ (xs : List ℕ). a ∷ xs) (range-split (a + 1) i m n j (omega arith) (omega arith))

-- the places before have no fault
abbrev pub IsFaultlessBefore : List ZoneRow → ℕ → Type 0
IsFaultlessBefore rows i = filter_map (fault_at rows) (range_with_len 0 i) ≡ []

faults-split : (rows : List ZoneRow) (i n : ℕ) → i < n → IsFaultlessBefore rows i
    → filter_map (fault_at rows) (range_with_len 0 n) ≡ cons_option (fault_at rows i)
    (filter_map (fault_at rows) (range_with_len (i + 1) (n - (i + 1))))
faults-split rows i n h before =
    ap (filter_map (fault_at rows)) (range-split 0 i (n - (i + 1)) n i (omega arith) (omega arith))
    ∙ filter_map-append (fault_at rows) (range_with_len 0 i) (i ∷ range_with_len (i + 1) (n - (i + 1)))
    ∙ ap (λ (faults : List ZoneFault). faults ++ filter_map (fault_at rows) (i ∷ range_with_len (i + 1) (n - (i + 1)))) before

-- one place more
pub faultless_more : (rows : List ZoneRow) (i : ℕ) → IsFaultlessBefore rows i → fault_at rows i ≡ None → IsFaultlessBefore rows (i + 1)
faultless_more rows i before here =
    let end : i + 1 - (i + 1) ≡ 0 = omega arith in
    faults-split rows i (i + 1) (omega arith) before
    ∙ ap (λ o. cons_option o (filter_map (fault_at rows) (range_with_len (i + 1) (i + 1 - (i + 1))))) here
    ∙ ap (λ m. filter_map (fault_at rows) (range_with_len (i + 1) m)) end

-- no rows
pub no_rows : (rows : List ZoneRow) → length rows ≡ 0 → zone_fault_of rows ≡ Some Empty
unfolding zone_fault_of
no_rows [] e = refl
no_rows (row ∷ rows) e = absurd (omega arith)

-- the first fault
pub first_fault : (rows : List ZoneRow) (i : ℕ) (fault : ZoneFault) → i < length rows → IsFaultlessBefore rows i
    → fault_at rows i ≡ Some fault → zone_fault_of rows ≡ Some fault
unfolding zone_fault_of
first_fault [] i fault h before here = absurd (omega arith)
first_fault (row ∷ rows) i fault h before here =
    ap (λ (faults : List ZoneFault). slice_get faults 0)
    (faults-split (row ∷ rows) i (length (row ∷ rows)) h before
    ∙ ap (λ o. cons_option o (filter_map (fault_at (row ∷ rows)) (range_with_len (i + 1) (length (row ∷ rows) - (i + 1))))) here)

-- no fault
pub no_fault : (rows : List ZoneRow) → 0 < length rows → IsFaultlessBefore rows (length rows) → zone_fault_of rows ≡ None
unfolding zone_fault_of
no_fault [] h before = absurd (omega arith)
no_fault (row ∷ rows) h before = ap (λ (faults : List ZoneFault). slice_get faults 0) before
