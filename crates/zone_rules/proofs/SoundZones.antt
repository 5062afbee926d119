-- Rows without a fault are a zone.
use Rattle.std.proofs.Common.{◌≡◌, ⊎_elim, pos, ℕ, zero, suc, ◌+◌, ◌<◌, Bool, true, false, cond, map, Option, Some, None}
use Rattle.std.proofs.Common.{List, [], ◌∷◌, length, get_or, refl, sym, ◌∙◌, ap, add-one, arith}
use Rattle.std.specs.List.{filter_map, range_with_len, slice_get, cons_option}
use Rattle.std.specs.Option.{option_and_then}
use Rattle.std.proofs.lemmas.Option.{slice_get-get_or}
use Rattle.std.specs.List.Sorted.{IsNonDecreasingBy}
use Rattle.std.proofs.lemmas.Bool.{cases_eq, ltb-true}
use Rattle.std.proofs.lemmas.List.{get_or-map, length-map}
use Rattle.std.proofs.lemmas.List.Kept.{AllPairs-from_increasing}
use Rattle.zone_rules.specs.Zones.{IsZone, is_later, row_fault, row_before, fault_at, zone_fault_of}
use Rattle.zone_rules.specs.declared.rows.ZoneFault.TheVariants.{OffsetRange, NotRising}
use Rattle.zone_rules.specs.declared.rows.ZoneRow.{ZoneRow}

none_got : {A : Type 0} (xs : List A) → slice_get xs 0 ≡ None → xs ≡ []
none_got [] e = refl
none_got (x ∷ xs) e = cc

nothing_first : {A : Type 0} (o : Option A) (xs : List A) → cons_option o xs ≡ [] → o ≡ None
nothing_first None xs e = refl
nothing_first (Some x) xs e = cc

nothing_behind : {A : Type 0} (o : Option A) (xs : List A) → cons_option o xs ≡ [] → xs ≡ []
nothing_behind None xs e = e
nothing_behind (Some x) xs e = cc

nothing_at : {A : Type 0} (h : ℕ → Option A) (a n i : ℕ) → filter_map h (range_with_len a n) ≡ [] → i < n → h (a + i) ≡ None
nothing_at h a zero i e w = absurd (omega arith)
nothing_at h a (suc n) zero e w = let same : a + 0 ≡ a = omega arith in ap h same ∙ nothing_first (h a) _ e
nothing_at h a (suc n) (suc i) e w = let same : a + suc i ≡ a + 1 + i = omega arith in ap h same
    ∙ nothing_at h (a + 1) n i (nothing_behind (h a) _ e) (omega arith)

some_rows : (rows : List ZoneRow) → zone_fault_of rows ≡ None → rows ≡ [] → ⊥
unfolding zone_fault_of
some_rows [] e f = cc
some_rows (row ∷ rows) e f = cc

pub faultless_at : (rows : List ZoneRow) → zone_fault_of rows ≡ None → (i : ℕ) → i < length rows → fault_at rows i ≡ None
unfolding zone_fault_of
faultless_at [] e i h = absurd (omega arith)
faultless_at (row ∷ rows) e i h = let same : 0 + i ≡ i = omega arith in ap (fault_at (row ∷ rows)) (sym same)
    ∙ nothing_at (fault_at (row ∷ rows)) 0 (length (row ∷ rows)) i (none_got _ e) h

offset_good : (i : ℕ) (b later : Bool) → cond b (cond later None (Some (NotRising i))) (Some (OffsetRange i)) ≡ None → b ≡ true
offset_good i true later e = refl
offset_good i false later e = cc

start_later : (i : ℕ) (b later : Bool) → cond b (cond later None (Some (NotRising i))) (Some (OffsetRange i)) ≡ None → later ≡ true
start_later i true true e = refl
start_later i true false e = cc
start_later i false later e = cc

module _ (rows : List ZoneRow) (faultless : zone_fault_of rows ≡ None) where
  -- the row at a place behind the row before it
  row_good : (k : ℕ) (d : ZoneRow) → k < length rows → row_fault k (row_before rows k) (get_or rows k d) ≡ None
  row_good k d h = ap (λ o. option_and_then (row_fault k (row_before rows k)) o) (sym (slice_get-get_or rows k d h)) ∙ faultless_at rows faultless k h

  start_good : (k : ℕ) (d : ZoneRow) → suc k < length rows → (get_or rows k d).start < (get_or rows (suc k) d).start
  start_good k d h =
      let there : k < length rows = omega arith in
      let later = start_later (suc k) _ _ (row_good (suc k) d h) in
      ltb-true _ _ (ap (λ o. is_later o (get_or rows (suc k) d)) (sym (slice_get-get_or rows k d there)) ∙ later)

  -- rows without a fault are a zone
  pub zone_from_faultless : IsZone rows
  zone_from_faultless = record {
    some = some_rows rows faultless;
    offsets = λ k d h. offset_good k _ _ (row_good k d h);
    rising = λ k h.
        let none : ZoneRow = record { start = 0; offset = pos 0 } in
        let within : k + 1 < length rows = omega (arith, h, length-map rows (λ r. r.start)) in
        rw (
          get_or-map (λ r. r.start) rows k none 0 (omega arith),
          get_or-map (λ r. r.start) rows
              (k + 1) none 0 within,
          add-one,
        ) (start_good k none (omega arith));
  }

pub some_there : {A : Type 0} (xs : List A) → (xs ≡ [] → ⊥) → 0 < length xs
some_there [] h = absurd (h refl)
some_there (x ∷ xs) h = omega arith

-- the starts never fall
pub starts_rise : (rows : List ZoneRow) → IsZone rows → IsNonDecreasingBy (λ r. r.start) rows
starts_rise rows zone i j d le within =
    let starts = map (λ r. r.start) rows in
    let long : j < length starts = omega (arith, length-map rows (λ r. r.start)) in
    ⊎_elim
    (λ (same : i ≡ j). omega (arith, ap (λ n. (get_or rows n d).start) same))
    (λ (other : i ≡ j → ⊥).
    let before : i < j = omega (arith, other) in
    omega (
      arith,
      AllPairs-from_increasing starts zone.rising i j 0 before long,
      get_or-map (λ r. r.start) rows i d 0
          (omega arith),
      get_or-map (λ r. r.start) rows j d 0 within,
    ))
    (cases_eq i j)
