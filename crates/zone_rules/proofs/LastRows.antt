-- The last row that starts at a minute or before.
use Rattle.std.proofs.Common.{◌≡◌, ℕ, zero, suc, ◌-◌, ◌<◌, ◌≤◌, Bool, true, false, leb, Option, Some, List, [], ◌∷◌, length}
use Rattle.std.proofs.Common.{get_or, refl, sym, ◌∙◌, ap, arith}
use Rattle.std.specs.List.{filter, last_or, slice_get, AllWithin}
use Rattle.std.proofs.lemmas.Option.{slice_get-get_or}
use Rattle.zone_rules.specs.Zones.{row_at}
use Rattle.zone_rules.specs.declared.rows.ZoneRow.{ZoneRow}

filter-none : {X : Type 0} (p : X → Bool) (xs : List X) → AllWithin (λ x. p x ≡ false) xs 0 (length xs) → filter p xs ≡ []
filter-none p [] none = refl
filter-none p (x ∷ xs) none =
    let here : p x ≡ false = none 0 x (omega arith) (omega arith) in
    rw here (filter-none p xs (λ k d low high. none (suc k) d (omega arith) (omega arith)))

-- the item before a place, or else o
abbrev before_or : {X : Type 0} → Option X → List X → ℕ → X → Option X
before_or o xs zero d = o
before_or o xs (suc i) d = Some (get_or xs i d)

last-filter : {X : Type 0} (p : X → Bool) (xs : List X) (i : ℕ) (d : X) (o : Option X) → i ≤ length xs
    → AllWithin (λ x. p x ≡ true) xs 0 i → AllWithin (λ x. p x ≡ false) xs i (length xs)
    → last_or o (filter p xs) ≡ before_or o xs i d
last-filter p xs zero d o h before after = ap (last_or o) (filter-none p xs after)
last-filter p [] (suc i) d o h before after = absurd (omega arith)
last-filter p (x ∷ xs) (suc i) d o h before after =
    let here : p x ≡ true = before 0 x (omega arith) (omega arith) in
    rw here (last-filter p xs i d (Some x) (omega arith)
    (λ k e low high. before (suc k) e (omega arith) (omega arith))
    (λ k e low high. after (suc k) e (omega arith) (omega arith))
    ∙ from i)
  where
    from : (j : ℕ) → before_or (Some x) xs j d ≡ Some (get_or (x ∷ xs) j d)
    from zero = refl
    from (suc j) = refl

-- the row in force is the one before the place where later starts begin, or the first
pub row_found : (rows : List ZoneRow) (t i : ℕ) (d : ZoneRow) → 0 < length rows → i ≤ length rows
    → AllWithin (λ r. leb r.start t ≡ true) rows 0 i → AllWithin (λ r. leb r.start t ≡ false) rows i (length rows)
    → row_at rows t ≡ Some (get_or rows (i - 1) d)
row_found rows t i d some h before after =
    last-filter (λ r. leb r.start t) rows i d (slice_get rows 0) h before after ∙ from i
  where
    from : (j : ℕ) → before_or (slice_get rows 0) rows j d ≡ Some (get_or rows (j - 1) d)
    from zero = slice_get-get_or rows 0 d some
    from (suc j) = let e : suc j - 1 ≡ j = omega arith in ap (λ n. Some (get_or rows n d)) (sym e)
