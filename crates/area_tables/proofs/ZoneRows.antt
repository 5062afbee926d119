-- Zones that take one row more.
use Rattle.std.proofs.Common.{◌≡◌, ℕ, suc, ◌-◌, length, arith, Bool, true, false, cond, Option, Some, None, List, [], ◌∷◌, ◌++◌, map, filter, refl}
use Rattle.std.proofs.Common.{sym, ◌∙◌, ap, subst, append-nil}
use Rattle.std.specs.List.{last_or, slice_get}
use Rattle.std.specs.Map.{lookup, set_value}
use Rattle.std.specs.Option.{IsSome, unwrap_or, option_or}
use Rattle.std.specs.Prelude.{codes, Result, Ok, Err, OnOk}
use Rattle.std.specs.Str.{bytes_eq}
use Rattle.std.proofs.lemmas.List.{map-append}
use Rattle.std.proofs.lemmas.List.Elements.{filter-append}
use Rattle.std.proofs.lemmas.Slice.Eq.{bytes_eq-Decides}
use Rattle.route_base.proofs.Items.{last_or-cons}
use Rattle.route_base.proofs.Logic.{option_or-none}
use Rattle.zone_rules.specs.declared.rows.ZoneRow.{ZoneRow}
use Rattle.table_reader.specs.NameIndex.{value_under}
use Rattle.area_tables.specs.Zones.{ZoneEntry, ZoneList, rows_of_zone, some_rows, given_zone, zone_named, HasRows, HasZones}
use Rattle.table_reader.proofs.Lists.{lookup-other, lookup-new}

-- the last item stands at the last place
pub last_place : {A : Type 0} (xs : List A) → last_or None xs ≡ slice_get xs (length xs - 1)
last_place [] = refl
last_place (x ∷ xs) = let one : suc (length xs) - 1 ≡ length xs = omega arith in last_or-cons None x xs ∙ ap (slice_get (x ∷ xs)) (sym one)

-- the value that was written, or what stood there
agree : {A : Type 0} (p q : Bool) (x y z : A) → q ≡ p → cond q x z ≡ cond p x (cond q y z)
agree true true x y z e = refl
agree true false x y z e = cc
agree false true x y z e = cc
agree false false x y z e = refl

apart : {A : Type 0} (p q : Bool) (x y z w : A) → (p ≡ true → q ≡ true → ⊥) → w ≡ cond p x z → cond q y w ≡ cond p x (cond q y z)
apart true true x y z w h e = absurd (h refl refl)
apart true false x y z w h e = e
apart false true x y z w h e = refl
apart false false x y z w h e = e

module _ {V : Type 0} (name other : List ℕ) (w : V) where
  -- a look-up after a write at a name that is there
  pub lookup_written : (es : List (List ℕ × V)) → IsSome (value_under es name)
      → value_under (set_value (bytes_eq name) es w) other ≡ cond (bytes_eq other name) (Some w) (value_under es other)
  lookup_written [] h = absurd (cc)
  lookup_written (e ∷ es) h =
      elim (bytes_eq name e.0) as (λ b. bytes_eq name e.0 ≡ b → IsSome (cond b (Some e.1) (value_under es name))
      → value_under (cond b ((e.0, w) ∷ es) (e ∷ set_value (bytes_eq name) es w)) other
      ≡ cond (bytes_eq other name) (Some w) (cond (bytes_eq other e.0) (Some e.1) (value_under es other))) [
        | true ↦ λ is some.
            agree (bytes_eq other name) (bytes_eq other e.0) (Some w) (Some e.1) (value_under es other)
            (ap (bytes_eq other) (sym ((bytes_eq-Decides name e.0).0 is)))
        | false ↦ λ is some.
            apart (bytes_eq other name) (bytes_eq other e.0) (Some w) (Some e.1) (value_under es other) (value_under (set_value (bytes_eq name) es w) other)
            (λ p q. (let e' : bytes_eq name e.0 ≡ true = (bytes_eq-Decides name e.0).1
            (sym ((bytes_eq-Decides other name).0 p) ∙ (bytes_eq-Decides other e.0).0 q) in cc))
            (lookup_written es some)
      ] refl h

-- a look-up with one name more
pub lookup_pushed : {V : Type 0} (es : List (List ℕ × V)) (name other : List ℕ) (w : V) → value_under es name ≡ None
    → value_under (es ++ (name, w) ∷ []) other ≡ cond (bytes_eq other name) (Some w) (value_under es other)
lookup_pushed {V} es name other w none =
    elim (bytes_eq other name) as (λ b. bytes_eq other name ≡ b
    → lookup (bytes_eq other) (es ++ (name, w) ∷ []) ≡ cond b (Some w) (lookup (bytes_eq other) es)) [
      | true ↦ λ is. lookup-new (bytes_eq other) es (name, w) (ap (λ n. lookup (bytes_eq n) es) ((bytes_eq-Decides other name).0 is) ∙ none) is
      | false ↦ λ is. lookup-other (bytes_eq other) es (name, w) is
    ] refl

rows_more : (entries : List ZoneEntry) (e : ZoneEntry) (name : List ℕ)
    → rows_of_zone (entries ++ e ∷ []) name ≡ rows_of_zone entries name ++ cond (bytes_eq name e.0) (e.1 ∷ []) []
rows_more entries e name =
    ap (map (λ (x : ZoneEntry). x.1)) (filter-append (λ (x : ZoneEntry). bytes_eq name x.0) entries (e ∷ []))
    ∙ map-append (λ (x : ZoneEntry). x.1) (filter (λ (x : ZoneEntry). bytes_eq name x.0) entries) (filter (λ (x : ZoneEntry). bytes_eq name x.0) (e ∷ []))
    ∙ elim (bytes_eq name e.0) as (λ b. rows_of_zone entries name ++ map (λ (x : ZoneEntry). x.1) (cond b (e ∷ []) []) ≡ rows_of_zone entries name
    ++ cond b (e.1 ∷ []) []) [ true ↦ refl | false ↦ refl ]

pub rows_back : (rows : List ZoneRow) → unwrap_or (some_rows rows) [] ≡ rows
rows_back [] = refl
rows_back (row ∷ rows) = refl

some_pushed : (rows : List ZoneRow) (row : ZoneRow) → some_rows (rows ++ row ∷ []) ≡ Some (rows ++ row ∷ [])
some_pushed [] row = refl
some_pushed (first ∷ rows) row = refl

-- the rows by name with one row more
pub HasRows-more : (old new : ZoneList) (entries : List ZoneEntry) (e : ZoneEntry) → HasRows old entries
    → ((other : List ℕ) → value_under new other ≡ cond (bytes_eq other e.0) (Some (unwrap_or (value_under old e.0) [] ++ e.1 ∷ [])) (value_under old other))
    → HasRows new (entries ++ e ∷ [])
HasRows-more old new entries e has added name =
    added name
    ∙ elim (bytes_eq name e.0) as (λ b. bytes_eq name e.0 ≡ b
    → cond b (Some (unwrap_or (value_under old e.0) [] ++ e.1 ∷ [])) (value_under old name) ≡ some_rows
    (rows_of_zone entries name ++ cond b (e.1 ∷ []) [])) [
      | true ↦ λ is. ap (λ (rows : List ZoneRow). Some (rows ++ e.1 ∷ []))
          (ap (λ o. unwrap_or o []) (has e.0) ∙ rows_back (rows_of_zone entries e.0) ∙ ap (rows_of_zone entries) (sym ((bytes_eq-Decides name e.0).0 is)))
          ∙ sym (some_pushed (rows_of_zone entries name) e.1)
      | false ↦ λ is. has name ∙ ap some_rows (sym (append-nil (rows_of_zone entries name)))
    ] refl
    ∙ ap some_rows (sym (rows_more entries e name))

or_some : {A : Type 0} (o p : Option A) → IsSome o → option_or o p ≡ o
or_some None p h = absurd (cc)
or_some (Some x) p h = refl

module _ (old : ZoneList) (entries : List ZoneEntry) (has : HasRows old entries) where
  -- a name that isn't `UTC` has its rows alone
  named_other : (name : List ℕ) → bytes_eq name (codes "UTC") ≡ false → value_under old name ≡ zone_named entries name
  named_other name is = has name ∙ sym (option_or-none (some_rows (rows_of_zone entries name)))
      ∙ ap (λ b. option_or (some_rows (rows_of_zone entries name)) (cond b (given_zone (codes "UTC")) None)) (sym is)

  -- `UTC` has rows
  pub HasZones-there : IsSome (value_under old (codes "UTC")) → HasZones old entries
  HasZones-there there name =
      elim (bytes_eq name (codes "UTC")) as (λ b. bytes_eq name (codes "UTC") ≡ b → value_under old name ≡ zone_named entries name) [
        | true ↦ λ is. has name ∙ sym (or_some (some_rows (rows_of_zone entries name)) (given_zone name)
            (subst IsSome (ap (value_under old) (sym ((bytes_eq-Decides name (codes "UTC")).0 is)) ∙ has name) there))
        | false ↦ λ is. named_other name is
      ] refl

  -- `UTC` is given
  pub HasZones-given : (new : ZoneList) → value_under old (codes "UTC") ≡ None
      → ((other : List ℕ) → value_under new other ≡ cond (bytes_eq other (codes "UTC")) (given_zone (codes "UTC")) (value_under old other))
      → HasZones new entries
  HasZones-given new none added name =
      added name
      ∙ elim (bytes_eq name (codes "UTC")) as (λ b. bytes_eq name (codes "UTC") ≡ b
      → cond b (given_zone (codes "UTC")) (value_under old name) ≡ option_or (some_rows (rows_of_zone entries name))
      (cond b (given_zone (codes "UTC")) None)) [
        | true ↦ λ is. ap (λ o. option_or o (given_zone (codes "UTC"))) (sym none
            ∙ ap (value_under old) (sym ((bytes_eq-Decides name (codes "UTC")).0 is)) ∙ has name)
        | false ↦ λ is. has name ∙ sym (option_or-none (some_rows (rows_of_zone entries name)))
      ] refl

pub on_ok : {T E P Q : Type 0} (r : Result T E) → (P → Q) → OnOk r P → OnOk r Q
on_ok (Ok x) f h = f h
on_ok (Err e) f h = tt
