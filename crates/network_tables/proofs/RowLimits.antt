-- A table without a fault has no more rows than its limit.
use Rattle.std.proofs.Common.{◌≡◌, ℕ, ◌+◌, ◌≤◌, ◌<◌, Bool, true, false, cond, eqb, ltb, Option, Some, None, List, [], ◌∷◌, ◌++◌, length, refl, arith}
use Rattle.std.proofs.Common.{length-append}
use Rattle.std.specs.List.{filter_map, cons_option}
use Rattle.std.specs.Option.{option_map, option_or}
use Rattle.std.proofs.lemmas.Bool.{ltb-true}
use Rattle.route_base.specs.declared.faults.Cause.{Cause}
use Rattle.route_base.specs.declared.faults.Cause.TheVariants.{BadHeader, FieldCount, SizeLimit}
use Rattle.route_base.specs.declared.faults.FileKind.{FileKind}
use Rattle.table_reader.specs.Records.{Record, records_of, rows_in, rows_of}
use Rattle.table_reader.specs.Schema.{Schema, cause_after, first_table_fault, is_header, row_fault_from}
use Rattle.network_tables.specs.NetworkFiles.{fault_in, table_fault}

-- a row has a place where it has no cause
has_place : (fields place : Bool) (cause : Option Cause) → cond fields (cond place cause (Some SizeLimit)) (Some FieldCount) ≡ None → place ≡ true
has_place true true cause none = refl
has_place true false cause none = absurd (cc)
has_place false place cause none = absurd (cc)

-- neither a first cause nor a later fault
neither : (n : ℕ) (cause : Option Cause) (later : Option (ℕ × Cause)) → option_or (option_map (λ c. (n, c)) cause) later ≡ None
    → (cause ≡ None) × (later ≡ None)
neither n None later none = (refl, none)
neither n (Some cause) later none = absurd (cc)

few_after : (schema : Schema) (header : Record) (before rows : List Record) → row_fault_from schema header before rows ≡ None
    → length before ≤ schema.limit → length before + length rows ≤ schema.limit
few_after schema header before [] none within = omega (arith, within)
few_after schema header before (row ∷ more) none within =
    let parts = neither (length before + 2) (cause_after schema header before row) (row_fault_from schema header (before ++ row ∷ []) more) none in
    let below : length before < schema.limit =
    ltb-true (length before) schema.limit
    (has_place (eqb (length row) (length header)) (ltb (length before) schema.limit) (schema.cause header before row) parts.0) in
    let longer : length (before ++ row ∷ []) ≡ length before + 1 = length-append before (row ∷ []) in
    omega (arith, few_after schema header (before ++ row ∷ []) more parts.1 (omega (arith, below, longer)), longer)

few_rows_in : (schema : Schema) (records : List Record) → first_table_fault schema records ≡ None → length (rows_in records) ≤ schema.limit
unfolding first_table_fault
few_rows_in schema [] none = omega arith
few_rows_in schema (first ∷ rows) none = omega (arith, few_after schema first [] rows (under (is_header schema.headers first) none) (omega arith))
  where
    under : (b : Bool) → cond b (row_fault_from schema first [] rows) (Some (1, BadHeader)) ≡ None → row_fault_from schema first [] rows ≡ None
    under true none = none
    under false none = absurd (cc)

pub few_rows : (file : FileKind) (schema : Schema) (bytes : List ℕ) → table_fault file schema bytes ≡ None → length (rows_of bytes) ≤ schema.limit
few_rows file schema bytes none = few_rows_in schema (records_of bytes) (no_fault (first_table_fault schema (records_of bytes)) none)
  where
    no_fault : (o : Option (ℕ × Cause)) → fault_in file o ≡ None → o ≡ None
    no_fault None none = refl
    no_fault (Some fault) none = absurd (cc)

-- rows state no more values than they are
pub fewer_values : {X Y : Type 0} (value : X → Option Y) (xs : List X) → length (filter_map value xs) ≤ length xs
fewer_values value [] = omega arith
fewer_values value (x ∷ xs) = omega (arith, one (value x) (filter_map value xs), fewer_values value xs)
  where
    one : {Y : Type 0} (o : Option Y) (ys : List Y) → length (cons_option o ys) ≤ length ys + 1
    one None ys = omega arith
    one (Some y) ys = omega arith
