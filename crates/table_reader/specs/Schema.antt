-- Schemas of tables, and the first fault of a table's file (source: own).
use Rattle.std.specs.Prelude.{◌≡◌, ◌⊎◌, ℕ, ◌+◌, ◌==◌, nat_lt, Bool, Option, Some, None, List, [], ◌∷◌, ◌++◌, length, if◌then◌else◌}
use Rattle.std.specs.List.{list_any}
use Rattle.std.specs.Option.{option_map, option_or}
use Rattle.route_base.specs.declared.faults.Cause.{Cause}
use Rattle.route_base.specs.declared.faults.Cause.TheVariants.{BadHeader, FieldCount, SizeLimit}
use Rattle.table_reader.specs.Records.{Record, record_eq}

-- the headers that a table may have, the most data rows, and the cause that the fields of a data row may have after others,
-- by the header that the table has
pub record Schema : Type 0 where
  pub headers : List Record
  pub limit : ℕ
  pub cause : Record → List Record → Record → Option Cause

-- why a data row can't follow these data rows under this header, if it can't
abbrev pub cause_after : Schema → Record → List Record → Record → Option Cause
cause_after schema header before row =
    if length row == length header
    then (if nat_lt (length before) schema.limit then schema.cause header before row else Some SizeLimit)
    else Some FieldCount

-- the first fault of these data rows, which follow the rows before; the header is record 1
abbrev pub row_fault_from : Schema → Record → List Record → List Record → Option (ℕ × Cause)
row_fault_from schema header before [] = None
row_fault_from schema header before (row ∷ more) =
    option_or (option_map (λ cause. (length before + 2, cause)) (cause_after schema header before row))
    (row_fault_from schema header (before ++ row ∷ []) more)

-- whether the record is one of these headers
abbrev pub is_header : List Record → Record → Bool
is_header headers record_one = list_any (record_eq record_one) headers

-- the least record, from 1, that has a cause, with its cause; a file without records stands for a header alone
unfoldable pub first_table_fault : Schema → List Record → Option (ℕ × Cause)
first_table_fault schema [] = None
first_table_fault schema (first ∷ rows) =
    if is_header schema.headers first then row_fault_from schema first [] rows else Some (1, BadHeader)

-- the record is one of these headers
abbrev pub IsHeader : List Record → Record → Type 0
IsHeader [] first = ⊥
IsHeader (header ∷ []) first = first ≡ header
IsHeader (header ∷ other ∷ more) first = (first ≡ header) ⊎ IsHeader (other ∷ more) first
