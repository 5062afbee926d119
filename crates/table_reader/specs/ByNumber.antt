-- Tables that assign a value to each number from 1 on, as an area to an arc or a rating's weight to a node (source: own).
use Rattle.std.specs.Prelude.{◌≡◌, ℕ, nat_eq, is_some, Bool, Option, Some, None, List, [], ◌∷◌, length, map, if◌then◌else◌}
use Rattle.std.specs.List.{filter_map, range_with_len}
use Rattle.std.specs.Map.{lookup}
use Rattle.std.specs.Option.{option_map, option_and_then}
use Rattle.route_base.specs.Forms.{is_from_to, table_number_of}
use Rattle.route_base.specs.declared.faults.Cause.{Cause}
use Rattle.route_base.specs.declared.faults.Cause.TheVariants.{BadField, Unknown, Duplicate}
use Rattle.table_reader.specs.Schema.{Schema}
use Rattle.table_reader.specs.Records.{Record}

-- a number, and the field that says what it is given
abbrev pub NumberedRow : Type 0
NumberedRow = ℕ × List ℕ

-- a number, and a field of this form
abbrev pub numbered_of : (List ℕ → Bool) → Record → Option NumberedRow
numbered_of form (number ∷ field ∷ []) = if form field then option_map (λ v. (v, field)) (table_number_of number) else None
numbered_of form others = None

-- the field that says what the number is given
abbrev pub field_for : List NumberedRow → ℕ → Option (List ℕ)
field_for rows v = lookup (nat_eq v) rows

-- the number is from 1 to `count`, the field has a value, and the number has no row yet
abbrev pub cause_of_numbered : {X : Type 0} → ℕ → (List ℕ → Option X) → List NumberedRow → Option NumberedRow → Option Cause
cause_of_numbered count value before None = Some BadField
cause_of_numbered count value before (Some r) =
    if is_from_to 1 count r.0
    then (if is_some (value r.1)
    then (if is_some (field_for before r.0) then Some Duplicate else None)
    else Some Unknown)
    else Some Unknown

-- the numbers and fields of these rows in their order
abbrev pub numbered_in : (List ℕ → Bool) → List Record → List NumberedRow
numbered_in form rows = filter_map (numbered_of form) rows

-- a column of numbers from 1 to `count`, and a column of fields of this form, whose values these are
abbrev pub numbered_schema : {X : Type 0} → List ℕ → List ℕ → ℕ → (List ℕ → Bool) → ℕ → (List ℕ → Option X) → Schema
numbered_schema numbers fields limit form count value = record {
  headers = (numbers ∷ fields ∷ []) ∷ [];
  limit = limit;
  cause = λ header before row. cause_of_numbered count value (numbered_in form before) (numbered_of form row);
}

-- what the number is given
abbrev pub given_to : {X : Type 0} → (List ℕ → Option X) → List NumberedRow → ℕ → Option X
given_to value rows v = option_and_then value (field_for rows v)

-- what the numbers 1, 2 and so on are given
unfoldable pub given_by_number : {X : Type 0} → ℕ → (List ℕ → Option X) → List NumberedRow → List (Option X)
given_by_number count value rows = map (given_to value rows) (range_with_len 1 count)

-- where the values of fields come from, and the value that each number has got
pub record ValuesByNumber (S V : Type 0) : Type 0 where
  pub source : S
  pub values : List (Option V)

-- adding these rows, whose fields have values, to `start`, which has no rows, gives `now`
pub record HaveValues {S V : Type 0} (value : S → List ℕ → Option V) (start now : ValuesByNumber S V) (rows : List NumberedRow) : Type 0 where
  pub source : now.source ≡ start.source
  pub values : now.values ≡ given_by_number (length start.values) (value start.source) rows
  pub known : (v : ℕ) → is_some (given_to (value start.source) rows v) ≡ is_some (field_for rows v)
