-- Each row of a table of stops without a fault has its stop.
use Rattle.std.proofs.Common.{◌≡◌, ℕ, ◌++◌, Bool, true, false, Option, Some, None, List, [], ◌∷◌, length, refl, subst}
use Rattle.std.specs.List.{AllZip, cons_option}
use Rattle.std.specs.Prelude.{◌==◌, nat_lt, if◌then◌else◌}
use Rattle.route_base.specs.declared.faults.Cause.TheVariants.{BadHeader, FieldCount, SizeLimit}
use Rattle.route_base.proofs.Logic.{no_first, no_second, none_mapped}
use Rattle.table_reader.specs.Records.{Record, records_of, rows_in, rows_of}
use Rattle.table_reader.specs.Schema.{cause_after, first_table_fault, is_header, row_fault_from}
use Rattle.stop_tour.specs.StopTable.{cause_of_stop, stop_of, stops_in, stops_schema}
use Rattle.stop_tour.specs.declared.limits.TheConstants.{MOST_STOPS}
use Rattle.stop_tour.specs.declared.stops.Stop.{Stop}

-- the row has this stop
abbrev HasStop : Record → Stop → Type 0
HasStop row stop = stop_of row ≡ Some stop

module _ (nodes : ℕ) (header : Record) where
  -- a row without a stop has a cause
  without : (fits room : Bool) → (if fits then (if room then cause_of_stop nodes None else Some SizeLimit) else Some FieldCount) ≡ None → ⊥
  without true true none = cc
  without true false none = cc
  without false room none = cc

  one_more : (before : List Record) (row : Record) (rows : List Record) (o : Option Stop) → stop_of row ≡ o
      → cause_after (stops_schema nodes) header before row ≡ None → AllZip HasStop rows (stops_in rows)
      → AllZip HasStop (row ∷ rows) (cons_option o (stops_in rows))
  one_more before row rows None is none rest =
      absurd (without (length row == length header) (nat_lt (length before) MOST_STOPS)
      (subst (λ (o : Option Stop). (if length row == length header then (if nat_lt (length before) MOST_STOPS then cause_of_stop nodes o else Some SizeLimit)
      else Some FieldCount) ≡ None) is none))
  one_more before row rows (Some stop) is none rest = (is, rest)

  each_row : (before rows : List Record) → row_fault_from (stops_schema nodes) header before rows ≡ None → AllZip HasStop rows (stops_in rows)
  each_row before [] none = tt
  each_row before (row ∷ rows) none =
      let here = no_first _ _ none in
      let later = no_second _ _ none in
      one_more before row rows (stop_of row) refl (none_mapped _ _ here) (each_row (before ++ row ∷ []) rows later)

in_records : (nodes : ℕ) (records : List Record) → first_table_fault (stops_schema nodes) records ≡ None
    → AllZip HasStop (rows_in records) (stops_in (rows_in records))
unfolding first_table_fault
in_records nodes [] none = tt
in_records nodes (header ∷ rows) none = by (is_header (stops_schema nodes).headers header) none
  where
    by : (known : Bool) → (if known then row_fault_from (stops_schema nodes) header [] rows else Some (1, BadHeader)) ≡ None
        → AllZip HasStop rows (stops_in rows)
    by true none = each_row nodes header [] rows none
    by false none = absurd (cc)

pub stop_of_row : (nodes : ℕ) (bytes : List ℕ) → first_table_fault (stops_schema nodes) (records_of bytes) ≡ None
    → AllZip (λ row stop. stop_of row ≡ Some stop) (rows_of bytes) (stops_in (rows_of bytes))
stop_of_row nodes bytes none = in_records nodes (records_of bytes) none
