-- Rows that may each follow the rows before it have no fault.
use Rattle.std.proofs.Common.{◌≡◌, ◌<◌, true, None, List, [], ◌∷◌, ◌++◌, length}
use Rattle.std.proofs.lemmas.Bool.{lt-ltb, eq-eqb}
use Rattle.table_reader.specs.Records.{Record}
use Rattle.table_reader.specs.Schema.{Schema, is_header, row_fault_from, first_table_fault}

-- one row in front of rows without a fault
pub row_fault-more : (schema : Schema) (header : Record) (before : List Record) (row : Record) (more : List Record) → length row ≡ length header
    → length before < schema.limit → schema.cause header before row ≡ None → row_fault_from schema header (before ++ row ∷ []) more ≡ None
    → row_fault_from schema header before (row ∷ more) ≡ None
row_fault-more schema header before row more fields room none rest =
    rw (eq-eqb (length row) (length header) fields, lt-ltb (length before) schema.limit room, none) rest

-- a header and rows without a fault
pub first_table_fault-none : (schema : Schema) (header : Record) (rows : List Record) → is_header schema.headers header ≡ true
    → row_fault_from schema header [] rows ≡ None → first_table_fault schema (header ∷ rows) ≡ None
unfolding first_table_fault
first_table_fault-none schema header rows is none = rw is none
