-- The table of lockers: its schema, and the codes that its rows state (source: own).
use Rattle.std.specs.Prelude.{ℕ, Option, List, codes}
use Rattle.route_base.specs.Forms.{is_name}
use Rattle.table_reader.specs.ByNumber.{numbered_schema, numbered_in, given_by_number}
use Rattle.table_reader.specs.NameIndex.{value_under}
use Rattle.table_reader.specs.Records.{rows_of}
use Rattle.table_reader.specs.Schema.{Schema}

-- a column of lockers from 1 to `count`, and a column of colours
abbrev pub lockers_schema : ℕ → List (List ℕ × ℕ) → Schema
lockers_schema count colours = numbered_schema (codes "locker") (codes "colour") 100 is_name count (value_under colours)

-- the code of each locker
abbrev pub codes_of : ℕ → List (List ℕ × ℕ) → List ℕ → List (Option ℕ)
codes_of count colours bytes = given_by_number count (value_under colours) (numbered_in is_name (rows_of bytes))
