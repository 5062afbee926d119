-- The records of a table's file (source: RFC 4180).
use Rattle.std.specs.Prelude.{ℕ, Bool, List, [], ◌∷◌, map}
use Rattle.std.specs.Borrow.{Bor}
use Rattle.std.specs.Cmp.Lexicographic.{pointwise}
use Rattle.std.specs.Str.{bytes_eq}
use Rattle.csv.specs.Reading.{records, default_config, strip_bom}

-- the bytes of each field
abbrev pub Record : Type 0
Record = List (List ℕ)

-- a byte order mark at the start is dropped, and the rest read by `csv`, which drops one more at the start of what it is given
unfoldable pub records_of : List ℕ → List Record
records_of bytes = records default_config (strip_bom (strip_bom bytes))

-- the first record; no fields where there are no records
abbrev pub header_in : List Record → Record
header_in [] = []
header_in (header ∷ rows) = header

-- the data rows: the records behind the first
abbrev pub rows_in : List Record → List Record
rows_in [] = []
rows_in (header ∷ rows) = rows

-- the header of a file
abbrev pub header_of : List ℕ → Record
header_of bytes = header_in (records_of bytes)

-- the data rows of a file
abbrev pub rows_of : List ℕ → List Record
rows_of bytes = rows_in (records_of bytes)

-- the same fields
abbrev pub record_eq : Record → Record → Bool
record_eq a b = pointwise bytes_eq a b

-- the record that has these words as its fields
abbrev pub words_of : List (Bor (List ℕ)) → Record
words_of words = map (λ w. w.now) words

-- the records that have these lists of words as their fields
abbrev pub headers_of : List (Bor (List (Bor (List ℕ)))) → List Record
headers_of headers = map (λ words. words_of words.now) headers
