-- Records of plain fields are read back from their text.
use Rattle.std.proofs.Common.{◌≡◌, ℕ, ◌<◌, Bool, false, ◌||◌, Some, None, List, [], ◌∷◌, ◌++◌, length, refl, sym, ◌∙◌, ap, arith, append_assoc}
use Rattle.std.specs.Prelude.{codes, flat_map, ◌==◌}
use Rattle.std.specs.List.{AllByRecursion, list_any}
use Rattle.std.proofs.lemmas.Bool.{or_parts, ne_eqb}
use Rattle.csv.specs.Machine.{next_record}
use Rattle.csv.specs.Reading.{default_config, strip_bom, records, Reached}
use Rattle.csv.specs.Writing.{default_writer, field_text, fields_text, is_blank, needs_byte, read_back, row_text}
use Rattle.csv.specs.declared.parser.State.TheVariants as st
use Rattle.csv.proofs.RoundTrip.{read-write}
use Rattle.table_reader.specs.Records.{Record, records_of}
use Rattle.table_reader.proofs.AllRecords.{all_records}

-- whether the byte has a meaning of its own: a comma, a quote, the bytes of line ends, and the first byte of a byte order mark
abbrev pub is_mark : ℕ → Bool
is_mark b = b == 44 || b == 34 || b == 13 || b == 10 || b == 239

-- a field with at least one byte, none of which is a mark
pub record IsPlainField (field : List ℕ) : Type 0 where
  pub some : 0 < length field
  pub plain : list_any is_mark field ≡ false

-- a record with at least one field, all of which are plain
pub record IsPlainRecord (fields : Record) : Type 0 where
  pub some : 0 < length fields
  pub plain : AllByRecursion IsPlainField fields

-- the end of a line behind its first field
abbrev pub line_end : Record → List ℕ
line_end [] = codes "\n"
line_end (field ∷ more) = codes "," ++ field ++ line_end more

-- the line of a record: its fields, joined by commas
abbrev pub row_line : Record → List ℕ
row_line [] = codes "\n"
row_line (field ∷ more) = field ++ line_end more

-- the lines of records
abbrev pub plain_table_text : List Record → List ℕ
plain_table_text rows = flat_map row_line rows

no_mark : (b : ℕ) → is_mark b ≡ false
    → ((b == 44) ≡ false) × ((b == 34) ≡ false) × ((b == 13) ≡ false) × ((b == 10) ≡ false) × ((b == 239) ≡ false)
no_mark b h =
    let last = or_parts (b == 44 || b == 34 || b == 13 || b == 10) (b == 239) h in
    let fourth = or_parts (b == 44 || b == 34 || b == 13) (b == 10) last.0 in
    let third = or_parts (b == 44 || b == 34) (b == 13) fourth.0 in
    let second = or_parts (b == 44) (b == 34) third.0 in
    (second.0, second.1, third.1, fourth.1, last.1)

no_quotes : (field : List ℕ) → list_any is_mark field ≡ false → list_any (needs_byte default_writer) field ≡ false
no_quotes [] h = refl
no_quotes (b ∷ field) h =
    let parts = or_parts (is_mark b) (list_any is_mark field) h in
    let other = no_mark b parts.0 in
    rw (other.0, other.1, other.2, other.3) (no_quotes field parts.1)

as_written : (field : List ℕ) → IsPlainField field → field_text default_writer field ≡ field
as_written field h = rw (no_quotes field h.plain) refl

line_end-written : (fields : Record) → AllByRecursion IsPlainField fields → fields_text default_writer fields ++ codes "\n" ≡ line_end fields
unfolding fields_text
line_end-written [] h = refl
line_end-written (field ∷ more) h =
    rw (as_written field h.0) (ap (λ (text : List ℕ). 44 ∷ text) (append_assoc field (fields_text default_writer more) (codes "\n")
    ∙ ap (λ (text : List ℕ). field ++ text) (line_end-written more h.1)))

not_blank : (fields : Record) → IsPlainRecord fields → is_blank default_writer fields ≡ false
unfolding is_blank
not_blank [] h = absurd (omega (arith, h.some))
not_blank (field ∷ []) h =
    rw (as_written field h.plain.0) (ne_eqb (length field) 0 (λ none. absurd (omega (arith, h.plain.0.some, none))))
not_blank (field ∷ next ∷ more) h = refl

line-written : (fields : Record) → IsPlainRecord fields → row_text default_writer fields ≡ row_line fields
line-written [] h = absurd (omega (arith, h.some))
line-written (field ∷ more) h =
    rw (not_blank (field ∷ more) h, as_written field h.plain.0) (append_assoc field (fields_text default_writer more) (codes "\n")
    ∙ ap (λ (text : List ℕ). field ++ text) (line_end-written more h.plain.1))

back : (fields : Record) → IsPlainRecord fields → read_back fields ≡ fields
back [] h = absurd (omega (arith, h.some))
back (field ∷ more) h = refl

-- the first record of a text
line-read : (fields : Record) (tail : List ℕ) → IsPlainRecord fields
    → next_record default_config st.StartRecord [] [] (row_line fields ++ tail) ≡ Some (fields, st.StartRecord, tail)
line-read fields tail h =
    ap (λ (text : List ℕ). next_record default_config st.StartRecord [] [] (text ++ tail)) (sym (line-written fields h))
    ∙ read-write fields tail
    ∙ ap (λ (read : Record). Some (read, st.StartRecord, tail)) (back fields h)

reached : (rows : List Record) → AllByRecursion IsPlainRecord rows
    → Reached default_config st.StartRecord (plain_table_text rows) rows st.StartRecord []
unfolding Reached
reached [] h = (refl, refl)
reached (row ∷ rows) h = ((row, st.StartRecord, plain_table_text rows), line-read row (plain_table_text rows) h.0, refl, reached rows h.1)

nothing_left : next_record default_config st.StartRecord [] [] [] ≡ None
unfolding next_record
nothing_left = refl

-- the lines of plain records are read as these records
pub plain_text-records : (rows : List Record) → AllByRecursion IsPlainRecord rows → records default_config (plain_table_text rows) ≡ rows
plain_text-records rows h = sym (all_records default_config (plain_table_text rows) rows (st.StartRecord, [], reached rows h, nothing_left))

unmarked : (b : ℕ) (text : List ℕ) → is_mark b ≡ false → strip_bom (b ∷ text) ≡ b ∷ text
unfolding strip_bom
unmarked b [] h = refl
unmarked b (c ∷ []) h = refl
unmarked b (c ∷ d ∷ text) h = rw (no_mark b h).4 refl

unmarked_text : (rows : List Record) → AllByRecursion IsPlainRecord rows → strip_bom (plain_table_text rows) ≡ plain_table_text rows
unfolding strip_bom
unmarked_text [] h = refl
unmarked_text ([] ∷ rows) h = absurd (omega (arith, h.0.some))
unmarked_text (([] ∷ more) ∷ rows) h = absurd (omega (arith, h.0.plain.0.some))
unmarked_text (((b ∷ field) ∷ more) ∷ rows) h =
    unmarked b ((field ++ line_end more) ++ plain_table_text rows) (or_parts (is_mark b) (list_any is_mark field) h.0.plain.0.plain).0

-- and no byte order mark is dropped
pub plain_text-read : (rows : List Record) → AllByRecursion IsPlainRecord rows → records_of (plain_table_text rows) ≡ rows
unfolding records_of
plain_text-read rows h =
    let same = unmarked_text rows h in
    rw (same, same) (plain_text-records rows h)
