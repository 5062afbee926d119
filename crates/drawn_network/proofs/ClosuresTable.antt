-- The table of lawful closures has no fault.
use Rattle.std.proofs.Common.{◌≡◌, ℕ, ◌+◌, ◌≤◌, Some, None, List, [], ◌∷◌, ◌++◌, length, map, refl, ◌∙◌, ap, arith, append_assoc, length-append}
use Rattle.std.specs.Prelude.{All, codes, decimal, flat_map}
use Rattle.std.specs.List.{AllByRecursion}
use Rattle.std.proofs.lemmas.Bool.{le-leb, lt-ltb}
use Rattle.std.proofs.lemmas.List.Elements.{All-head, All-tail}
use Rattle.route_base.specs.declared.limits.TheConstants.{MOST_CLOSURES}
use Rattle.table_reader.specs.Records.{Record, records_of, rows_in, rows_of}
use Rattle.table_reader.specs.Schema.{row_fault_from, first_table_fault}
use Rattle.network_tables.specs.Closures.{closure_of, cause_of_closure, closures_in, closures_schema}
use Rattle.net_generator.specs.Generated.{closure_text, closures_text}
use Rattle.net_generator.specs.declared.layout.Closure.{Closure}
use Rattle.drawn_network.specs.DrawnRows.{closure_read}
use Rattle.drawn_network.proofs.DecimalFields.{decimal-plain, table_number-read, instant-of_decimal}
use Rattle.drawn_network.proofs.FaultlessRows.{row_fault-more, first_table_fault-none}
use Rattle.drawn_network.proofs.LawfulRows.{IsLawfulClosure}
use Rattle.drawn_network.proofs.PlainText.{IsPlainRecord, row_line, plain_table_text, plain_text-read}

abbrev header : Record
header = codes "arc" ∷ codes "from" ∷ codes "to" ∷ []

abbrev closure_record : Closure → Record
closure_record closure = decimal closure.arc ∷ decimal closure.from ∷ decimal closure.to ∷ []

row-text : (closure : Closure) → closure_text closure ≡ row_line (closure_record closure)
row-text closure = simp append_assoc

rows-text : (closures : List Closure) → flat_map closure_text closures ≡ plain_table_text (map closure_record closures)
rows-text [] = refl
rows-text (closure ∷ more) = rw (row-text closure, rows-text more) refl

header-plain : IsPlainRecord header
header-plain = record {
  some = omega arith;
  plain = (
    record { some = omega arith; plain = refl },
    (record { some = omega arith; plain = refl }, (record { some = omega arith; plain = refl }, tt)),
  );
}

row-plain : (arcs : ℕ) (closure : Closure) → arcs ≤ 4294967295 → IsLawfulClosure arcs closure → IsPlainRecord (closure_record closure)
row-plain arcs closure few h = record {
  some = omega arith;
  plain = (
    decimal-plain closure.arc (omega (arith, h.high, few)),
    (decimal-plain closure.from (omega (arith, h.from.1)), (decimal-plain closure.to (omega (arith, h.to.1)), tt)),
  );
}

rows-plain : (arcs : ℕ) (closures : List Closure) → arcs ≤ 4294967295 → All (IsLawfulClosure arcs) closures
    → AllByRecursion IsPlainRecord (map closure_record closures)
rows-plain arcs [] few h = tt
rows-plain arcs (closure ∷ more) few h =
    (row-plain arcs closure few (All-head (IsLawfulClosure arcs) closure more h), rows-plain arcs more few (All-tail (IsLawfulClosure arcs) closure more h))

-- a lawful closure is read as it was written
row-read : (arcs : ℕ) (closure : Closure) → arcs ≤ 4294967295 → IsLawfulClosure arcs closure
    → closure_of (closure_record closure) ≡ Some (closure_read closure)
row-read arcs closure few h =
    rw (
      table_number-read closure.arc (omega (arith, h.high, few)),
      instant-of_decimal closure.from h.from,
      instant-of_decimal closure.to h.to,
    ) refl

rows-read : (arcs : ℕ) (closures : List Closure) → arcs ≤ 4294967295 → All (IsLawfulClosure arcs) closures
    → closures_in (map closure_record closures) ≡ map closure_read closures
rows-read arcs [] few h = refl
rows-read arcs (closure ∷ more) few h =
    rw (
      row-read arcs closure few (All-head (IsLawfulClosure arcs) closure more h),
      rows-read arcs more few (All-tail (IsLawfulClosure arcs) closure more h),
    ) refl

no_cause : (arcs : ℕ) (closure : Closure) → arcs ≤ 4294967295 → IsLawfulClosure arcs closure
    → cause_of_closure arcs (closure_of (closure_record closure)) ≡ None
no_cause arcs closure few h =
    rw (
      row-read arcs closure few h,
      le-leb 1 closure.arc h.low,
      le-leb closure.arc arcs h.high,
      lt-ltb closure.from closure.to h.rises,
    ) refl

no_row_fault : (arcs : ℕ) (before : List Record) (closures : List Closure) → arcs ≤ 4294967295 → All (IsLawfulClosure arcs) closures
    → length before + length closures ≤ MOST_CLOSURES
    → row_fault_from (closures_schema arcs) header before (map closure_record closures) ≡ None
no_row_fault arcs before [] few h room = refl
no_row_fault arcs before (closure ∷ more) few h room =
    let row = closure_record closure in
    row_fault-more (closures_schema arcs) header before row (map closure_record more) refl (omega (arith, room))
    (no_cause arcs closure few (All-head (IsLawfulClosure arcs) closure more h))
    (no_row_fault arcs (before ++ row ∷ []) more few (All-tail (IsLawfulClosure arcs) closure more h) (omega (arith, room, length-append before (row ∷ []))))

table-records : (arcs : ℕ) (closures : List Closure) → arcs ≤ 4294967295 → All (IsLawfulClosure arcs) closures
    → records_of (closures_text closures) ≡ header ∷ map closure_record closures
table-records arcs closures few h =
    ap (λ (text : List ℕ). records_of (codes "arc,from,to\n" ++ text)) (rows-text closures)
    ∙ plain_text-read (header ∷ map closure_record closures) (header-plain, rows-plain arcs closures few h)

pub closures_text-faultless : (arcs : ℕ) (closures : List Closure) → arcs ≤ 4294967295 → All (IsLawfulClosure arcs) closures
    → length closures ≤ MOST_CLOSURES → first_table_fault (closures_schema arcs) (records_of (closures_text closures)) ≡ None
closures_text-faultless arcs closures few h room =
    ap (λ (rows : List Record). first_table_fault (closures_schema arcs) rows) (table-records arcs closures few h)
    ∙ first_table_fault-none (closures_schema arcs) header (map closure_record closures) refl
    (no_row_fault arcs [] closures few h (omega (arith, room)))

-- the table states the closures
pub closures_text-read : (arcs : ℕ) (closures : List Closure) → arcs ≤ 4294967295 → All (IsLawfulClosure arcs) closures
    → closures_in (rows_of (closures_text closures)) ≡ map closure_read closures
closures_text-read arcs closures few h =
    ap (λ (rows : List Record). closures_in (rows_in rows)) (table-records arcs closures few h) ∙ rows-read arcs closures few h
