-- The table of lawful parking areas at rising nodes has no fault.
use Rattle.std.proofs.Common.{◌≡◌, inl, inr, ℕ, suc, ◌+◌, ◌≤◌, true, false, eqb, Some, None, Option, Result, Ok, List, [], ◌∷◌, ◌++◌, length, map}
use Rattle.std.proofs.Common.{refl, sym, ◌∙◌, ap, subst, arith, append_assoc, length-append}
use Rattle.std.specs.Prelude.{codes, decimal, flat_map, is_some, unwrap_or, if◌then◌else◌}
use Rattle.std.specs.List.{AllByRecursion, cons_option, list_any}
use Rattle.std.proofs.lemmas.Bool.{le-leb, ne_eqb, cases_eq}
use Rattle.route_base.specs.Forms.{is_name}
use Rattle.route_base.specs.declared.limits.TheConstants.{MOST_PARKING_ROWS}
use Rattle.table_reader.specs.NameIndex.{value_under}
use Rattle.table_reader.specs.Records.{Record, records_of, rows_in, rows_of}
use Rattle.table_reader.specs.Schema.{row_fault_from, first_table_fault}
use Rattle.table_reader.proofs.Lists.{lookup-other, filter_map-push}
use Rattle.route_base.specs.declared.faults.Cause.{Cause}
use Rattle.route_base.specs.declared.faults.Cause.TheVariants.{Duplicate}
use Rattle.network_tables.specs.Parking.{ParkRow, Parked, cause_of_parking, park_for, parked_in, parked_of, parked_stated, parking_schema}
use Rattle.network_tables.specs.Ratings.{Rating, ratings_in}
use Rattle.net_generator.specs.Generated.{parking_text, parkings_text, ratings_file}
use Rattle.net_generator.specs.declared.layout.Parking.{Parking}
use Rattle.drawn_network.specs.DrawnRows.{parking_read, three_ratings}
use Rattle.drawn_network.proofs.DecimalFields.{decimal-plain, table_number-read}
use Rattle.drawn_network.proofs.FaultlessRows.{row_fault-more, first_table_fault-none}
use Rattle.drawn_network.proofs.LawfulRows.{IsLawfulParking, AreRisingRows}
use Rattle.drawn_network.proofs.PlainText.{is_mark, IsPlainRecord, row_line, plain_table_text, plain_text-read}
use Rattle.drawn_network.proofs.RatingsTable.{ratings_file-ratings}

abbrev header : Record
header = codes "node" ∷ codes "rating" ∷ []

abbrev parking_record : Parking → Record
parking_record area = decimal area.node ∷ (area.rating ∷ []) ∷ []

row-text : (area : Parking) → parking_text area ≡ row_line (parking_record area)
row-text area = simp append_assoc

rows-text : (areas : List Parking) → flat_map parking_text areas ≡ plain_table_text (map parking_record areas)
rows-text [] = refl
rows-text (area ∷ more) = rw (row-text area, rows-text more) refl

-- what holds of the three letters holds of each rating
each_letter : (P : ℕ → Type 0) (rating : ℕ) → 97 ≤ rating → rating ≤ 99 → P 97 → P 98 → P 99 → P rating
each_letter P rating low high a b c = elim (cases_eq rating 97) [
  | inl same ↦ subst P (sym same) a
  | inr no_a ↦ elim (cases_eq rating 98) [
    | inl same ↦ subst P (sym same) b
    | inr no_b ↦ subst P (omega (arith, low, high, no_a, no_b)) c
  ]
]

-- a letter is a plain field and a name
letter-plain : (rating : ℕ) → 97 ≤ rating → rating ≤ 99 → list_any is_mark (rating ∷ []) ≡ false
letter-plain rating low high = each_letter (λ r. list_any is_mark (r ∷ []) ≡ false) rating low high refl refl refl

letter-name : (rating : ℕ) → 97 ≤ rating → rating ≤ 99 → is_name (rating ∷ []) ≡ true
letter-name rating low high = each_letter (λ r. is_name (r ∷ []) ≡ true) rating low high refl refl refl

header-plain : IsPlainRecord header
header-plain = record {
  some = omega arith;
  plain = (record { some = omega arith; plain = refl }, (record { some = omega arith; plain = refl }, tt));
}

row-plain : (first last : ℕ) (area : Parking) → last ≤ 4294967295 → IsLawfulParking first last area → IsPlainRecord (parking_record area)
row-plain first last area few h = record {
  some = omega arith;
  plain = (
    decimal-plain area.node (omega (arith, h.high, few)),
    (record { some = omega arith; plain = letter-plain area.rating h.rating_low h.rating_high }, tt),
  );
}

rows-plain : (first last : ℕ) (areas : List Parking) → last ≤ 4294967295 → AreRisingRows first last areas
    → AllByRecursion IsPlainRecord (map parking_record areas)
rows-plain first last [] few h = tt
rows-plain first last (area ∷ more) few h = (row-plain first last area few h.0, rows-plain (suc area.node) last more few h.1)

-- and the weight of a rating
letter-weight : (rating : ℕ) → 97 ≤ rating → rating ≤ 99
    → value_under three_ratings (rating ∷ []) ≡ Some (unwrap_or (value_under three_ratings (rating ∷ [])) 0)
letter-weight rating low high =
    each_letter (λ r. value_under three_ratings (r ∷ []) ≡ Some (unwrap_or (value_under three_ratings (r ∷ [])) 0)) rating low high refl refl refl

-- tables over these ratings, and any areas
module _ (nodes : ℕ) (few : nodes ≤ 4294967295) (areas : List (List ℕ)) where
  abbrev read : Record → Result Parked Cause
  read row = parked_of nodes three_ratings areas row

  abbrev stated : List Record → List Parked
  stated rows = parked_in nodes three_ratings areas rows

  row-read : (first : ℕ) (area : Parking) → 1 ≤ first → IsLawfulParking first nodes area → read (parking_record area) ≡ Ok (parking_read area)
  row-read first area low h =
      rw (
        letter-name area.rating h.rating_low h.rating_high,
        table_number-read area.node (omega (arith, h.high, few)),
        le-leb 1 area.node (omega (arith, low, h.low)),
        le-leb area.node nodes h.high,
        letter-weight area.rating h.rating_low h.rating_high,
      ) refl

  rows-read : (first : ℕ) (parks : List Parking) → 1 ≤ first → AreRisingRows first nodes parks → stated (map parking_record parks) ≡ map parking_read parks
  rows-read first [] low h = refl
  rows-read first (area ∷ more) low h =
      ap (λ (r : Result Parked Cause). cons_option (parked_stated r) (stated (map parking_record more))) (row-read first area low h.0)
      ∙ ap (λ (parks : List Parked). parking_read area ∷ parks) (rows-read (suc area.node) more (omega arith) h.1)

  -- no node from `first` on has a row
  abbrev AreBefore : ℕ → List Record → Type 0
  AreBefore first before = (v : ℕ) → first ≤ v → park_for (stated before) v ≡ None

  before-more : (first : ℕ) (before : List Record) (area : Parking) → 1 ≤ first → IsLawfulParking first nodes area → AreBefore first before
      → AreBefore (suc area.node) (before ++ parking_record area ∷ [])
  before-more first before area low h none v above =
      ap (λ (parks : List Parked). park_for parks v)
      (filter_map-push (λ r. parked_stated (read r)) before (parking_record area) (parking_read area) (ap parked_stated (row-read first area low h)))
      ∙ lookup-other (λ k. eqb v k) (stated before) (parking_read area) (ne_eqb v area.node (λ e. absurd (omega (arith, e, above))))
      ∙ none v (omega (arith, above, h.low))

  no_cause : (first : ℕ) (before : List Record) (area : Parking) → 1 ≤ first → IsLawfulParking first nodes area → AreBefore first before
      → cause_of_parking (stated before) (read (parking_record area)) ≡ None
  no_cause first before area low h none =
      ap (cause_of_parking (stated before)) (row-read first area low h)
      ∙ ap (λ (o : Option ParkRow). if is_some o then Some Duplicate else None) (none area.node h.low)

  no_row_fault : (first : ℕ) (before : List Record) (parks : List Parking) → 1 ≤ first → AreRisingRows first nodes parks → AreBefore first before
      → length before + length parks ≤ MOST_PARKING_ROWS
      → row_fault_from (parking_schema nodes three_ratings areas) header before (map parking_record parks) ≡ None
  no_row_fault first before [] low h none room = refl
  no_row_fault first before (area ∷ more) low h none room =
      let row = parking_record area in
      row_fault-more (parking_schema nodes three_ratings areas) header before row (map parking_record more) refl (omega (arith, room))
      (no_cause first before area low h.0 none)
      (no_row_fault (suc area.node) (before ++ row ∷ []) more (omega arith) h.1 (before-more first before area low h.0 none)
      (omega (arith, room, length-append before (row ∷ []))))

table-records : (nodes : ℕ) (areas : List Parking) → nodes ≤ 4294967295 → AreRisingRows 1 nodes areas
    → records_of (parkings_text areas) ≡ header ∷ map parking_record areas
table-records nodes areas few h =
    ap (λ (text : List ℕ). records_of (codes "node,rating\n" ++ text)) (rows-text areas)
    ∙ plain_text-read (header ∷ map parking_record areas) (header-plain, rows-plain 1 nodes areas few h)

pub parkings_text-faultless : (nodes : ℕ) (names : List (List ℕ)) (areas : List Parking) → nodes ≤ 4294967295 → AreRisingRows 1 nodes areas
    → length areas ≤ MOST_PARKING_ROWS
    → first_table_fault (parking_schema nodes (ratings_in (rows_of ratings_file)) names) (records_of (parkings_text areas)) ≡ None
parkings_text-faultless nodes names areas few h room =
    let schema = parking_schema nodes three_ratings names in
    ap (λ (ratings : List Rating). first_table_fault (parking_schema nodes ratings names) (records_of (parkings_text areas))) ratings_file-ratings
    ∙ ap (λ (rows : List Record). first_table_fault schema rows) (table-records nodes areas few h)
    ∙ first_table_fault-none schema header (map parking_record areas) refl
    (no_row_fault nodes few names 1 [] areas (omega arith) h (λ v above. refl) (omega (arith, room)))

-- the table states the parking areas
pub parkings_text-read : (nodes : ℕ) (names : List (List ℕ)) (areas : List Parking) → nodes ≤ 4294967295 → AreRisingRows 1 nodes areas
    → parked_in nodes three_ratings names (rows_of (parkings_text areas)) ≡ map parking_read areas
parkings_text-read nodes names areas few h =
    ap (λ (rows : List Record). parked_in nodes three_ratings names (rows_in rows)) (table-records nodes areas few h)
    ∙ rows-read nodes few names 1 areas (omega arith) h
