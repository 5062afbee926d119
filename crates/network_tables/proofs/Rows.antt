-- Worked records: what the definitions say of them, by computing.
use Rattle.std.proofs.Common.{◌≡◌, ℕ, List, [], ◌∷◌, Some, None, refl}
use Rattle.std.specs.Prelude.{codes}
use Rattle.route_base.specs.declared.faults.Cause.TheVariants.{BadHeader, FieldCount, SizeLimit, BadField, Unknown, Duplicate, NotRising}
use Rattle.calendar_days.specs.Days.{days_of_years, days_of_months}
use Rattle.calendar_days.specs.Texts.{instant_of, day_of_text, clock_of}
use Rattle.network_tables.specs.Closures.{closures_schema, closures_in, runs_by_arc}
use Rattle.table_reader.specs.Schema.{Schema, first_table_fault}
use Rattle.table_reader.proofs.WorkedTables.{HaveFaults, two_fields, three_fields}
use Rattle.network_tables.specs.Parking.{parked_in, parking_schema}
use Rattle.network_tables.specs.Ratings.{Rating, ratings_schema, ratings_in}
use Rattle.table_reader.specs.Records.{Record, rows_in}

abbrev closures_header : Record
closures_header = codes "arc" ∷ codes "from" ∷ codes "to" ∷ []

abbrev two_arcs : List Record
two_arcs =
    closures_header ∷ three_fields (codes "2") (codes "26563740") (codes "26563860") ∷ three_fields (codes "02") (codes "26563600") (codes "26563700") ∷ []

closures_faultless : first_table_fault (closures_schema 3) two_arcs ≡ None
unfolding first_table_fault instant_of
closures_faultless = refl

closures_stated : runs_by_arc 3 (closures_in (rows_in two_arcs)) ≡ [] ∷
    (record { lo = 26563740; hi = 26563860 } ∷ record { lo = 26563600; hi = 26563700 } ∷ []) ∷ [] ∷ []
unfolding runs_by_arc instant_of
closures_stated = refl

-- a file without records stands for the header alone
no_records : first_table_fault (closures_schema 3) [] ≡ None
unfolding first_table_fault
no_records = refl

header_alone : HaveFaults (closures_schema 3) closures_header (([], None) ∷ [])
unfolding first_table_fault
header_alone = refl

-- a header in another order, and one field more
header_wrong : HaveFaults (closures_schema 3) (codes "arc" ∷ codes "to" ∷ codes "from" ∷ [])
    ((three_fields (codes "x") (codes "") (codes "") ∷ [], Some (1, BadHeader)) ∷ [])
unfolding first_table_fault instant_of
header_wrong = refl

header_longer : HaveFaults (closures_schema 3) (codes "arc" ∷ codes "from" ∷ codes "to" ∷ codes "why" ∷ []) (([], Some (1, BadHeader)) ∷ [])
unfolding first_table_fault
header_longer = refl

-- a row of two fields; an arc after the last, and one before the first; an end at its start
closure_faults : HaveFaults (closures_schema 3) closures_header (
    (three_fields (codes "2") (codes "26563740") (codes "26563860") ∷ (codes "2" ∷ codes "x" ∷ []) ∷ [], Some (3, FieldCount))
    ∷ (three_fields (codes "4") (codes "26563740") (codes "26563860") ∷ [], Some (2, Unknown))
    ∷ (three_fields (codes "0") (codes "26563740") (codes "26563860") ∷ [], Some (2, Unknown))
    ∷ (three_fields (codes "3") (codes "26563740") (codes "26563740") ∷ [], Some (2, NotRising))
    ∷ [])
unfolding first_table_fault instant_of
closure_faults = refl

-- a field that isn't in its form comes before an arc that isn't there, and that before an end that isn't above its start; an instant
-- may be too early
closure_order : HaveFaults (closures_schema 3) closures_header (
    (three_fields (codes "4") (codes "26563740") (codes "2656374x") ∷ [], Some (2, BadField))
    ∷ (three_fields (codes "4") (codes "26563740") (codes "26563740") ∷ [], Some (2, Unknown))
    ∷ (three_fields (codes "3") (codes "525599") (codes "26563740") ∷ [], Some (2, BadField))
    ∷ [])
unfolding first_table_fault instant_of day_of_text
closure_order = refl

-- instants as texts
texts_read : closures_in (three_fields (codes "1") (codes "2020-07-04T00:00Z") (codes "2020-07-04T01:30:00Z") ∷ [])
    ≡ record { arc = record { 0 = 1 }; run = record { lo = 26563680; hi = 26563770 } } ∷ []
unfolding instant_of day_of_text clock_of days_of_years days_of_months
texts_read = refl

text_without_zone : HaveFaults (closures_schema 3) closures_header
    ((three_fields (codes "1") (codes "2020-07-04T00:00") (codes "2020-07-04T01:00Z") ∷ [], Some (2, BadField)) ∷ [])
unfolding first_table_fault instant_of day_of_text clock_of
text_without_zone = refl

abbrev ratings_header : Record
ratings_header = codes "rating" ∷ codes "weight" ∷ []

ratings_stated : ratings_in (two_fields (codes "r") (codes "2.000") ∷ two_fields (codes "quiet") (codes "0.5") ∷ []) ≡ (codes "r", 2000) ∷
    (codes "quiet", 500) ∷ []
ratings_stated = refl

-- the third row is a duplicate, before the bad field of the fourth; a weight is too large; a bad field comes before a duplicate; a name
-- begins with a dash
rating_faults : HaveFaults ratings_schema ratings_header ((
  two_fields (codes "r") (codes "1") ∷ two_fields (codes "s") (codes "2") ∷ two_fields (codes "r") (codes "3") ∷ two_fields (codes "t") (codes "x") ∷ [],
  Some (4, Duplicate),
)
    ∷ (two_fields (codes "r") (codes "100.001") ∷ [], Some (2, BadField))
    ∷ (two_fields (codes "r") (codes "1") ∷ two_fields (codes "r") (codes "101") ∷ [], Some (3, BadField))
    ∷ (two_fields (codes "-r") (codes "1") ∷ [], Some (2, BadField))
    ∷ [])
unfolding first_table_fault
rating_faults = refl

abbrev two_ratings : List Rating
two_ratings = (codes "r", 2000) ∷ (codes "s", 0) ∷ []

abbrev four_fields : List ℕ → List ℕ → List ℕ → List ℕ → Record
four_fields a b c d = a ∷ b ∷ c ∷ d ∷ []

-- both headers: without an area the first one, and without hours none
parks_stated : parked_in 4 two_ratings (codes "x" ∷ codes "y" ∷ [])
    (two_fields (codes "2") (codes "r") ∷ four_fields (codes "4") (codes "s") (codes "y") (codes "") ∷ [])
    ≡ (2, record { weight = 2000; area = 0; hours = None }) ∷ (4, record { weight = 0; area = 1; hours = None }) ∷ []
parks_stated = refl

-- a node after the last; a rating that isn't there; a node that has a row; a rating that isn't there before a node that has one
parking_faults : HaveFaults (parking_schema 4 two_ratings (codes "x" ∷ [])) (codes "node" ∷ codes "rating" ∷ []) (
    (two_fields (codes "5") (codes "r") ∷ [], Some (2, Unknown))
    ∷ (two_fields (codes "1") (codes "t") ∷ [], Some (2, Unknown))
    ∷ (two_fields (codes "1") (codes "r") ∷ two_fields (codes "01") (codes "s") ∷ [], Some (3, Duplicate))
    ∷ (two_fields (codes "1") (codes "r") ∷ two_fields (codes "1") (codes "t") ∷ [], Some (3, Unknown))
    ∷ (four_fields (codes "1") (codes "r") (codes "") (codes "") ∷ [], Some (2, FieldCount))
    ∷ [])
unfolding first_table_fault
parking_faults = refl

-- under the longer header: an area that isn't there; one that is no name, before a node that isn't there; two fields
parking_hours_faults : HaveFaults (parking_schema 4 two_ratings (codes "x" ∷ [])) (four_fields (codes "node") (codes "rating") (codes "area") (codes "hours")) (
    (four_fields (codes "1") (codes "r") (codes "x") (codes "") ∷ four_fields (codes "1") (codes "r") (codes "") (codes "") ∷ [], Some (3, Duplicate))
    ∷ (four_fields (codes "1") (codes "r") (codes "z") (codes "") ∷ [], Some (2, Unknown))
    ∷ (four_fields (codes "5") (codes "r") (codes "-") (codes "") ∷ [], Some (2, BadField))
    ∷ (two_fields (codes "1") (codes "r") ∷ [], Some (2, FieldCount))
    ∷ [])
unfolding first_table_fault
parking_hours_faults = refl

-- a law with room for one row
abbrev one_row : Schema
one_row = record ratings_schema { limit = 1 }

-- a row too many; the number of fields comes before the number of rows
row_limits : HaveFaults one_row ratings_header (
    (two_fields (codes "r") (codes "1") ∷ two_fields (codes "r") (codes "x") ∷ [], Some (3, SizeLimit))
    ∷ (two_fields (codes "r") (codes "1") ∷ (codes "r" ∷ []) ∷ [], Some (3, FieldCount))
    ∷ [])
unfolding first_table_fault
row_limits = refl
