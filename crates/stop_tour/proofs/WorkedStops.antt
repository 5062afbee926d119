-- Worked tables of stops: what the definitions say of them, by computing.
use Rattle.std.proofs.Common.{◌≡◌, ℕ, List, [], ◌∷◌, Some, None, refl}
use Rattle.std.specs.Prelude.{codes}
use Rattle.route_base.specs.declared.faults.Cause.TheVariants.{FieldCount, BadField, Unknown, NotRising}
use Rattle.calendar_days.specs.Texts.{instant_of}
use Rattle.table_reader.specs.Schema.{first_table_fault}
use Rattle.table_reader.specs.Records.{Record}
use Rattle.table_reader.proofs.WorkedTables.{HaveFaults}
use Rattle.stop_tour.specs.StopTable.{stop_from, stops_schema, stops_in}

abbrev row : List ℕ → List ℕ → List ℕ → List ℕ → Record
row node service from to = node ∷ service ∷ from ∷ to ∷ []

abbrev header : Record
header = row (codes "node") (codes "service") (codes "from") (codes "to")

-- a node may be served twice
stops_stated : stops_in (
    row (codes "2") (codes "30") (codes "26563740") (codes "26563880")
    ∷ row (codes "02") (codes "1440") (codes "26563740") (codes "26565180")
    ∷ [])
    ≡ stop_from 2 30 26563740 26563880 ∷ stop_from 2 1440 26563740 26565180 ∷ []
unfolding instant_of
stops_stated = refl

-- a field that isn't in its form comes before a node that isn't there, and that before an end that isn't above its start
stop_faults : HaveFaults (stops_schema 3) header (
    ((codes "2" ∷ codes "30" ∷ codes "26563740" ∷ []) ∷ [], Some (2, FieldCount))
    ∷ (row (codes "2") (codes "0") (codes "26563740") (codes "26563880") ∷ [], Some (2, BadField))
    ∷ (row (codes "2") (codes "1441") (codes "26563740") (codes "26563880") ∷ [], Some (2, BadField))
    ∷ (row (codes "4") (codes "0") (codes "26563740") (codes "26563740") ∷ [], Some (2, BadField))
    ∷ (row (codes "4") (codes "30") (codes "26563740") (codes "26563740") ∷ [], Some (2, Unknown))
    ∷ (row (codes "0") (codes "30") (codes "26563740") (codes "26563880") ∷ [], Some (2, Unknown))
    ∷ (row (codes "3") (codes "30") (codes "26563740") (codes "26563740") ∷ [], Some (2, NotRising))
    ∷ (row (codes "3") (codes "30") (codes "26563740") (codes "26563741") ∷ [], None)
    ∷ [])
unfolding first_table_fault instant_of
stop_faults = refl
