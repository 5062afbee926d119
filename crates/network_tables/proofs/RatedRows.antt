-- The rows of rated nodes.
use Rattle.std.proofs.Common.{◌≡◌, ℕ, List, ap, sym, ◌∙◌}
use Rattle.std.specs.Prelude.{nat_eq}
use Rattle.std.specs.Map.{lookup}
use Rattle.std.specs.Option.{option_map}
use Rattle.std.proofs.lemmas.Map.Made.{lookup-map_values}
use Rattle.network_tables.specs.NetworkModel.{NetworkModel, park_of}
use Rattle.network_tables.specs.Parking.{Parked, park_for}
use Rattle.network_tables.specs.Parks.{ParkLists, park_with, parks_with}

-- the row of a node is that of its rated node
pub row_of : (network : NetworkModel) (parks : ParkLists) (v : ℕ) → parks_with parks ≡ network.parks
    → park_of network v ≡ option_map (park_with parks.timetables) (lookup (nat_eq v) parks.rated)
row_of network parks v rows =
    ap (λ (list : List Parked). park_for list v) (sym rows) ∙ lookup-map_values (park_with parks.timetables) (nat_eq v) parks.rated
