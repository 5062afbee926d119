-- The tables of a drawn network have no fault, and state what is drawn.
use Rattle.std.proofs.Common.{◌≡◌, ℕ, ◌*◌, ◌≤◌, None, List, length, map, arith}
use Rattle.route_base.specs.declared.limits.TheConstants.{MOST_CLOSURES, MOST_PARKING_ROWS}
use Rattle.table_reader.specs.Records.{records_of, rows_of}
use Rattle.table_reader.specs.Schema.{first_table_fault}
use Rattle.network_tables.specs.Closures.{closures_in, closures_schema}
use Rattle.network_tables.specs.Parking.{parked_in, parking_schema}
use Rattle.network_tables.specs.Ratings.{ratings_in}
use Rattle.net_generator.specs.Layout.{roads_drawn, parking_drawn}
use Rattle.net_generator.specs.Generated.{closures_after, closures_file, parking_file, ratings_file}
use Rattle.drawn_network.specs.DrawnRows.{closure_read, parking_read, three_ratings}
use Rattle.drawn_network.proofs.ClosuresTable.{closures_text-faultless, closures_text-read}
use Rattle.drawn_network.proofs.DrawnClosures.{closures_drawn-lawful, closures_drawn-length}
use Rattle.drawn_network.proofs.DrawnParking.{parking_drawn-rising, parking_drawn-length}
use Rattle.drawn_network.proofs.ParkingTable.{parkings_text-faultless, parkings_text-read}

-- the arcs of a drawn network
abbrev pub arcs_drawn : ℕ → ℕ → ℕ → ℕ
arcs_drawn number rows columns = length (roads_drawn number rows columns).values

pub closures_file-faultless : (number rows columns : ℕ) → arcs_drawn number rows columns ≤ MOST_CLOSURES
    → first_table_fault (closures_schema (arcs_drawn number rows columns)) (records_of (closures_file number rows columns)) ≡ None
closures_file-faultless number rows columns few =
    let arcs = arcs_drawn number rows columns in
    let start = (roads_drawn number rows columns).state in
    closures_text-faultless arcs (closures_after number rows columns).values (omega (arith, few)) (closures_drawn-lawful arcs start)
    (omega (arith, few, closures_drawn-length arcs start))

pub parking_file-faultless : (number rows columns : ℕ) (names : List (List ℕ)) → rows * columns ≤ MOST_PARKING_ROWS
    → first_table_fault (parking_schema (rows * columns) (ratings_in (rows_of ratings_file)) names) (records_of (parking_file number rows columns)) ≡ None
parking_file-faultless number rows columns names few =
    let start = (closures_after number rows columns).state in
    parkings_text-faultless (rows * columns) names _ (omega (arith, few)) (parking_drawn-rising (rows * columns) start)
    (omega (arith, few, parking_drawn-length (rows * columns) start))

-- the closures that are read are those that are drawn
pub closures_file-read : (number rows columns : ℕ) → arcs_drawn number rows columns ≤ MOST_CLOSURES
    → closures_in (rows_of (closures_file number rows columns)) ≡ map closure_read (closures_after number rows columns).values
closures_file-read number rows columns few =
    let arcs = arcs_drawn number rows columns in
    closures_text-read arcs (closures_after number rows columns).values (omega (arith, few))
    (closures_drawn-lawful arcs (roads_drawn number rows columns).state)

-- and so are the parking areas
pub parking_file-read : (number rows columns : ℕ) (names : List (List ℕ)) → rows * columns ≤ MOST_PARKING_ROWS
    → parked_in (rows * columns) three_ratings names (rows_of (parking_file number rows columns))
    ≡ map parking_read (parking_drawn (rows * columns) (closures_after number rows columns).state).values
parking_file-read number rows columns names few =
    let start = (closures_after number rows columns).state in
    parkings_text-read (rows * columns) names _ (omega (arith, few)) (parking_drawn-rising (rows * columns) start)
