-- The closures and the parks of a drawn network (source: own).
use Rattle.std.specs.Prelude.{ℕ, ◌*◌, None, List, [], ◌∷◌, length, map, codes, unwrap_or}
use Rattle.route_base.specs.declared.types.Run.{Run}
use Rattle.table_reader.specs.NameIndex.{value_under}
use Rattle.network_tables.specs.Closures.{runs_by_arc}
use Rattle.network_tables.specs.Parking.{Parked}
use Rattle.network_tables.specs.Ratings.{Rating}
use Rattle.network_tables.specs.declared.closures.Closure.{Closure as ReadClosure}
use Rattle.net_generator.specs.Generated.{closures_after}
use Rattle.net_generator.specs.Layout.{roads_drawn, parking_drawn}
use Rattle.net_generator.specs.declared.layout.Closure.{Closure}
use Rattle.net_generator.specs.declared.layout.Parking.{Parking}

-- a drawn closure as it is read
abbrev pub closure_read : Closure → ReadClosure
closure_read closure = record { arc = record { 0 = closure.arc }; run = record { lo = closure.from; hi = closure.to } }

-- the ratings, whose weights are a half, one, and two and a half
abbrev pub three_ratings : List Rating
three_ratings = (codes "a", 500) ∷ (codes "b", 1000) ∷ (codes "c", 2500) ∷ []

-- for each arc the minutes of the closures that are drawn
abbrev pub drawn_runs : ℕ → ℕ → ℕ → List (List Run)
drawn_runs number rows columns =
    runs_by_arc (length (roads_drawn number rows columns).values) (map closure_read (closures_after number rows columns).values)

-- a drawn parking area as it is read: its node and the weight of its rating, and it is always open
abbrev pub parking_read : Parking → Parked
parking_read area = (area.node, record { weight = unwrap_or (value_under three_ratings (area.rating ∷ [])) 0; area = 0; hours = None })

-- the parking areas that are drawn
abbrev pub drawn_parks : ℕ → ℕ → ℕ → List Parked
drawn_parks number rows columns = map parking_read (parking_drawn (rows * columns) (closures_after number rows columns).state).values
