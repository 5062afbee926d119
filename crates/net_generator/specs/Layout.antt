-- A network of rows and columns of nodes, drawn from a number (source: own).
use Rattle.std.specs.Prelude.{ℕ, ◌+◌, ◌*◌, ◌%◌, ◌==◌, Bool, not, nat_le, [], ◌∷◌, if◌then◌else◌}
use Rattle.net_generator.specs.Draws.{next_state, Drawn, undrawn, then_drawn, drawn_to}
use Rattle.net_generator.specs.declared.layout.Road.{Road}
use Rattle.net_generator.specs.declared.layout.Closure.{Closure}
use Rattle.net_generator.specs.declared.layout.Parking.{Parking}

-- a road there and back; its minutes, from 20 to 60, are drawn
abbrev pub both_ways : ℕ → ℕ → ℕ → Drawn Road
both_ways u v s = let minutes = 20 + next_state s % 41 in record {
  values = record { tail = u; head = v; minutes = minutes } ∷ record { tail = v; head = u; minutes = minutes } ∷ [];
  state = next_state s;
}

-- a road there and back, where the neighbour exists
abbrev pub road_to : Bool → ℕ → ℕ → ℕ → Drawn Road
road_to exists u v s = if exists then both_ways u v s else undrawn s

-- nodes are numbered from 1, row by row: a node that isn't the last of its row has a neighbour on its right
abbrev pub has_right : ℕ → ℕ → Bool
has_right columns v = not (v % columns == 0)

-- a node that isn't in the last row has a neighbour below
abbrev pub has_below : ℕ → ℕ → ℕ → Bool
has_below rows columns v = nat_le (v + columns) (rows * columns)

-- the roads to the right and below
abbrev pub roads_at : ℕ → ℕ → ℕ → ℕ → Drawn Road
roads_at rows columns v s =
    let right = road_to (has_right columns v) v (v + 1) s in
    then_drawn right (road_to (has_below rows columns v) v (v + columns) right.state)

-- all roads, in the order of their arc numbers
abbrev pub roads_drawn : ℕ → ℕ → ℕ → Drawn Road
roads_drawn number rows columns = drawn_to (roads_at rows columns) (rows * columns) number

-- a closure that begins within the first ten days, for 1 to 25 hours
abbrev pub drawn_closure : ℕ → ℕ → Drawn Closure
drawn_closure a s =
    let from = 26563680 + next_state s % 14400 in
    let after = next_state (next_state s) in
    record { values = record { arc = a; from = from; to = from + (60 + after % 1440) } ∷ []; state = after }

-- one arc in ten is closed once
abbrev pub closures_at : ℕ → ℕ → Drawn Closure
closures_at a s = if next_state s % 10 == 0 then drawn_closure a (next_state s) else undrawn (next_state s)

-- the closures of that many arcs
abbrev pub closures_drawn : ℕ → ℕ → Drawn Closure
closures_drawn arcs s = drawn_to closures_at arcs s

-- a parking area with one of the ratings `a`, `b` and `c`
abbrev pub drawn_parking : ℕ → ℕ → Drawn Parking
drawn_parking v s = record { values = record { node = v; rating = 97 + next_state s % 3 } ∷ []; state = next_state s }

-- one node in eight has a parking area
abbrev pub parking_at : ℕ → ℕ → Drawn Parking
parking_at v s = if next_state s % 8 == 0 then drawn_parking v (next_state s) else undrawn (next_state s)

-- the parking areas of that many nodes
abbrev pub parking_drawn : ℕ → ℕ → Drawn Parking
parking_drawn nodes s = drawn_to parking_at nodes s
