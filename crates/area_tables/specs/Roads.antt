-- roads.csv: the area of each arc (source: own).
use Rattle.std.specs.Prelude.{ℕ, List, map, codes, unwrap_or}
use Rattle.route_base.specs.declared.limits.TheConstants.{MOST_ROAD_ROWS}
use Rattle.route_base.specs.Forms.{is_name}
use Rattle.table_reader.specs.Schema.{Schema}
use Rattle.table_reader.specs.NameIndex.{place_among}
use Rattle.table_reader.specs.ByNumber.{NumberedRow, numbered_schema, given_by_number}

-- an arc from 1 to `arcs`, and the name of its area
abbrev pub roads_schema : ℕ → List (List ℕ) → Schema
roads_schema arcs areas = numbered_schema (codes "arc") (codes "area") MOST_ROAD_ROWS is_name arcs (place_among areas)

-- the places of the areas of the arcs 1, 2 and so on; an arc without a row is in the first area
abbrev pub area_by_arc : ℕ → List (List ℕ) → List NumberedRow → List ℕ
area_by_arc arcs areas roads = map (λ o. unwrap_or o 0) (given_by_number arcs (place_among areas) roads)
