-- The places of areas that rows of roads give.
use Rattle.std.proofs.Common.{◌≡◌, ℕ, ◌<◌, Option, Some, None, List, [], ◌∷◌, length, get_or, refl, sym, ◌∙◌, subst, arith}
use Rattle.std.specs.Prelude.{All, unwrap_or}
use Rattle.std.specs.List.{range_with_len}
use Rattle.std.specs.Str.{bytes_eq}
use Rattle.std.proofs.lemmas.List.{length-map}
use Rattle.std.proofs.lemmas.List.Elements.{All-map}
use Rattle.std.proofs.lemmas.Option.{option_and_then_some}
use Rattle.area_tables.specs.Areas.{AreaEntry, areas_or_default}
use Rattle.table_reader.specs.NameIndex.{names_of, place_among}
use Rattle.table_reader.specs.ByNumber.{NumberedRow, field_for, given_to, given_by_number}
use Rattle.area_tables.specs.Roads.{area_by_arc}
use Rattle.network_tables.specs.NetworkModel.{AreBelow}
use Rattle.table_reader.proofs.Lists.{map-map, position_within}
use Rattle.table_reader.proofs.NumberedRows.{length-given_by_number}

pub length-area_by_arc : (arcs : ℕ) (names : List (List ℕ)) (rows : List NumberedRow) → length (area_by_arc arcs names rows) ≡ arcs
length-area_by_arc arcs names rows = length-map (given_by_number arcs (place_among names) rows) (λ (o : Option ℕ). unwrap_or o 0)
    ∙ length-given_by_number arcs (place_among names) rows

place_below : (names : List (List ℕ)) (rows : List NumberedRow) (v : ℕ) → 0 < length names → unwrap_or (given_to (place_among names) rows v) 0 < length names
place_below names rows v some = by (given_to (place_among names) rows v)
    (λ i is. option_and_then_some (place_among names) (field_for rows v) i is (λ name _ found. position_within (bytes_eq name) names i found))
  where
    by : (o : Option ℕ) → ((i : ℕ) → o ≡ Some i → i < length names) → unwrap_or o 0 < length names
    by None within = some
    by (Some i) within = within i refl

-- each arc's area is one of the areas
pub area_by_arc-within : (arcs : ℕ) (names : List (List ℕ)) (rows : List NumberedRow) → 0 < length names → AreBelow (length names) (area_by_arc arcs names rows)
unfolding given_by_number
area_by_arc-within arcs names rows some =
    subst (λ (places : List ℕ). All (λ i. i < length names) places)
    (sym (map-map (λ (o : Option ℕ). unwrap_or o 0) (given_to (place_among names) rows) (range_with_len 1 arcs)))
    (All-map (λ i. i < length names) (λ v. unwrap_or (given_to (place_among names) rows v) 0) (range_with_len 1 arcs)
    (λ k d _. place_below names rows (get_or (range_with_len 1 arcs) k d) some))

-- there is an area
pub some_areas : (areas : List AreaEntry) → 0 < length (names_of (areas_or_default areas))
some_areas [] = omega arith
some_areas (a ∷ areas) = omega arith
