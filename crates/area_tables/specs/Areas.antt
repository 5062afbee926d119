-- areas.csv: the zone of each area (source: own).
use Rattle.std.specs.Prelude.{ℕ, ◌&&◌, is_some, Option, Some, None, List, [], ◌∷◌, codes, if◌then◌else◌}
use Rattle.std.specs.List.{filter_map}
use Rattle.route_base.specs.Forms.{is_name}
use Rattle.route_base.specs.declared.faults.Cause.{Cause}
use Rattle.route_base.specs.declared.faults.Cause.TheVariants.{BadField, Unknown, Duplicate}
use Rattle.route_base.specs.declared.limits.TheConstants.{MOST_AREAS}
use Rattle.table_reader.specs.Schema.{Schema}
use Rattle.table_reader.specs.NameIndex.{value_under}
use Rattle.table_reader.specs.Records.{Record}

-- the names of an area and of its zone
abbrev pub AreaEntry : Type 0
AreaEntry = List ℕ × List ℕ

-- two names
abbrev pub area_of_record : Record → Option AreaEntry
area_of_record (area ∷ zone ∷ []) = if is_name area && is_name zone then Some (area, zone) else None
area_of_record others = None

-- the zone is known, and the area has no row yet
abbrev pub cause_of_area : {Z : Type 0} → (List ℕ → Option Z) → List AreaEntry → Option AreaEntry → Option Cause
cause_of_area zones before None = Some BadField
cause_of_area zones before (Some a) =
    if is_some (zones a.1) then (if is_some (value_under before a.0) then Some Duplicate else None) else Some Unknown

-- the areas of these rows in their order
abbrev pub areas_in : List Record → List AreaEntry
areas_in rows = filter_map area_of_record rows

-- two names
abbrev pub areas_schema : {Z : Type 0} → (List ℕ → Option Z) → Schema
areas_schema zones = record {
  headers = (codes "area" ∷ codes "zone" ∷ []) ∷ [];
  limit = MOST_AREAS;
  cause = λ header before row. cause_of_area zones (areas_in before) (area_of_record row);
}

-- the areas of these rows; without rows the area `default` in the zone `UTC`
abbrev pub areas_or_default : List AreaEntry → List AreaEntry
areas_or_default [] = (codes "default", codes "UTC") ∷ []
areas_or_default (area ∷ more) = area ∷ more
