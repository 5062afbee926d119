-- Areas by their zones and their holidays.
use Rattle.std.proofs.Common.{◌≡◌, ℕ, zero, suc, ◌<◌, Option, Some, List, [], ◌∷◌, length, map, get_or, refl, sym, ◌∙◌, ap, arith}
use Rattle.std.specs.Prelude.{slice_get, unwrap_or}
use Rattle.std.specs.Option.{option_map}
use Rattle.std.proofs.lemmas.List.{length-map}
use Rattle.std.proofs.lemmas.Option.{slice_get-map, slice_get_read}
use Rattle.opening_hours.specs.Holidays.{HolidayLists}
use Rattle.zone_rules.specs.declared.rows.ZoneRow.{ZoneRow}
use Rattle.network_tables.specs.NetworkParts.{zones_at, areas_with}
use Rattle.area_tables.specs.Areas.{AreaEntry}
use Rattle.network_tables.specs.NetworkModel.{Area}

pub length-areas_with : (zones : List (List ZoneRow)) (holidays : List HolidayLists) → length holidays ≡ length zones
    → length (areas_with zones holidays) ≡ length zones
length-areas_with [] holidays e = refl
length-areas_with (z ∷ zones) [] e = absurd (omega (arith, e))
length-areas_with (z ∷ zones) (h ∷ holidays) e = ap suc (length-areas_with zones holidays (omega (arith, e)))

pub zone_with : (zones : List (List ZoneRow)) (holidays : List HolidayLists) (i : ℕ) → length holidays ≡ length zones
    → option_map (λ (a : Area). a.zone) (slice_get (areas_with zones holidays) i) ≡ slice_get zones i
zone_with [] holidays i e = refl
zone_with (z ∷ zones) [] i e = absurd (omega (arith, e))
zone_with (z ∷ zones) (h ∷ holidays) zero e = refl
zone_with (z ∷ zones) (h ∷ holidays) (suc i) e = zone_with zones holidays i (omega (arith, e))

pub holidays_with : (zones : List (List ZoneRow)) (holidays : List HolidayLists) (i : ℕ) → length holidays ≡ length zones
    → option_map (λ (a : Area). a.holidays) (slice_get (areas_with zones holidays) i) ≡ slice_get holidays i
holidays_with [] [] i e = refl
holidays_with [] (h ∷ holidays) i e = absurd (omega (arith, e))
holidays_with (z ∷ zones) [] i e = absurd (omega (arith, e))
holidays_with (z ∷ zones) (h ∷ holidays) zero e = refl
holidays_with (z ∷ zones) (h ∷ holidays) (suc i) e = holidays_with zones holidays i (omega (arith, e))

-- zones and holidays that are those of the same areas
pub areas_each : (f : AreaEntry → List ZoneRow) (g : AreaEntry → HolidayLists) (areas : List AreaEntry)
    → areas_with (map f areas) (map g areas) ≡ map (λ a. record { zone = f a; holidays = g a }) areas
areas_each f g [] = refl
areas_each f g (a ∷ areas) = ap (λ (more : List Area). record { zone = f a; holidays = g a } ∷ more) (areas_each f g areas)

-- areas that name their zones by places
module _ (zones : List (List ZoneRow)) (places : List ℕ) (holidays : List HolidayLists) (each : length holidays ≡ length places) where
  abbrev zone_there : ℕ → List ZoneRow
  zone_there i = unwrap_or (slice_get zones i) []

  pub as_many : length holidays ≡ length (zones_at zones places)
  as_many = each ∙ sym (length-map places zone_there)

  pub size_at : length (areas_with (zones_at zones places) holidays) ≡ length places
  size_at = length-areas_with (zones_at zones places) holidays as_many ∙ length-map places zone_there

  -- an area of the network has a place
  pub place_within : (areas : List Area) (area : ℕ) → areas_with (zones_at zones places) holidays ≡ areas → area < length areas → area < length places
  place_within areas area seen within = omega (arith, ap (λ (list : List Area). length list) seen, size_at, within)

  pub zone_at_place : (area place : ℕ) (zone : List ZoneRow) → area < length places → place ≡ get_or places area place → place < length zones
      → zone ≡ get_or zones place zone
      → option_map (λ (a : Area). a.zone) (slice_get (areas_with (zones_at zones places) holidays) area) ≡ Some zone
  zone_at_place area place zone within is there stands =
      zone_with (zones_at zones places) holidays area as_many
      ∙ slice_get-map zone_there places area
      ∙ ap (λ (o : Option ℕ). option_map zone_there o) (slice_get_read places (length places) area place refl within is)
      ∙ ap (λ (o : Option (List ZoneRow)). Some (unwrap_or o [])) (slice_get_read zones (length zones) place zone refl there stands)

  pub holidays_at_place : (area : ℕ) (h : HolidayLists) → area < length places → h ≡ get_or holidays area h
      → option_map (λ (a : Area). a.holidays) (slice_get (areas_with (zones_at zones places) holidays) area) ≡ Some h
  holidays_at_place area h within is =
      holidays_with (zones_at zones places) holidays area as_many ∙ slice_get_read holidays (length holidays) area h refl (omega (arith, each, within)) is
