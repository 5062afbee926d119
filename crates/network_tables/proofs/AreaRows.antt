-- Areas with the places of their zones, as a network has them.
use Rattle.std.proofs.Common.{◌≡◌, ℕ, zero, suc, ◌<◌, Option, List, [], ◌∷◌, length, map}
use Rattle.std.proofs.Common.{get_or, sym, ◌∙◌, ap, arith}
use Rattle.std.specs.Prelude.{unwrap_or, slice_get}
use Rattle.std.specs.Option.{option_and_then}
use Rattle.std.specs.Str.{bytes_eq}
use Rattle.std.proofs.lemmas.List.{length-map}
use Rattle.network_tables.specs.NetworkParts.{zones_at}
use Rattle.area_tables.specs.Areas.{AreaEntry}
use Rattle.table_reader.specs.NameIndex.{value_under, names_of}
use Rattle.network_tables.specs.NetworkFiles.{zone_for}
use Rattle.area_tables.specs.AreaPlaces.{HaveZones, placed_area, sought_area}
use Rattle.area_tables.specs.Zones.{ZoneList}
use Rattle.zone_rules.specs.declared.rows.ZoneRow.{ZoneRow}
use Rattle.table_reader.proofs.Lists.{map-map, position_within, value_at_place}

ends_same : {A : Type 0} (x y : A) (xs ys : List A) → x ∷ xs ≡ y ∷ ys → (x ≡ y) × (xs ≡ ys)
ends_same x y xs ys e = (cc, cc)

-- the rows of a zone that is there
abbrev pub zone_there : Option (List ZoneRow) → List ZoneRow
zone_there o = unwrap_or o []

abbrev zone_of_place : List (List ZoneRow) → List ℕ × Option ℕ → List ZoneRow
zone_of_place zones e = zone_there (option_and_then (slice_get zones) e.1)

-- the zone of a place is that of the name that has the place
zone_at : (zones : ZoneList) (named : List ℕ → Option (List ZoneRow)) → ((name : List ℕ) → value_under zones name ≡ named name) → (a : AreaEntry)
    → zone_of_place (map (λ z. z.1) zones) (sought_area zones a) ≡ zone_for named a
zone_at zones named is a =
    ap (λ (o : Option (List ZoneRow)). zone_there o) (value_at_place (bytes_eq a.1) zones ∙ is a.1)

-- areas that have zones stand in those that they name
pub zones_seen : (zones : ZoneList) (areas : List AreaEntry) (placed : List (List ℕ × ℕ)) (named : List ℕ → Option (List ZoneRow))
    → HaveZones zones areas placed → ((name : List ℕ) → value_under zones name ≡ named name)
    → zones_at (map (λ z. z.1) zones) (map (λ p. p.1) placed) ≡ map (zone_for named) areas
zones_seen zones areas placed named have is =
    map-map (λ (i : ℕ). zone_there (slice_get (map (λ (z : List ℕ × List ZoneRow). z.1) zones) i)) (λ (p : List ℕ × ℕ). p.1) placed
    ∙ sym (map-map (zone_of_place (map (λ (z : List ℕ × List ZoneRow). z.1) zones)) placed_area placed)
    ∙ ap (λ (es : List (List ℕ × Option ℕ)). map (zone_of_place (map (λ (z : List ℕ × List ZoneRow). z.1) zones)) es) have.each
    ∙ map-map (zone_of_place (map (λ (z : List ℕ × List ZoneRow). z.1) zones)) (sought_area zones) areas
    ∙ (λ i. map (λ (a : AreaEntry). zone_at zones named is a i) areas)

-- each of their places is one of a zone
pub places_within : (zones : ZoneList) (areas : List AreaEntry) (placed : List (List ℕ × ℕ)) → HaveZones zones areas placed → (k d : ℕ)
    → k < length (map (λ (p : List ℕ × ℕ). p.1) placed) → get_or (map (λ (p : List ℕ × ℕ). p.1) placed) k d < length zones
places_within zones areas [] have k d there = absurd (omega (arith, there))
places_within zones [] (p ∷ placed) have k d there = absurd (differs have.each)
  where
    differs : placed_area p ∷ map placed_area placed ≡ [] → ⊥
    differs e = cc
places_within zones (a ∷ areas) (p ∷ placed) have zero d there =
    let same = ends_same (placed_area p) (sought_area zones a) (map placed_area placed) (map (sought_area zones) areas) have.each in
    omega (
      arith,
      position_within (bytes_eq a.1) (names_of zones) p.1 (sym (ap (λ (e : List ℕ × Option ℕ). e.1) same.0)),
      length-map zones
          (λ (z : List ℕ × List ZoneRow). z.0),
    )
places_within zones (a ∷ areas) (p ∷ placed) have (suc k) d there =
    let same = ends_same (placed_area p) (sought_area zones a) (map placed_area placed) (map (sought_area zones) areas) have.each in
    places_within zones areas placed (record { each = same.1 }) k d (omega (arith, there))
