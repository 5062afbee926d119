-- Areas with the places of their zones, after one row more and without rows.
use Rattle.std.proofs.Common.{◌≡◌, ℕ, Bool, true, cond, Option, Some, None, List, [], ◌∷◌, ◌++◌, length, map}
use Rattle.std.proofs.Common.{refl, sym, ◌∙◌, ap, arith}
use Rattle.std.specs.Prelude.{codes}
use Rattle.std.specs.List.{list_any}
use Rattle.std.specs.Option.{is_some}
use Rattle.std.specs.Str.{bytes_eq}
use Rattle.std.proofs.lemmas.List.{map-append}
use Rattle.std.proofs.lemmas.Map.Made.{is_some-lookup}
use Rattle.route_base.specs.declared.faults.Cause.TheVariants.{Duplicate}
use Rattle.area_tables.specs.Areas.{AreaEntry, cause_of_area, areas_or_default}
use Rattle.table_reader.specs.NameIndex.{value_under, names_of, place_among}
use Rattle.area_tables.specs.AreaPlaces.{HaveZones, placed_area, sought_area}
use Rattle.area_tables.specs.Zones.{ZoneList}
use Rattle.table_reader.proofs.Lists.{map-map, is_some-position}

-- a name that has a place has a value
pub place_is_some : {V : Type 0} (es : List (List ℕ × V)) (name : List ℕ) → is_some (place_among (names_of es) name) ≡ is_some (value_under es name)
place_is_some es name = is_some-position (bytes_eq name) (names_of es) ∙ sym (is_some-lookup (bytes_eq name) es)

module _ (zones : ZoneList) (areas : List AreaEntry) (placed : List (List ℕ × ℕ)) (have : HaveZones zones areas placed) where
  pub names_kept : names_of placed ≡ names_of areas
  names_kept =
      sym (map-map (λ (e : List ℕ × Option ℕ). e.0) placed_area placed)
      ∙ ap (λ (es : List (List ℕ × Option ℕ)). map (λ (e : List ℕ × Option ℕ). e.0) es) have.each
      ∙ map-map (λ (e : List ℕ × Option ℕ). e.0) (sought_area zones) areas

  -- an area has a place where it has a row
  pub area_is_some : (name : List ℕ) → is_some (value_under placed name) ≡ is_some (value_under areas name)
  area_is_some name =
      is_some-lookup (bytes_eq name) placed ∙ ap (λ (names : List (List ℕ)). list_any (bytes_eq name) names) names_kept
      ∙ sym (is_some-lookup (bytes_eq name) areas)

  pub HaveZones-more : (a : AreaEntry) (i : ℕ) → place_among (names_of zones) a.1 ≡ Some i → HaveZones zones (areas ++ a ∷ []) (placed ++ (a.0, i) ∷ [])
  HaveZones-more a i is = record {
    each =
        map-append placed_area placed ((a.0, i) ∷ [])
        ∙ ap (λ (es : List (List ℕ × Option ℕ)). es ++ (a.0, Some i) ∷ []) have.each
        ∙ ap (λ (o : Option ℕ). map (sought_area zones) areas ++ (a.0, o) ∷ []) (sym is)
        ∙ sym (map-append (sought_area zones) areas (a ∷ []));
  }

  -- why a row can't follow, once its zone is there
  pub cause_placed : (a : AreaEntry) (i : ℕ) (b : Bool) → place_among (names_of zones) a.1 ≡ Some i → is_some (value_under placed a.0) ≡ b
      → cause_of_area (value_under zones) areas (Some a) ≡ cond b (Some Duplicate) None
  cause_placed a i b is held =
      let known : is_some (value_under zones a.1) ≡ true = sym (place_is_some zones a.1) ∙ ap (λ (o : Option ℕ). is_some o) is in
      let taken : is_some (value_under areas a.0) ≡ b = sym (area_is_some a.0) ∙ held in
      rw (known, taken) refl

pub HaveZones-first : (zones : ZoneList) → HaveZones zones [] []
HaveZones-first zones = record { each = refl }

-- where there are no areas, the one in UTC
pub standing_first : (zones : ZoneList) (areas : List AreaEntry) (placed : List (List ℕ × ℕ)) (i : ℕ) → HaveZones zones areas placed
    → length placed ≡ 0 → place_among (names_of zones) (codes "UTC") ≡ Some i
    → HaveZones zones (areas_or_default areas) (placed ++ (codes "default", i) ∷ [])
standing_first zones [] [] i have none is = HaveZones-more zones [] [] have (codes "default", codes "UTC") i is
standing_first zones (a ∷ areas) [] i have none is = absurd (differs have.each)
  where
    differs : [] ≡ sought_area zones a ∷ map (sought_area zones) areas → ⊥
    differs e = cc
standing_first zones areas (p ∷ placed) i have none is = absurd (omega (arith, none))

-- and else those that are there
pub standing_kept : (zones : ZoneList) (areas : List AreaEntry) (placed : List (List ℕ × ℕ)) → HaveZones zones areas placed → (length placed ≡ 0 → ⊥)
    → HaveZones zones (areas_or_default areas) placed
standing_kept zones [] [] have some = absurd (some refl)
standing_kept zones [] (p ∷ placed) have some = absurd (differs have.each)
  where
    differs : placed_area p ∷ map placed_area placed ≡ [] → ⊥
    differs e = cc
standing_kept zones (a ∷ areas) placed have some = have
