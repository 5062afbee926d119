-- What clocks show in an area.
use Rattle.std.proofs.Common.{◌≡◌, ℕ, Option, Some, List, slice_get, unwrap_or, ap, sym, ◌∙◌}
use Rattle.std.specs.Option.{option_map}
use Rattle.route_base.specs.Net.{at_number}
use Rattle.zone_rules.specs.Zones.{wall_at}
use Rattle.zone_rules.specs.declared.rows.Wall.{Wall}
use Rattle.zone_rules.specs.declared.rows.ZoneRow.{ZoneRow}
use Rattle.network_tables.specs.Access.{area_at, area_place}
use Rattle.network_tables.specs.NetworkModel.{Area, NetworkModel}
use Rattle.network_tables.proofs.ArcPlaces.{zone_there}

-- clocks in an area show what those of its zone do
pub shown_there : (network : NetworkModel) (area t : ℕ) (zone : List ZoneRow) (wall : Wall)
    → option_map (λ (x : Area). x.zone) (slice_get network.areas area) ≡ Some zone → wall ≡ wall_at zone t
    → wall ≡ wall_at (area_at network area).zone t
shown_there network area t zone wall zoned shown =
    shown ∙ ap (λ (z : List ZoneRow). wall_at z t) (sym (zone_there network area zone zoned))

-- clocks in the arc's area do
pub shown_in_area : (network : NetworkModel) (a t area : ℕ) (zone : List ZoneRow) (wall : Wall) → at_number network.roads a ≡ Some area
    → option_map (λ (x : Area). x.zone) (slice_get network.areas area) ≡ Some zone → wall ≡ wall_at zone t
    → wall ≡ wall_at (area_at network (area_place network a)).zone t
shown_in_area network a t area zone wall there zoned shown =
    shown_there network area t zone wall zoned shown
    ∙ ap (λ (n : ℕ). wall_at (area_at network n).zone t) (sym (ap (λ (o : Option ℕ). unwrap_or o 0) there))
