-- Minutes of a day at which an arc lets a vehicle in.
use Rattle.std.proofs.Common.{◌≡◌, ℕ, ◌+◌, true, arith, refl, sym, ◌∙◌}
use Rattle.vehicle_classes.specs.Classes.{keys_of}
use Rattle.vehicle_classes.specs.VehicleModel.{VehicleModel}
use Rattle.zone_rules.specs.Zones.{wall_at}
use Rattle.network_tables.specs.Access.{area_at, area_place, is_let_in}
use Rattle.network_tables.specs.NetworkModel.{NetworkModel}
use Rattle.road_access.specs.Rulings.{ruling_given}
use Rattle.road_access.specs.Steadiness.{IsSoonAfter, RuleSteadily}
use Rattle.road_access.proofs.RulingAccess.{let_in_by}
use Rattle.trip_explain.specs.declared.closed_minutes.Quiet.{Quiet}
use Rattle.trip_explain.specs.Inside.{LetsInAmid}

-- the vehicle is let in where the same rule decides
pub let_in_amid : (network : NetworkModel) (vehicle : VehicleModel) (a t : ℕ) (quiet : Quiet) (count : ℕ)
    → (wall_at (area_at network (area_place network a)).zone t).day ≡ quiet.day
    → (wall_at (area_at network (area_place network a)).zone t).minute ≡ quiet.from → quiet.to ≡ quiet.from + count
    → RuleSteadily network vehicle a t (keys_of vehicle.class) count
    → is_let_in network vehicle a t ≡ true → LetsInAmid network vehicle a quiet
let_in_amid network vehicle a t quiet count day first to steady let_in u amid =
    let zone = (area_at network (area_place network a)).zone in
    let soon : IsSoonAfter zone t count u = record {
      day = amid.day ∙ sym day;
      from_on = omega (arith, amid.from_on, first);
      before = omega (arith, amid.before, first, to);
    } in
    let_in_by network vehicle a u (ruling_given network vehicle a t (keys_of vehicle.class)) (steady u soon)
    ∙ sym (let_in_by network vehicle a t (ruling_given network vehicle a t (keys_of vehicle.class)) refl)
    ∙ let_in

-- nothing is among no minutes
pub none_amid : (network : NetworkModel) (vehicle : VehicleModel) (a : ℕ) → LetsInAmid network vehicle a (record { day = 0; from = 0; to = 0 })
none_amid network vehicle a u amid = absurd (omega (arith, amid.before))
