use Rattle.std.proofs.Common.{ap, ◌∙◌}
use Rattle.std.specs.List.{zip}
use Rattle.table_reader.specs.Records.{rows_of}
use Rattle.vehicle_classes.specs.VehicleParts.{NamedVehicles}
use Rattle.vehicle_classes.specs.Vehicles.{vehicles_in}
use Rattle.vehicle_classes.proofs.VehicleRows.{zipped}
use Rattle.vehicle_classes.proofs.table.read_vehicles.Goals as goal

pub returns : goal.returns
returns c = record {
  faultless = c.in_ok-names.ensures.faultless;
  stated =
      ap (λ (held : NamedVehicles). zip held.names held.vehicles) c.names.view_is
      ∙ zipped c.in_ok-names.field-0 (vehicles_in (rows_of c.args.bytes.now)) c.in_ok-names.ensures.stated;
  refused = tt;
  cause = tt;
}
