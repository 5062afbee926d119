use Rattle.std.proofs.Common.{◌≡◌, List, ℕ, subst}
use Rattle.route_base.specs.declared.faults.FileKind.TheVariants as file
use Rattle.table_reader.specs.Records.{rows_of}
use Rattle.vehicle_classes.specs.Vehicles.{vehicles_in, vehicles_schema}
use Rattle.network_tables.specs.NetworkFiles.{table_fault}
use Rattle.network_tables.specs.Refusals.{Reads}
use Rattle.network_tables.proofs.FileFaults.{reads_file}
use Rattle.network_tables.proofs.vehicle_file.read_vehicle_file.Goals as goal

pub returns : goal.returns
returns c =
    subst (λ (bytes : List ℕ). Reads c.in_file.result (table_fault file.Vehicles vehicles_schema bytes) (λ v. v ≡ vehicles_in (rows_of bytes)))
    c.as_slice.ensures
    (reads_file file.Vehicles c.read_vehicles.result c.in_file.result _ _ c.in_file.ensures c.read_vehicles.ensures)
