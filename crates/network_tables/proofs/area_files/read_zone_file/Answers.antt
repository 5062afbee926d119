use Rattle.std.proofs.Common.{List, ℕ, subst}
use Rattle.route_base.specs.declared.faults.FileKind.TheVariants as file
use Rattle.table_reader.specs.Records.{rows_of}
use Rattle.area_tables.specs.Zones.{zones_schema, zone_entries_in, HasZones}
use Rattle.network_tables.specs.NetworkFiles.{table_fault}
use Rattle.network_tables.specs.Refusals.{Reads}
use Rattle.network_tables.proofs.FileFaults.{reads_file}
use Rattle.network_tables.proofs.area_files.read_zone_file.Goals as goal

pub returns : goal.returns
returns c =
    subst (λ (bytes : List ℕ). Reads c.in_file.result (table_fault file.Zones zones_schema bytes)
    (λ zones. HasZones zones (zone_entries_in (rows_of bytes))))
    c.as_slice.ensures
    (reads_file file.Zones c.read_zones.result c.in_file.result _ _ c.in_file.ensures c.read_zones.ensures)
