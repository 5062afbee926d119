use Rattle.std.proofs.Common.{List, ℕ, Option, subst}
use Rattle.route_base.specs.declared.faults.FileKind.TheVariants as file
use Rattle.zone_rules.specs.declared.rows.ZoneRow.{ZoneRow}
use Rattle.table_reader.specs.NameIndex.{value_under}
use Rattle.table_reader.specs.Records.{rows_of}
use Rattle.area_tables.specs.AreaPlaces.{HaveZones}
use Rattle.area_tables.specs.Areas.{areas_schema, areas_in, areas_or_default}
use Rattle.network_tables.specs.NetworkFiles.{areas_of, table_fault}
use Rattle.network_tables.specs.Refusals.{Reads}
use Rattle.network_tables.proofs.FileFaults.{reads_file}
use Rattle.network_tables.proofs.area_files.read_area_file.Goals as goal

pub returns : goal.returns
returns c =
    let zones = c.args.zones.now in
    let files = c.args.files.now in
    subst (λ (named : List ℕ → Option (List ZoneRow)). Reads c.in_file.result (table_fault file.Areas (areas_schema named) files.areas)
    (λ areas. HaveZones zones (areas_of files) areas))
    (λ i name. c.requires name i)
    (subst (λ (bytes : List ℕ). Reads c.in_file.result (table_fault file.Areas (areas_schema (value_under zones)) bytes)
    (λ areas. HaveZones zones (areas_or_default (areas_in (rows_of bytes))) areas))
    c.as_slice.ensures
    (reads_file file.Areas c.read_areas.result c.in_file.result _ _ c.in_file.ensures c.read_areas.ensures))
