use Rattle.std.proofs.Common.{◌≡◌, List, ℕ, map, subst}
use Rattle.route_base.specs.declared.faults.FileKind.TheVariants as file
use Rattle.table_reader.specs.NameIndex.{names_of}
use Rattle.table_reader.specs.Records.{rows_of}
use Rattle.area_tables.specs.Holidays.{holidays_schema, holidays_in, holidays_named}
use Rattle.network_tables.specs.NetworkFiles.{holidays_of, table_fault}
use Rattle.network_tables.specs.Refusals.{Reads}
use Rattle.network_tables.proofs.FileFaults.{reads_file}
use Rattle.network_tables.proofs.area_files.read_holiday_file.Goals as goal

pub returns : goal.returns
returns c =
    let files = c.args.files.now in
    let known = names_of c.args.areas.now in
    subst (λ (names : List (List ℕ)). Reads c.in_file.result (table_fault file.Holidays (holidays_schema names) files.holidays)
    (λ lists. lists.items ≡ map (holidays_named (holidays_of files)) known))
    c.requires
    (subst (λ (bytes : List ℕ). Reads c.in_file.result (table_fault file.Holidays (holidays_schema known) bytes)
    (λ lists. lists.items ≡ map (holidays_named (holidays_in (rows_of bytes))) known))
    c.as_slice.ensures
    (reads_file file.Holidays c.read_holidays.result c.in_file.result _ _ c.in_file.ensures c.read_holidays.ensures))
