use Rattle.std.proofs.Common.{List, length, ap, arith}
use Rattle.route_base.specs.declared.faults.FileKind.TheVariants as file
use Rattle.table_reader.specs.Records.{rows_of}
use Rattle.network_tables.specs.Closures.{closure_of, closures_schema}
use Rattle.network_tables.specs.declared.closures.Closure.{Closure}
use Rattle.network_tables.proofs.RowLimits.{few_rows, fewer_values}
use Rattle.network_tables.proofs.closures.read_closures.Goals as goal

pub into_lists-requires : goal.into_lists-requires
into_lists-requires c =
    let bytes = c.args.files.now.closures in
    omega (
      arith,
      few_rows file.Closures (closures_schema _) bytes c.in_ok-table.ensures.faultless,
      fewer_values closure_of (rows_of bytes),
      ap (λ (closures : List Closure). length closures) c.in_ok-table.ensures.stated.1,
    )
