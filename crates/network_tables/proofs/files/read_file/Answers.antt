use Rattle.std.proofs.Common.{List, ℕ, subst}
use Rattle.table_reader.specs.Records.{header_of, rows_of}
use Rattle.network_tables.specs.NetworkFiles.{table_fault}
use Rattle.network_tables.specs.Refusals.{Reads}
use Rattle.network_tables.proofs.FileFaults.{reads_file}
use Rattle.network_tables.proofs.files.read_file.Goals as goal

pub returns : goal.returns
returns g c =
    subst (λ (bytes : List ℕ). Reads c.in_file.result (table_fault c.args.file (g.T.Table.schema c.args.table) bytes)
    (λ read. g.T.Table.becomes c.args.table read (header_of bytes) (rows_of bytes)))
    c.as_slice.ensures
    (reads_file c.args.file c.read_table.result c.in_file.result _ _ c.in_file.ensures c.read_table.ensures)
