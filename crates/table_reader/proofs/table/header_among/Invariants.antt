use Rattle.std.proofs.Common.{◌≡◌, drop}
use Rattle.csv.specs.Records.{fields_of}
use Rattle.table_reader.specs.Records.{headers_of}
use Rattle.table_reader.specs.Schema.{is_header}
use Rattle.table_reader.proofs.table.header_among.Given as goal

abbrev pub invariant-loop-i : goal.invariant-loop-i
invariant-loop-i l = is_header (headers_of (drop l.i l.headers)) (fields_of l.first) ≡ is_header (headers_of l.headers) (fields_of l.first)
