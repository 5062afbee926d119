-- An empty file has no records. With it each table whose file is empty has no fault, whatever its schema, by computing.
use Rattle.std.proofs.Common.{◌≡◌, [], refl, ap}
use Rattle.csv.specs.Machine.{next_record}
use Rattle.csv.specs.Reading.{records_from, strip_bom}
use Rattle.table_reader.specs.Records.{records_of, rows_in, rows_of}

pub empty-records : records_of [] ≡ []
unfolding records_of strip_bom records_from next_record
empty-records = refl

pub empty-rows : rows_of [] ≡ []
empty-rows = ap rows_in empty-records
