-- A reader of csv that gives the records of a file one after another (source: own).
use Rattle.std.specs.Prelude.{◌≡◌, ℕ, ◌+◌, Option, Some, None, List, [], length}
use Rattle.std.specs.Borrow.{Bor}
use Rattle.std.specs.Option.{IsSome}
use Rattle.csv.specs.Reading.{records_from, default_config, source_of, reader_config, reader_trim, reader_state, Ready}
use Rattle.csv.specs.declared.parser.State.{State}
use Rattle.csv.specs.declared.reader.Reader.{Reader}
use Rattle.csv.specs.declared.reader.Trim.TheVariants as trim
use Rattle.table_reader.specs.Records.{Record}

-- the bytes that are not read yet
abbrev pub bytes_left : Reader (Bor (List ℕ)) → Option (List ℕ)
bytes_left reader = source_of (λ bytes. Some bytes.now) reader

-- the records of these bytes from a state of the parser
abbrev pub records_behind : State → Option (List ℕ) → List Record
records_behind state None = []
records_behind state (Some bytes) = records_from default_config (length bytes + 1) state bytes

-- the records that are not read yet
unfoldable pub records_left : Reader (Bor (List ℕ)) → List Record
records_left reader = records_behind (reader_state reader) (bytes_left reader)

-- the reader takes no record as a header, trims nothing, and has not failed
pub record IsRecordReader (reader : Reader (Bor (List ℕ))) : Type 0 where
  pub config : reader_config reader ≡ default_config
  pub trim : reader_trim reader ≡ trim.None
  pub ready : Ready reader
  pub known : IsSome (bytes_left reader)
