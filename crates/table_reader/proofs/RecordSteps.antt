-- A read takes a record from those that are left.
use Rattle.std.proofs.Common.{◌≡◌, ℕ, ◌+◌, true, false, Option, Some, None, List, [], ◌∷◌, length, refl}
use Rattle.std.specs.Borrow.{Bor}
use Rattle.std.specs.Option.{IsSome}
use Rattle.csv.specs.Machine.{Read, next_record}
use Rattle.csv.specs.Reading.{records_from, default_config, ReadRecord, ReadsNext, NextIs}
use Rattle.csv.specs.declared.parser.State.{State}
use Rattle.csv.specs.declared.reader.Reader.{Reader}
use Rattle.table_reader.specs.Records.{Record}
use Rattle.table_reader.specs.Inside.RecordReader.{IsRecordReader, records_behind, records_left}
use Rattle.table_reader.proofs.AllRecords.{behind_record, no_record}

-- a read that found a record took it from those that were left
takes_record : (s t : State) (before after : Option (List ℕ)) (row : Record) → IsSome before → ReadsNext default_config s before after true row t
    → records_behind s before ≡ row ∷ records_behind t after
takes_record s t None after row known read = cc known
takes_record s t (Some xs) None row known read = absurd read
takes_record s t (Some xs) (Some ys) row known read = by (next_record default_config s [] [] xs) refl read
  where
    by : (o : Option Read) → next_record default_config s [] [] xs ≡ o → NextIs o true row t ys
        → records_from default_config (length xs + 1) s xs ≡ row ∷ records_from default_config (length ys + 1) t ys
    by None is next = cc next
    by (Some p) is next = rw (next.1, next.2, next.3) (behind_record default_config s xs p is)

-- a read that found none was at the end
takes_none : (s t : State) (before after : Option (List ℕ)) (row : Record) → ReadsNext default_config s before after false row t
    → records_behind s before ≡ []
takes_none s t None after row read = refl
takes_none s t (Some xs) None row read = absurd read
takes_none s t (Some xs) (Some ys) row read = by (next_record default_config s [] [] xs) refl read
  where
    by : (o : Option Read) → next_record default_config s [] [] xs ≡ o → NextIs o false row t ys → records_from default_config (length xs + 1) s xs ≡ []
    by None is next = no_record default_config s xs is
    by (Some p) is next = cc next.0

module _ (a b : Reader (Bor (List ℕ))) (row : Record) (is : IsRecordReader a) where
  pub next_left : ReadRecord (λ bytes. Some bytes.now) a b true row → records_left a ≡ row ∷ records_left b
  unfolding records_left
  next_left read = rw read.1 (takes_record a.state b.state _ _ row is.known (rw is.config at read.0))

  pub nothing_left : ReadRecord (λ bytes. Some bytes.now) a b false row → records_left a ≡ []
  unfolding records_left
  nothing_left read = takes_none a.state b.state _ _ row (rw is.config at read.0)
