use Rattle.std.proofs.Common.{◌≡◌, drop, map}
use Rattle.csv.specs.Records.{fields_of}
use Rattle.table_reader.specs.Records.{record_eq}
use Rattle.table_reader.proofs.fields.has_fields.Given as goal

abbrev pub invariant-loop-i : goal.invariant-loop-i
invariant-loop-i l = record_eq (drop l.i (fields_of l.row)) (drop l.i (map (λ w. w.now) l.words)) ≡ record_eq (fields_of l.row) (map (λ w. w.now) l.words)
