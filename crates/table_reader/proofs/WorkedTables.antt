-- Worked tables, for proofs that compute: rows below a header, and the first fault of the table.
use Rattle.std.proofs.Common.{◌≡◌, ℕ, Option, List, [], ◌∷◌, map}
use Rattle.route_base.specs.declared.faults.Cause.{Cause}
use Rattle.table_reader.specs.Records.{Record}
use Rattle.table_reader.specs.Schema.{Schema, first_table_fault}

-- these are the first faults of tables below a header
abbrev pub HaveFaults : Schema → Record → List (List Record × Option (ℕ × Cause)) → Type 0
HaveFaults schema header tables = map (λ t. first_table_fault schema (header ∷ t.0)) tables ≡ map (λ t. t.1) tables

abbrev pub two_fields : List ℕ → List ℕ → Record
two_fields a b = a ∷ b ∷ []

abbrev pub three_fields : List ℕ → List ℕ → List ℕ → Record
three_fields a b c = a ∷ b ∷ c ∷ []
