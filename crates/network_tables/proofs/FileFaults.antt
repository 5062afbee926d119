-- Refusals of tables as those of files.
use Rattle.std.proofs.Common.{◌≡◌, ℕ, Option, Ok, Err, ap, subst, sym}
use Rattle.std.specs.Prelude.{Result}
use Rattle.route_base.specs.declared.faults.Cause.{Cause}
use Rattle.route_base.specs.declared.faults.FileKind.{FileKind}
use Rattle.route_base.specs.declared.faults.TableFault.{TableFault}
use Rattle.route_base.specs.declared.faults.TableFault.TheVariants as table
use Rattle.table_reader.specs.Refusals.{ReadsRows}
use Rattle.network_tables.specs.NetworkFiles.{fault_in}
use Rattle.network_tables.specs.Refusals.{read_in, Reads}
use Rattle.network_tables.specs.declared.faults.NetworkFault.{NetworkFault}

-- a table that is read is the table of its file
pub reads_in : {X : Type 0} (file : FileKind) (read : Result X TableFault) (fault : Option (ℕ × Cause)) (P : X → Type 0)
    → ReadsRows read fault P → Reads (read_in file read) (fault_in file fault) P
reads_in file (Ok x) fault P reads = record {
  faultless = ap (fault_in file) reads.faultless;
  stated = reads.stated;
  refused = tt;
  cause = tt;
}
reads_in file (Err (table.BadRow row cause)) fault P reads = record {
  faultless = tt;
  stated = tt;
  refused = ap (fault_in file) reads.refused;
  cause = reads.cause;
}
reads_in file (Err table.OutOfMemory) fault P reads = record { faultless = tt; stated = tt; refused = tt; cause = tt }

-- the same, once it was turned into the answer for the file
pub reads_file : {X : Type 0} (file : FileKind) (read : Result X TableFault) (answer : Result X NetworkFault) (fault : Option (ℕ × Cause)) (P : X → Type 0)
    → answer ≡ read_in file read → ReadsRows read fault P → Reads answer (fault_in file fault) P
reads_file file read answer fault P is reads =
    subst (λ (r : Result _ NetworkFault). Reads r (fault_in file fault) P) (sym is) (reads_in file read fault P reads)
