-- Refusals of a network's files (source: own).
use Rattle.std.specs.Prelude.{◌≡◌, ⊤, Option, Some, None, Result, Ok, Err, OnOk, IfOk, IfErr}
use Rattle.route_base.specs.Causes.{IsOfContents}
use Rattle.route_base.specs.declared.faults.BadInput.{BadInput}
use Rattle.route_base.specs.declared.faults.FileKind.{FileKind}
use Rattle.route_base.specs.declared.faults.TableFault.{TableFault}
use Rattle.route_base.specs.declared.faults.TableFault.TheVariants as table
use Rattle.network_tables.specs.declared.faults.NetworkFault.{NetworkFault}
use Rattle.network_tables.specs.declared.faults.NetworkFault.TheVariants as network

-- a fact of a file's fault
abbrev pub IfBadInput : NetworkFault → (BadInput → Type 0) → Type 0
IfBadInput (network.Bad fault) P = P fault
IfBadInput network.OutOfMemory P = ⊤

-- this fault of a file, or out of memory
abbrev pub IsInputRefusal : Option BadInput → NetworkFault → Type 0
IsInputRefusal fault e = IfBadInput e (λ bad. fault ≡ Some bad)

-- files are read where they have no fault, and then P holds of what they state; else the fault is refused, or memory ran out. The
-- cause is never that of a file that is missing or too long
pub record Reads {X : Type 0} (result : Result X NetworkFault) (fault : Option BadInput) (P : X → Type 0) : Type 0 where
  pub faultless : OnOk result (fault ≡ None)
  pub stated : IfOk result P
  pub refused : IfErr result (IsInputRefusal fault)
  pub cause : IfErr result (λ e. IfBadInput e (λ bad. IsOfContents bad.cause))

-- what was read of a table, with a fault of the table as that of a file
abbrev pub read_in : {X : Type 0} → FileKind → Result X TableFault → Result X NetworkFault
read_in file (Ok x) = Ok x
read_in file (Err (table.BadRow row cause)) = Err (network.Bad (record { file = file; row = row; cause = cause }))
read_in file (Err table.OutOfMemory) = Err network.OutOfMemory
