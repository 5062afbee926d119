-- Refusals of rows and of tables (source: own).
use Rattle.std.specs.Prelude.{◌≡◌, ℕ, ⊤, Option, Some, None, Result, OnOk, IfOk, IfErr}
use Rattle.route_base.specs.Causes.{IsOfContents}
use Rattle.route_base.specs.declared.faults.Cause.{Cause}
use Rattle.route_base.specs.declared.faults.TableFault.{TableFault}
use Rattle.route_base.specs.declared.faults.TableFault.TheVariants as table
use Rattle.table_reader.specs.declared.faults.RowFault.{RowFault}
use Rattle.table_reader.specs.declared.faults.RowFault.TheVariants as row

-- a fact of a row's number and its cause
abbrev pub IfBadRow : TableFault → (ℕ → Cause → Type 0) → Type 0
IfBadRow (table.BadRow number cause) P = P number cause
IfBadRow table.OutOfMemory P = ⊤

-- a fact of a row's cause
abbrev pub IfBadCause : RowFault → (Cause → Type 0) → Type 0
IfBadCause (row.Bad cause) P = P cause
IfBadCause row.OutOfMemory P = ⊤

-- this fault of a table, or out of memory
abbrev pub IsRowRefusal : Option (ℕ × Cause) → TableFault → Type 0
IsRowRefusal fault e = IfBadRow e (λ number cause. fault ≡ Some (number, cause))

-- a table is read where it has no fault, and then P holds of it; else the fault is refused, or memory ran out. The cause is never
-- that of a file that is missing or too long
pub record ReadsRows {X : Type 0} (result : Result X TableFault) (fault : Option (ℕ × Cause)) (P : X → Type 0) : Type 0 where
  pub faultless : OnOk result (fault ≡ None)
  pub stated : IfOk result P
  pub refused : IfErr result (IsRowRefusal fault)
  pub cause : IfErr result (λ e. IfBadRow e (λ number cause. IsOfContents cause))
