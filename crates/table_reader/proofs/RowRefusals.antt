-- Refusals of rows, by weaker claims.
use Rattle.std.proofs.Common.{Result, Ok, Err, IfErr}
use Rattle.route_base.specs.declared.faults.Cause.{Cause}
use Rattle.table_reader.specs.Refusals.{IfBadCause}
use Rattle.table_reader.specs.declared.faults.RowFault.{RowFault}
use Rattle.table_reader.specs.declared.faults.RowFault.TheVariants as row

-- a cause that is refused, under a weaker claim
pub refused_weaker : {T : Type 0} (r : Result T RowFault) (P Q : Cause → Type 0) → ((cause : Cause) → P cause → Q cause)
    → IfErr r (λ e. IfBadCause e P) → IfErr r (λ e. IfBadCause e Q)
refused_weaker (Ok x) P Q weaker refused = tt
refused_weaker (Err (row.Bad cause)) P Q weaker refused = weaker cause refused
refused_weaker (Err row.OutOfMemory) P Q weaker refused = tt
