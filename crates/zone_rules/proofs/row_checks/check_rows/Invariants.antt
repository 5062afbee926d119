use Rattle.zone_rules.proofs.FirstFaults.{IsFaultlessBefore}
use Rattle.zone_rules.proofs.row_checks.check_rows.Given as goal

abbrev pub invariant-loop-i : goal.invariant-loop-i
invariant-loop-i l = IsFaultlessBefore l.rows l.i
