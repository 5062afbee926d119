use Rattle.std.proofs.Common.{◌≡◌, ◌<◌, length, sym, ◌∙◌, subst, arith, rules}
use Rattle.zone_rules.proofs.FirstFaults.{IsFaultlessBefore, no_rows, first_fault, no_fault, faultless_more}
use Rattle.zone_rules.proofs.row_checks.check_rows.Goals as goal

pub returns-then-is_empty-clause-refused : goal.returns-then-is_empty-clause-refused
returns-then-is_empty-clause-refused c = let none : length c.args.rows.now ≡ 0 = search rules in no_rows c.args.rows.now none

pub returns-in-Some-clause-refused : goal.returns-in-Some-clause-refused
returns-in-Some-clause-refused c = first_fault c.args.rows.now c.loop-i.i c.in-Some.fault (omega arith) c.loop-i.invariant
    (sym c.row_fault.ensures ∙ c.in-Some.is)

pub loop-i-preserved : goal.loop-i-preserved
loop-i-preserved c = faultless_more c.args.rows.now c.loop-i.i c.loop-i.invariant (sym c.row_fault.ensures ∙ c.in_default.is)

pub returns-clause-faultless : goal.returns-clause-faultless
returns-clause-faultless c =
    let end : c.loop-i.i ≡ length c.args.rows.now = omega arith in
    let some : 0 < length c.args.rows.now = search rules in
    no_fault c.args.rows.now some (subst (IsFaultlessBefore c.args.rows.now) end c.loop-i.invariant)
