use Rattle.std.proofs.Common.{◌≡◌, sym, ap, Err}
use Rattle.std.proofs.lemmas.Result.{err_from_is_err_and}
use Rattle.conditional_rules.specs.declared.faults.ConditionalFault.TheVariants as faults
use Rattle.conditional_rules.proofs.Clauses.{clause_found, clause_parts, clause_only}
use Rattle.conditional_rules.proofs.parser.read_clause.Goals as goal

pub returns-in_default-read_value-clause-none : goal.returns-in_default-read_value-clause-none
returns-in_default-read_value-clause-none c = λ is clause h.
    let p = clause_parts c.in-Some.value.now c.in-Some.condition.now c.in-Some.ensures.parts c.in-Some.ensures.before h in
    let none = rw c.trim.ensures at c.in_default-read_value.ensures in
    cc

pub returns-in_err-parts-clause-none : goal.returns-in_err-parts-clause-none
returns-in_err-parts-clause-none c = λ is clause h.
    let p = err_from_is_err_and c.from_residual.result c.from_residual.ensures.1 in
    let same : c.in_err-parts.field-0.0 ≡ faults.NotConditional = cc in
    let read = clause_parts c.in-Some.value.now c.in-Some.condition.now c.in-Some.ensures.parts c.in-Some.ensures.before h in
    c.in_err-parts.ensures.none (ap Err same) clause.parts (rw c.trim-2.ensures read.1)

pub returns-clause-found : goal.returns-clause-found
returns-clause-found c =
    clause_found c.args.text.now c.in-Some.value.now c.in-Some.condition.now c.in-Some-read_value.access c.in_ok-parts.parts
    c.in-Some.ensures.parts c.in-Some.ensures.before (sym (rw c.trim.ensures at c.in-Some-read_value.ensures))
    (rw c.trim-2.ensures at c.in_ok-parts.ensures.found)

pub returns-clause-only : goal.returns-clause-only
returns-clause-only c =
    clause_only c.args.text.now c.in-Some.value.now c.in-Some.condition.now c.in-Some-read_value.access c.in_ok-parts.parts
    c.in-Some.ensures.parts c.in-Some.ensures.before (sym (rw c.trim.ensures at c.in-Some-read_value.ensures))
    (rw c.trim-2.ensures at c.in_ok-parts.ensures.only)
