use Rattle.std.proofs.Common.{◌≡◌}
use Rattle.std.proofs.lemmas.Result.{err_from_is_err_and}
use Rattle.opening_hours.specs.declared.faults.HoursFault.TheVariants as faults
use Rattle.opening_hours.proofs.Whole.{hours_found, hours_only, hours_none}
use Rattle.opening_hours.proofs.hours.parse.Goals as goal

pub returns-in_err-rules-clause-none : goal.returns-in_err-rules-clause-none
returns-in_err-rules-clause-none c = λ is us h.
    let p = err_from_is_err_and c.from_residual-in_err-rules.result c.from_residual-in_err-rules.ensures.1 in
    let same : c.in_err-rules.field-0.0 ≡ faults.NotHours = cc in
    let fails = rw c.as_slice.ensures at c.in_err-rules.ensures in
    hours_none c.args.text.now c.in_ok-tokens.tokens c.in_err-rules.field-0.0 c.in_ok-tokens.ensures.found fails same us h

pub invariant_of-result : goal.invariant_of-result
invariant_of-result c =
    let read = rw c.as_slice.ensures at c.in_ok-rules.ensures in
    (c.args.text.now, hours_found c.args.text.now c.in_ok-tokens.tokens c.in_ok-rules.rules c.in_ok-tokens.ensures.found read)

pub returns-clause-found : goal.returns-clause-found
returns-clause-found c =
    let read = rw c.as_slice.ensures at c.in_ok-rules.ensures in
    hours_found c.args.text.now c.in_ok-tokens.tokens c.in_ok-rules.rules c.in_ok-tokens.ensures.found read

pub returns-clause-only : goal.returns-clause-only
returns-clause-only c = λ us h.
    let read = rw c.as_slice.ensures at c.in_ok-rules.ensures in
    hours_only c.args.text.now c.in_ok-tokens.tokens c.in_ok-rules.rules us c.in_ok-tokens.ensures.found read h
