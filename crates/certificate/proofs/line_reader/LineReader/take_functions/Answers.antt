use Rattle.std.proofs.Common.{sym, subst}
use Rattle.certificate.specs.Inside.Reading.{function_in, AreTaken}
use Rattle.certificate.proofs.Blocks.{function_found}
use Rattle.certificate.proofs.Items.{taken_more, taken_some, taken_end}
use Rattle.certificate.proofs.line_reader.LineReader.take_functions.Goals as goal

pub functions-smaller : goal.functions-smaller
functions-smaller c =
    (function_found c.functions.self c.in-Some.function c.take_function.new.self
    (taken_some function_in c.functions.self c.in_ok-function.field-0 c.take_function.new.self
    c.in-Some.function c.in_ok-function.ensures.function c.in-Some.is)).fewer

pub functions-preserved : goal.functions-preserved
functions-preserved c =
    let some = taken_some function_in c.functions.self c.in_ok-function.field-0 c.take_function.new.self
    c.in-Some.function c.in_ok-function.ensures.function c.in-Some.is in
    let fewer = (function_found c.functions.self c.in-Some.function c.take_function.new.self some).fewer in
    subst (λ items. AreTaken function_in c.args.self.now items c.take_function.new.self) (sym c.in_ok-push.ensures.items)
    (taken_more function_in c.args.self.now c.functions.functions.items c.functions.self
    c.in-Some.function c.take_function.new.self c.functions.invariant some fewer)

pub returns : goal.returns
returns c = taken_end function_in c.args.self.now c.functions.functions.items c.functions.self c.take_function.new.self c.in_ok-function.field-0
    c.functions.invariant c.in_ok-function.ensures.function c.in_default.is (rw c.in_default.is at c.in_ok-function.ensures.kept)
