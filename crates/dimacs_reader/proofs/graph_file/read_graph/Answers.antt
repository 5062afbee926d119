use Rattle.std.proofs.Common.{◌∙◌, ◌+◌, sym, subst, arith}
use Rattle.dimacs_reader.specs.Stated.{Stated}
use Rattle.dimacs_reader.proofs.ReadSoFar.{HasReadLines, read_none, read_more, line_refused, end_refused, end_faultless, end_graph}
use Rattle.dimacs_reader.proofs.graph_file.read_graph.Goals as goal

pub lines-init : goal.lines-init
lines-init c = subst (λ (s : Stated). HasReadLines c.args.bytes.now c.args.bytes.now 1 s) (sym c.new-builder.ensures) (read_none c.args.bytes.now)

pub lines-preserved : goal.lines-preserved
lines-preserved c =
    subst (λ (s : Stated). HasReadLines c.args.bytes.now c.in-Some.more.now (c.lines.number + 1) s) (sym c.in_ok-add.ensures.added)
    (read_more c.args.bytes.now c.lines.rest.now c.in-Some.more.now c.lines.number c.lines.builder
    c.in-Some.line c.lines.invariant c.in-Some.ensures.first
    (sym c.cause.ensures ∙ c.in_default-cause.is))

pub returns-in-Some-cause-clause-refused : goal.returns-in-Some-cause-clause-refused
returns-in-Some-cause-clause-refused c =
    line_refused c.args.bytes.now c.lines.rest.now c.in-Some.more.now c.lines.number c.lines.builder
    c.in-Some.line c.in-Some-cause.cause c.lines.invariant c.in-Some.ensures.first
    (sym c.cause.ensures ∙ c.in-Some-cause.is)

pub overflow_add-number : goal.overflow_add-number
overflow_add-number c = omega arith

pub returns-in-Ok-clause-faultless : goal.returns-in-Ok-clause-faultless
returns-in-Ok-clause-faultless c = end_faultless c.args.bytes.now c.lines.rest.now c.lines.number c.lines.builder c.lines.invariant
    c.in_default.ensures.none c.in-Ok.ensures.faultless

pub returns-in-Ok-clause-found : goal.returns-in-Ok-clause-found
returns-in-Ok-clause-found c = c.in-Ok.ensures.graph
    ∙ end_graph c.args.bytes.now c.lines.rest.now c.lines.number c.lines.builder c.lines.invariant c.in_default.ensures.none

pub returns-in-Err-clause-refused : goal.returns-in-Err-clause-refused
returns-in-Err-clause-refused c = end_refused c.args.bytes.now c.lines.rest.now c.lines.number c.lines.builder c.in-Err.cause
    c.lines.invariant c.in_default.ensures.none c.in-Err.ensures.cause
