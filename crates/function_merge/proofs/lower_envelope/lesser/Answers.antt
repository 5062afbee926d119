use Rattle.std.proofs.Common.{◌∙◌, arith}
use Rattle.std.proofs.lemmas.Bool.{lt-ltb, le-ltb}
use Rattle.cost_functions.specs.Lines.{line_at}
use Rattle.function_merge.proofs.Lowest.{min_left, min_right}
use Rattle.function_merge.proofs.lower_envelope.lesser.Goals as goal

pub returns-then-value-clause-line : goal.returns-then-value-clause-line
returns-then-value-clause-line c = λ t from upto.
    let below = c.part_below.ensures.below t from upto in
    c.part_below.ensures.line t from ∙ min_right (line_at c.args.p t) (line_at c.args.q t) (omega (arith, below))

pub returns-then-value-clause-better : goal.returns-then-value-clause-better
returns-then-value-clause-better c = λ t from upto.
    let below = c.part_below.ensures.below t from upto in
    lt-ltb (line_at c.args.q t) (line_at c.args.p t) (omega (arith, below))

pub returns-else-value-clause-line : goal.returns-else-value-clause-line
returns-else-value-clause-line c = λ t from upto.
    let below = c.part_below-else-value.ensures.below t from upto in
    c.part_below-else-value.ensures.line t from ∙ min_left (line_at c.args.p t) (line_at c.args.q t) (omega (arith, below))

pub returns-else-value-clause-better : goal.returns-else-value-clause-better
returns-else-value-clause-better c = λ t from upto.
    let below = c.part_below-else-value.ensures.below t from upto in
    le-ltb (line_at c.args.q t) (line_at c.args.p t) (omega (arith, below))
