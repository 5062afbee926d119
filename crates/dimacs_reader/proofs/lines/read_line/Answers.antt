use Rattle.std.proofs.Common.{◌∙◌, sym}
use Rattle.dimacs_reader.specs.Lines.{tokens_of}
use Rattle.dimacs_reader.proofs.Says.{says_nothing, says_comment, says_four, says_bad}
use Rattle.dimacs_reader.proofs.lines.read_line.Goals as goal

pub returns-in_default : goal.returns-in_default
returns-in_default c = sym (says_nothing c.args.line.now c.in_default.ensures.none)

pub returns-then-is_comment : goal.returns-then-is_comment
returns-then-is_comment c = sym (says_comment c.args.line.now c.in-Some.first.now (tokens_of c.in-Some.rest.now) c.in-Some.ensures.cut
    (sym c.if-is_comment.ensures))

pub returns-in-Some-three_tokens : goal.returns-in-Some-three_tokens
returns-in-Some-three_tokens c =
    c.line_of_fields.ensures
    ∙ sym (says_four c.args.line.now c.in-Some.first.now c.in-Some-three_tokens.second.now c.in-Some-three_tokens.third.now
    c.in-Some-three_tokens.fourth.now (tokens_of c.in-Some.rest.now) c.in-Some.ensures.cut
    (sym c.if-is_comment.ensures) c.in-Some-three_tokens.ensures.three)

pub returns-in-None : goal.returns-in-None
returns-in-None c = sym (says_bad c.args.line.now c.in-Some.first.now (tokens_of c.in-Some.rest.now) c.in-Some.ensures.cut
    (sym c.if-is_comment.ensures) c.in-None.ensures.others)
