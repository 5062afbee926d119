use Rattle.std.proofs.Common.{sym}
use Rattle.dimacs_reader.proofs.Cuts.{line_cut, last_line}
use Rattle.dimacs_reader.proofs.lines.next_line.Goals as goal

pub returns-in-Some-clause-cut : goal.returns-in-Some-clause-cut
returns-in-Some-clause-cut c =
    let lines = line_cut c.args.bytes.now c.in-Some.line.now c.in-Some.rest.now c.in-Some.ensures.parts in
    let stripped = c.without_return.ensures in
    cc

pub returns-in-None-clause-cut : goal.returns-in-None-clause-cut
returns-in-None-clause-cut c = last_line c.args.bytes.now c.in-None.ensures.none (sym c.if-is_empty.ensures)
