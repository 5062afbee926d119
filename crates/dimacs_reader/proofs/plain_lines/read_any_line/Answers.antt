use Rattle.dimacs_reader.proofs.ReadSoFar.{lines_next}
use Rattle.dimacs_reader.proofs.plain_lines.read_any_line.Goals as goal

pub returns-clause-first : goal.returns-clause-first
returns-clause-first c =
    let cuts = c.in_ok-text.ensures in
    record {
      cut = lines_next c.args.bytes.now c.in_ok-text.text.now c.in_ok-text.rest.now c.read_line.result cuts.cut c.read_line.ensures;
      less = cuts.less;
    }
