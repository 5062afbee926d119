use Rattle.std.proofs.Common.{rules}
use Rattle.std.proofs.lemmas.Result.{on_ok_weaker}
use Rattle.certificate.proofs.Spelled.{line_pushed}
use Rattle.certificate.proofs.writer.push_line.Goals as goal

pub returns : goal.returns
returns c =
    on_ok_weaker c.push_text-2.result
    (line_pushed c.args.out.now.items c.push_text.new.out.items c.push_numbers.new.out.items c.push_text-2.new.out.items c.args.word.now c.args.numbers.now
    (search rules) (search rules))
    c.push_text-2.ensures.text
