use Rattle.std.proofs.Common.{codes, decimal}
use Rattle.std.proofs.lemmas.Result.{on_ok_weaker}
use Rattle.net_generator.specs.Generated.{size_text}
use Rattle.net_generator.proofs.Appending.{joined}
use Rattle.net_generator.proofs.texts.push_comment.Goals as goal

pub returns : goal.returns
returns c =
    let n = c.args.number in
    let size = size_text c.args.grid.rows c.args.grid.columns in
    let next = joined c.args.out.now.items (codes "c lorry_plan ") (decimal n) size c.push_field.new.out.items c.push_size.new.out.items in
    on_ok_weaker c.push_size.result (next c.in_ok-push_field.ensures.text) c.push_size.ensures
