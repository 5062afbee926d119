use Rattle.std.proofs.Common.{rules}
use Rattle.certificate.proofs.Counts.{pieces_fit}
use Rattle.certificate.proofs.Written.{all_pushed}
use Rattle.certificate.proofs.writer.write.Goals as goal

pub piece_count-requires : goal.piece_count-requires
piece_count-requires c = rw c.as_slice-functions.ensures.entries (pieces_fit c.args.certificate.now c.requires)

pub returns : goal.returns
returns c =
    all_pushed c.args.certificate.now c.in_ok-out.out.items c.push_line.new.out.items c.push_routes.new.out.items
    c.push_line-2.new.out.items c.push_bounds.new.out.items c.push_line-3.new.out.items c.push_functions.new.out.items c.push_line-4.new.out.items
    (search rules) (search rules) (search rules) (search rules) (search rules) (search rules) (search rules) (search rules)
