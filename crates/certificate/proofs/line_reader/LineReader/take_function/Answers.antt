use Rattle.std.proofs.Common.{sym, ap, ◌∙◌}
use Rattle.certificate.specs.Inside.Reading.{neighbours_pass, may_follow_piece}
use Rattle.certificate.proofs.Blocks.{pieces_of_node}
use Rattle.certificate.proofs.Orders.{pieces_apart}
use Rattle.certificate.proofs.line_reader.LineReader.take_function.Goals as goal

pub from_pieces-requires : goal.from_pieces-requires
from_pieces-requires c =
    pieces_apart c.in_ok-pieces.pieces.items
    (pieces_of_node c.in-Some.node c.args.self.now c.in_ok-pieces.pieces.items c.take_all.new.self (sym c.in_ok-pieces.ensures))
    (ap (neighbours_pass may_follow_piece) (sym c.deref.ensures.value) ∙ sym c.if-are_in_order.ensures)
