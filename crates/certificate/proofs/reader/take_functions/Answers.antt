use Rattle.std.proofs.Common.{sym, ap, ◌∙◌, length, ◌<◌, ◌^◌, subst}
use Rattle.std.proofs.lemmas.List.Elements.{All-weaker}
use Rattle.cost_functions.specs.Pieces.{ArePieces}
use Rattle.certificate.specs.CertificateText.{all_pieces}
use Rattle.certificate.specs.Writable.{IsWritableNode}
use Rattle.certificate.specs.Inside.Reading.{neighbours_pass, may_follow_entry}
use Rattle.certificate.proofs.Blocks.{IsWritableFunction, functions_found}
use Rattle.certificate.proofs.Counts.{all_pieces_fit}
use Rattle.certificate.proofs.Orders.{entries_rise}
use Rattle.certificate.proofs.reader.take_functions.Goals as goal

pub piece_count-requires : goal.piece_count-requires
piece_count-requires c =
    let fs = c.in_ok-functions.functions.items in
    let found = functions_found c.take_count.new.self fs c.take_functions.new.self (sym c.in_ok-functions.ensures) in
    let rising = entries_rise fs (ap (neighbours_pass may_follow_entry) (sym c.deref.ensures.value) ∙ sym c.if-not-are_in_order.ensures) in
    subst (λ es. length (all_pieces es) < 2 ^ 64) (sym c.deref-2.ensures.value) (all_pieces_fit fs
    (All-weaker IsWritableFunction (λ e. IsWritableNode e.0) (λ e w. w.node) fs found.1)
    (All-weaker IsWritableFunction (λ e. ArePieces e.1) (λ e w. w.pieces) fs found.1) rising)

pub from_vec-requires : goal.from_vec-requires
from_vec-requires c =
    entries_rise c.in_ok-functions.functions.items (ap (neighbours_pass may_follow_entry) (sym c.deref.ensures.value) ∙ sym c.if-not-are_in_order.ensures)
