use Rattle.std.proofs.Common.{sym, ap, ◌∙◌}
use Rattle.certificate.specs.Inside.Reading.{neighbours_pass, may_follow_entry}
use Rattle.certificate.proofs.Orders.{entries_rise}
use Rattle.certificate.proofs.reader.take_bounds.Goals as goal

pub from_vec-requires : goal.from_vec-requires
from_vec-requires c =
    entries_rise c.in_ok-bounds.bounds.items (ap (neighbours_pass may_follow_entry) (sym c.deref.ensures.value) ∙ sym c.if-are_in_order.ensures)
