use Rattle.std.proofs.Common.{length, arith, ap}
use Rattle.std.proofs.lemmas.List.Folds.{length-flat_map-take}
use Rattle.certificate.proofs.writer.piece_count.Goals as goal

pub overflow_add-count : goal.overflow_add-count
overflow_add-count c =
    let fs = c.args.functions.now in
    let upto = length-flat_map-take (λ e. e.1) fs c.loop-entry.entry-index c.entry-item.result c.loop-entry-test.true in
    omega (arith, upto, c.loop-entry.invariant, c.requires, ap (λ e. length e.1) c.entry-item.is, ap length c.pieces.ensures.items)
