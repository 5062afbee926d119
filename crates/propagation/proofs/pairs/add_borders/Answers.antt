use Rattle.std.proofs.Common.{◌+◌, refl}
use Rattle.propagation.proofs.Bordering.{borders_taken}
use Rattle.propagation.proofs.pairs.add_borders.Goals as goal

pub returns : goal.returns
returns c =
    let pair = c.args.pair in
    borders_taken pair (record { arrival = pair.arrival; cost = pair.cost + 1 }) (record { arrival = pair.arrival + 1; cost = pair.cost })
    c.args.borders.now.items c.add_pair.new.pairs.items c.add_pair-2.new.pairs.items refl refl refl refl c.in_ok-add_pair.ensures
    c.in_ok-add_pair-2.ensures
