use Rattle.std.proofs.Common.{None}
use Rattle.label_queue.proofs.Numbers.{number_set, last_number}
use Rattle.label_queue.proofs.node_keys.NodeKeys.clear.Goals as goal

pub returns : goal.returns
returns c = number_set c.self.inside.numbers.items c.args.self.now c.self.view_is c.args.v.0 18446744073709551615 None last_number c.requires.low
    c.requires.high
