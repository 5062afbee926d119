use Rattle.std.proofs.Common.{Some}
use Rattle.label_queue.proofs.Numbers.{number_set, some_number}
use Rattle.label_queue.proofs.node_keys.NodeKeys.set.Goals as goal

pub returns : goal.returns
returns c = number_set c.self.inside.numbers.items c.args.self.now c.self.view_is c.args.v.0 c.args.key (Some c.args.key)
    (some_number c.args.key c.requires.real) c.requires.low c.requires.high
