use Rattle.label_queue.proofs.Numbers.{no_numbers}
use Rattle.std.proofs.Common.{rules}
use Rattle.label_queue.proofs.node_keys.NodeKeys.new.Goals as goal

pub returns-clause-empty : goal.returns-clause-empty
returns-clause-empty c v = no_numbers c.args.n v c.in_ok-vec.field-0.items (search rules)
