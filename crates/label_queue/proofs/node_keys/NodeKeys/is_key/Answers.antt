use Rattle.std.proofs.Common.{arith}
use Rattle.label_queue.specs.Keys.{key_at}
use Rattle.label_queue.proofs.Numbers.{number_read, is_number, no_key_is, no_place_key, room_same}
use Rattle.label_queue.proofs.Places.{key_past}
use Rattle.label_queue.proofs.node_keys.NodeKeys.is_key.Goals as goal
use Rattle.label_queue.proofs.node_keys.NodeKeys.is_key.Goals.{then-v-eq0-via-then-v-eq0, then-v-eq0-via-else-v-eq0+then-v-len}

pub returns-then-v-eq0 : goal.returns-then-v-eq0
returns-then-v-eq0 c = no_key_is c.args.key (key_at c.args.self.now c.args.v.0) (elim c.then-v-eq0.branch [
  | then-v-eq0-via-then-v-eq0 w ↦ no_place_key c.args.self.now c.args.v.0 w.if-v-eq0.true
  | then-v-eq0-via-else-v-eq0+then-v-len w ↦ key_past c.args.self.now c.args.v.0
      (omega (arith, w.if-v-len.true, room_same c.self.inside.numbers.items c.args.self.now c.self.view_is))
])

pub returns : goal.returns
returns c = is_number c.index.result.now c.args.key (key_at c.args.self.now c.args.v.0) c.requires.real
    (number_read c.self.inside.numbers.items c.args.self.now c.self.view_is c.args.v.0 c.index.result.now
    (omega arith) (omega arith) c.index.ensures)
