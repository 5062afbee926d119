use Rattle.std.proofs.Common.{sym, ◌∙◌, arith}
use Rattle.label_queue.proofs.Numbers.{number_read, some_number, no_number, no_place_key, room_same}
use Rattle.label_queue.proofs.Places.{key_past}
use Rattle.label_queue.proofs.node_keys.NodeKeys.key_of.Goals as goal
use Rattle.label_queue.proofs.node_keys.NodeKeys.key_of.Goals.{then-v-eq0-via-then-v-eq0, then-v-eq0-via-else-v-eq0+then-v-len}

pub returns-then-v-eq0 : goal.returns-then-v-eq0
returns-then-v-eq0 c = elim c.then-v-eq0.branch [
  | then-v-eq0-via-then-v-eq0 w ↦ sym (no_place_key c.args.self.now c.args.v.0 w.if-v-eq0.true)
  | then-v-eq0-via-else-v-eq0+then-v-len w ↦ sym (key_past c.args.self.now c.args.v.0
      (omega (arith, w.if-v-len.true, room_same c.self.inside.numbers.items c.args.self.now c.self.view_is)))
]

pub returns-then-number-lt-NO_KEY : goal.returns-then-number-lt-NO_KEY
returns-then-number-lt-NO_KEY c = sym (number_read c.self.inside.numbers.items c.args.self.now c.self.view_is c.args.v.0 c.index-number.result.now
    (omega arith) (omega arith) c.index-number.ensures
    ∙ some_number c.index-number.result.now c.if-number-lt-NO_KEY.true)

pub returns-else-number-lt-NO_KEY : goal.returns-else-number-lt-NO_KEY
returns-else-number-lt-NO_KEY c = sym (number_read c.self.inside.numbers.items c.args.self.now c.self.view_is c.args.v.0 c.index-number.result.now
    (omega arith) (omega arith) c.index-number.ensures
    ∙ no_number c.index-number.result.now c.if-number-lt-NO_KEY.false)
