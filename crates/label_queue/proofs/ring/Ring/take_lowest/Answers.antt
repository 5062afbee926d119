use Rattle.std.proofs.Common.{◌<◌, ◌-◌, ◌∙◌, arith}
use Rattle.label_queue.specs.Inside.Rings.{first_key}
use Rattle.label_queue.proofs.Lowest.{above_floor, passed, left_least}
use Rattle.label_queue.proofs.Waiting.{has_first}
use Rattle.label_queue.proofs.ring.Ring.take_lowest.Goals as goal

pub take_entry-requires-clause-real : goal.take_entry-requires-clause-real
take_entry-requires-clause-real c =
    let first = has_first c.args.keys.now c.requires.some in
    let holds = c.floors.invariant.holds in
    let key = first_key c.args.keys.now in
    omega (arith, holds.ahead first.0 key first.1, holds.real first.0 key first.1)

pub pass_floor-requires-clause-real : goal.pass_floor-requires-clause-real
pass_floor-requires-clause-real c =
    let first = has_first c.args.keys.now c.requires.some in
    let holds = c.floors.invariant.holds in
    let key = first_key c.args.keys.now in
    omega (arith, holds.ahead first.0 key first.1, holds.real first.0 key first.1, c.take_entry.ensures.floor)

pub floors-preserved : goal.floors-preserved
floors-preserved c = record {
  holds = passed c.floors.self c.take_entry.new.self c.args.keys.now c.floors.invariant.holds c.in_default.ensures c.pass_floor.new.self
      c.pass_floor.ensures;
  span = c.pass_floor.ensures.span ∙ (c.take_entry.ensures.span ∙ c.floors.invariant.span);
}

pub floors-smaller : goal.floors-smaller
floors-smaller c =
    let first = has_first c.args.keys.now c.requires.some in
    let above = above_floor c.floors.self c.take_entry.new.self c.args.keys.now c.floors.invariant.holds c.in_default.ensures
    first.0 (first_key c.args.keys.now) first.1 in
    let less : first_key c.args.keys.now - c.pass_floor.new.self.floor < first_key c.args.keys.now - c.floors.self.floor =
    omega (arith, above, c.pass_floor.ensures.floor, c.take_entry.ensures.floor) in
    less

pub returns-in-Some : goal.returns-in-Some
returns-in-Some c =
    let left = left_least c.floors.self c.take_entry.new.self c.args.keys.now c.floors.invariant.holds c.in-Some.v c.in-Some.ensures in
    record {
      place = left.place;
      span = left.span ∙ c.floors.invariant.span;
      was = left.was;
      ahead = left.ahead;
      entries = left.entries;
    }
