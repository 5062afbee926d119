use Rattle.std.proofs.Common.{◌≡◌, ⊎_elim, ◌+◌, ◌≤◌, ◌<◌, ℕ, None, get_or, refl, subst, rules, arith}
use Rattle.std.proofs.lemmas.Bool.{cases_lt}
use Rattle.route_base.specs.Itinerary.{Step, drive, wait, Moves, Drives}
use Rattle.route_base.specs.Net.{setting_of}
use Rattle.node_arcs.specs.declared.links.End.TheVariants.{Head}
use Rattle.node_arcs.proofs.DriveEnds.{drives_head}
use Rattle.plain_search.specs.Inside.Costs.{none, at, ComesByStep}
use Rattle.plain_search.specs.Inside.CostTable.{cost_of}
use Rattle.plain_search.proofs.ArcPlaces.{arc_at, place_ends, at_each_arc, at_smaller_arc}
use Rattle.plain_search.proofs.Backward.{drive_comes_first}
use Rattle.plain_search.proofs.search.Search.predecessor.Goals as goal

pub drive_into-requires-clause-head : goal.drive_into-requires-clause-head
drive_into-requires-clause-head c = place_ends c.args.self.now.net.now Head c.args.self.now.incoming c.args.self.now.backward c.args.node.0
    c.of-a-items.result.now c.of-a-items.ensures c.loop-a.a-index c.loop-a-test.true

pub loop-a-preserved : goal.loop-a-preserved
loop-a-preserved c =
    let s = setting_of c.args.self.now.net.now in
    let until = c.args.self.now.request.until in
    let cost = cost_of c.args.table.now in
    let arcs = c.of-a-items.result.now in
    let gone : c.drive_into.result ≡ None = search rules in
    record {
      missed = λ i u k below known drives. ⊎_elim
          (λ (before : i < c.loop-a.a-index). c.loop-a.invariant.missed i u k before known drives)
          (λ (here : c.loop-a.a-index ≤ i). let same : i ≡ c.loop-a.a-index = omega (arith, here, below) in
          c.drive_into.ensures.none gone u k known
          (subst (λ (n : ℕ). Drives s until (arc_at arcs n) (at cost u k) (at cost c.args.node.0 c.args.minute)) same drives))
          (cases_lt i c.loop-a.a-index);
    }

pub returns-in-Some-drive_into-clause-first : goal.returns-in-Some-drive_into-clause-first
returns-in-Some-drive_into-clause-first c =
    let net = c.args.self.now.net.now in
    let until = c.args.self.now.request.until in
    let cost = cost_of c.args.table.now in
    let v = c.args.node.0 in
    let t = c.args.minute in
    let arcs = c.of-a-items.result.now in
    let k = c.loop-a.a-index in
    drive_comes_first net until cost v t (c.in_default.ensures.none refl) (get_or arcs k (record { 0 = 0 })) c.in-Some-drive_into.found.leg
    c.in-Some-drive_into.ensures.leg
    (λ b less u m known drives. at_smaller_arc net Head c.args.self.now.incoming c.args.self.now.backward v arcs c.of-a-items.ensures
    (λ n. Drives (setting_of net) until n (at cost u m) (at cost v t) → ⊥) (λ n. Prim.hlevel) k c.loop-a-test.true
    (λ i before. c.loop-a.invariant.missed i u m before known) b less (drives_head net until b (at cost u m) (at cost v t) drives) drives)

-- no step leads here at this label
none_leads : (c : goal.After-loop-a) (y : Step) (u m : ℕ) → cost_of c.args.table.now u m < none
    → Moves (setting_of c.args.self.now.net.now) c.args.self.now.request.until y (at (cost_of c.args.table.now) u m)
    (at (cost_of c.args.table.now) c.args.node.0 c.args.minute) → ⊥
none_leads c wait u m known move = c.in_default.ensures.none refl u m known move
none_leads c (drive a) u m known move =
    let net = c.args.self.now.net.now in
    let until = c.args.self.now.request.until in
    let cost = cost_of c.args.table.now in
    let v = c.args.node.0 in
    let t = c.args.minute in
    at_each_arc net Head c.args.self.now.incoming c.args.self.now.backward v c.of-a-items.result.now c.of-a-items.ensures
    (λ n. Drives (setting_of net) until n (at cost u m) (at cost v t) → ⊥) (λ n. Prim.hlevel)
    (λ i within. c.loop-a.invariant.missed i u m (omega (arith, within, c.loop-a-test.false)) known) a
    (drives_head net until a (at cost u m) (at cost v t) move) move

pub unreachable-requires : goal.unreachable-requires
unreachable-requires c =
    let net = c.args.self.now.net.now in
    let r = c.args.self.now.request in
    ⊎_elim
    (λ (first : (c.args.node.0 ≡ r.origin.0) × (c.args.minute ≡ r.depart)). c.requires.later first.0 first.1)
    (λ (from : ComesByStep (setting_of net) r.until (cost_of c.args.table.now) (r.until + 1) c.args.node.0 c.args.minute).
    none_leads c from.step from.node from.minute from.known from.move)
    (c.requires.label.sound.founded.each c.args.node.0 c.args.minute c.requires.label.reached.known)
