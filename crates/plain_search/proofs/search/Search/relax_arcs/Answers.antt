use Rattle.std.proofs.Common.{◌≡◌, ⊎_elim, ◌≤◌, ◌<◌, ℕ, subst, arith}
use Rattle.std.proofs.Math.Bridge.{le_prop}
use Rattle.std.proofs.lemmas.Bool.{cases_lt}
use Rattle.route_base.specs.Itinerary.{drive}
use Rattle.route_base.specs.Net.{setting_of}
use Rattle.node_arcs.specs.declared.links.End.TheVariants.{Tail}
use Rattle.node_arcs.proofs.DriveEnds.{drives_tail}
use Rattle.plain_search.specs.Inside.Costs.{at, IsRelaxedFrom}
use Rattle.plain_search.specs.Inside.CostTable.{cost_of}
use Rattle.plain_search.proofs.ArcPlaces.{arc_at, place_ends, at_each_arc}
use Rattle.plain_search.proofs.Staying.{changes-append, lands_kept}
use Rattle.plain_search.proofs.search.Search.relax_arcs.Goals as goal

pub relax_arc-requires-clause-tail : goal.relax_arc-requires-clause-tail
relax_arc-requires-clause-tail c = place_ends c.args.self.now.net.now Tail c.args.self.now.outgoing c.args.self.now.forward c.args.node.0
    c.of-a-items.result.now c.of-a-items.ensures c.loop-a.a-index c.loop-a-test.true

pub loop-a-preserved : goal.loop-a-preserved
loop-a-preserved c =
    let arcs = c.of-a-items.result.now in
    let until = c.args.self.now.request.until in
    let table = cost_of c.relax_arc.new.table in
    record {
      sound = c.relax_arc.ensures.sound;
      later = changes-append _ _ _ c.args.minute c.loop-a.invariant.later c.relax_arc.ensures.later;
      driven = λ i below. ⊎_elim
          (λ (before : i < c.loop-a.a-index). lands_kept (setting_of c.args.self.now.net.now) until (cost_of c.loop-a.table) table c.args.minute
          (drive (arc_at arcs i)) c.args.node.0 c.args.minute c.relax_arc.ensures.later (omega arith) (c.loop-a.invariant.driven i before))
          (λ (here : c.loop-a.a-index ≤ i). let same : c.loop-a.a-index ≡ i = omega (arith, here, below) in
          subst (λ (n : ℕ). IsRelaxedFrom (setting_of c.args.self.now.net.now) until table (drive (arc_at arcs n)) c.args.node.0 c.args.minute) same
          c.relax_arc.ensures.lands)
          (cases_lt i c.loop-a.a-index);
    }

pub returns-clause-lands : goal.returns-clause-lands
returns-clause-lands c a known q move =
    let net = c.args.self.now.net.now in
    let v = c.args.node.0 in
    let arcs = c.of-a-items.result.now in
    let cost = cost_of c.loop-a.table in
    at_each_arc net Tail c.args.self.now.outgoing c.args.self.now.forward v arcs c.of-a-items.ensures
    (λ n. IsRelaxedFrom (setting_of net) c.args.self.now.request.until cost (drive n) v c.args.minute) (λ n. Prim.hlevel le_prop)
    (λ i within. c.loop-a.invariant.driven i (omega (arith, within, c.loop-a-test.false))) a
    (drives_tail net c.args.self.now.request.until a (at cost v c.args.minute) q move) known q move
