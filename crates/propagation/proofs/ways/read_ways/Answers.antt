use Rattle.std.proofs.Common.{◌≡◌, ⊎_elim, ◌<◌, get_or, subst, arith}
use Rattle.node_arcs.specs.declared.links.End.TheVariants.{Tail}
use Rattle.node_arcs.proofs.StarPlaces.{place_ends, ends_place, earlier_or_next}
use Rattle.route_base.specs.declared.types.ArcId.{ArcId}
use Rattle.propagation.specs.Inside.States.{IsArcRead}
use Rattle.propagation.proofs.Gathering.{still_read}
use Rattle.propagation.proofs.ways.read_ways.Goals as goal

abbrev no_arc : ArcId
no_arc = record { 0 = 0 }

pub add_way-requires-clause-begins : goal.add_way-requires-clause-begins
add_way-requires-clause-begins c = place_ends c.args.task.net.now Tail c.args.task.outgoing.now c.requires.asked.outgoing c.args.v.0
    c.of-a-items.result.now c.of-a-items.ensures c.loop-a.a-index no_arc c.loop-a-test.true

pub loop-a-preserved : goal.loop-a-preserved
loop-a-preserved c =
    let arcs = c.of-a-items.result.now in
    let added = c.in_ok-add_way.ensures.added in
    let v = c.args.v.0 in
    let now = c.args.progress.now in
    let part = c.args.part.now in
    record {
      arcs = c.in_ok-add_way.ensures.arcs;
      read = λ i a below is. ⊎_elim
          (λ (before : i < c.loop-a.a-index). still_read c.args.task now v part c.loop-a.ways.items c.add_way.new.ways.items a.0 added.kept
          (c.loop-a.invariant.read i a before is))
          (λ (here : get_or arcs c.loop-a.a-index no_arc ≡ a).
          subst (λ (w : ArcId). IsArcRead c.args.task now v part c.add_way.new.ways.items w.0) here added.here)
          (earlier_or_next arcs c.loop-a.a-index i a no_arc below is);
    }

pub returns-clause-each : goal.returns-clause-each
returns-clause-each c a ends =
    let place = ends_place c.args.task.net.now Tail c.args.task.outgoing.now c.requires.asked.outgoing c.args.v.0 c.of-a-items.result.now
    c.of-a-items.ensures a ends in
    c.loop-a.invariant.read place.0 (record { 0 = a }) (omega (arith, place.1, c.loop-a-test.false)) place.2
