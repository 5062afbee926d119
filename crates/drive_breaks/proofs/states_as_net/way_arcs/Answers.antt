use Rattle.std.proofs.Common.{List, get_or, take, sym, subst}
use Rattle.std.proofs.lemmas.List.{take_more}
use Rattle.route_base.specs.declared.types.Leg.TheVariants.{Drive}
use Rattle.drive_breaks.specs.Inside.StateNet.{AreBuilt}
use Rattle.drive_states.specs.declared.rule.Way.{Way}
use Rattle.drive_breaks.proofs.Built.{built_more}
use Rattle.drive_breaks.proofs.states_as_net.way_arcs.Goals as goal

pub loop-way-preserved : goal.loop-way-preserved
loop-way-preserved c =
    let d : Way = record { from = 0; to = 0; leg = Drive (record { 0 = 0 }) } in
    subst (λ (w : List Way). AreBuilt c.args.ground.net.now c.args.ground.states.now c.args.ground.goal.0 w
    c.push_way.new.built.arcs.items c.push_way.new.built.sources.items)
    (sym (take_more c.args.ways.now c.loop-way.way-index d c.loop-way-test.true))
    (built_more c.args.ground.net.now c.args.ground.states.now c.args.ground.goal.0 (take c.loop-way.way-index c.args.ways.now)
    (get_or c.args.ways.now c.loop-way.way-index d)
    c.loop-way.built.arcs.items c.push_way.new.built.arcs.items c.loop-way.built.sources.items c.push_way.new.built.sources.items
    c.loop-way.invariant c.in_ok-push_way.ensures)
