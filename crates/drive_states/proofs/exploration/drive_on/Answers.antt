use Rattle.std.proofs.Common.{rules, take, get_or, List, sym, subst}
use Rattle.std.proofs.lemmas.List.{map_more}
use Rattle.route_base.specs.Net.{setting_of}
use Rattle.route_base.specs.declared.types.ArcId.{ArcId}
use Rattle.route_base.specs.declared.types.Leg.{Leg}
use Rattle.route_base.specs.declared.types.Leg.TheVariants.{Drive}
use Rattle.drive_states.specs.Inside.StateSearch.{IsExploring, drives_over}
use Rattle.drive_states.proofs.Found.{takes, overflows, drives_before}
use Rattle.drive_states.proofs.LeavingArcs.{all_leave, leaves, none}
use Rattle.drive_states.proofs.exploration.drive_on.Goals as goal

pub drive_over-requires-clause-tail : goal.drive_over-requires-clause-tail
unfolding none
drive_over-requires-clause-tail c =
    leaves c.args.plan.net.now _ c.requires.outgoing c.args.from.node.0 _ c.of-a-items.ensures c.loop-a.a-index c.loop-a-test.true

pub returns-in_err-drive_over-clause-many : goal.returns-in_err-drive_over-clause-many
unfolding none
returns-in_err-drive_over-clause-many c = λ is.
    (let arcs : List ArcId = c.of-a-items.result.now in
    overflows (setting_of c.args.plan.net.now) c.args.plan.origin.0 c.args.plan.rule c.args.n (drives_over (take c.loop-a.a-index arcs))
    c.loop-a.states c.drive_over.new.states c.loop-a.ways.items c.drive_over.new.ways.items c.args.from (Drive (get_or arcs c.loop-a.a-index none))
    c.loop-a.invariant.facts c.loop-a.invariant.at (drives_before arcs c.loop-a.a-index none
    (all_leave c.args.plan.net.now _ c.requires.outgoing c.args.from.node.0 _ c.of-a-items.ensures).rising c.loop-a-test.true)
    (c.drive_over.ensures.many (search rules)))

pub loop-a-preserved : goal.loop-a-preserved
unfolding none
loop-a-preserved c =
    let arcs : List ArcId = c.of-a-items.result.now in
    let s = setting_of c.args.plan.net.now in
    let on = takes s c.args.plan.origin.0 c.args.plan.rule c.args.n (drives_over (take c.loop-a.a-index arcs))
    c.loop-a.states c.drive_over.new.states c.loop-a.ways.items c.drive_over.new.ways.items c.args.from (Drive (get_or arcs c.loop-a.a-index none))
    c.loop-a.invariant.facts c.loop-a.invariant.at (drives_before arcs c.loop-a.a-index none
    (all_leave c.args.plan.net.now _ c.requires.outgoing c.args.from.node.0 _ c.of-a-items.ensures).rising c.loop-a-test.true)
    c.in_ok-drive_over.ensures.took in
    record {
      at = on.at;
      facts = subst (λ (w : List Leg). IsExploring s c.args.plan.origin.0 c.args.plan.rule c.args.n w c.drive_over.new.states c.drive_over.new.ways.items)
          (sym (map_more (λ a. Drive a) arcs c.loop-a.a-index none c.loop-a-test.true)) on.facts;
      small = c.in_ok-drive_over.ensures.small;
    }
