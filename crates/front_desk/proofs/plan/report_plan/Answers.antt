use Rattle.std.proofs.Common.{◌≡◌, None, subst}
use Rattle.front_desk.specs.Plan.{plan_meaning}
use Rattle.front_words.specs.declared.commands.Trip.{Trip}
use Rattle.front_desk.specs.Inside.Planning.{IsTripNet}
use Rattle.front_desk.specs.Trips.{IsGoodTrip, failed_check}
use Rattle.front_desk.proofs.Ending.{ends_short, ends_stopped, ends_unread}
use Rattle.front_desk.proofs.Handing.{ends_handing, left_unread}
use Rattle.front_desk.proofs.ReadyPlans.{plannable}
use Rattle.front_desk.proofs.plan.report_plan.Goals as goal

pub planned_over-requires : goal.planned_over-requires
planned_over-requires g c =
    let network = c.in_ok-network.network in
    let net = c.in_ok-net.net in
    let same = c.trip_of.ensures in
    plannable network c.args.plan.now.trip net (subst (λ (t : Trip). IsTripNet network t net) same c.in_ok-net.ensures.net)
    (subst (λ (t : Trip). IsGoodTrip network.graph.nodes t) same c.in_ok-net.ensures.good) c.requires.timed

pub returns-in_err-network : goal.returns-in_err-network
returns-in_err-network g c =
    ends_unread (plan_meaning c.args.plan.now) (left_unread c.args.plan.now _ _) c.load_network.ensures.kept _ _ c.from_residual.ensures.1
    c.in_err-network.ensures.refused

pub returns-in_err-net : goal.returns-in_err-net
returns-in_err-net g c =
    let e = c.in_ok-network.ensures in
    let p = c.args.plan.now in
    ends_stopped (plan_meaning p) (left_unread p _ _) c.load_network.ensures.kept c.in_ok-network.network p.trip p.dir tt
    (λ held fault fails. fails) e.faultless e.found _ _ _
    c.trip_of.ensures c.from_residual-in_err-net.ensures.1 c.in_err-net.ensures.refused

pub returns-in_err-planned : goal.returns-in_err-planned
returns-in_err-planned g c =
    ends_short (plan_meaning c.args.plan.now) (left_unread c.args.plan.now _ _) c.load_network.ensures.kept _ c.from_residual-in_err-planned.ensures.1

pub returns : goal.returns
returns g c =
    let e = c.in_ok-network.ensures in
    let network = c.in_ok-network.network in
    let net = c.in_ok-net.net in
    let same = c.trip_of.ensures in
    let ready = c.plans_agree.ensures network net c.args.plan.now c.in_ok-planned.planned
    (subst (λ (t : Trip). IsTripNet network t net) same c.in_ok-net.ensures.net) c.in_ok-planned.ensures in
    let passed = subst (λ (t : Trip). failed_check network t ≡ None) same c.in_ok-net.ensures.passed in
    ends_handing c.args.plan.now (g.F.Folder.state c.args.folder.now) (g.F.Folder.state c.load_network.new.folder)
    (g.F.Folder.state c.hand_over.new.folder) c.load_network.ensures.kept network e.found c.in_ok-planned.planned ready
    e.faultless passed c.hand_over.result c.hand_over.ensures
