use Rattle.std.proofs.Common.{◌≡◌, inl, None, refl, subst}
use Rattle.route_base.specs.Net.{setting_of}
use Rattle.front_words.specs.declared.commands.Trip.{Trip}
use Rattle.front_desk.specs.Breaks.{HasManyStates, breaks_meaning}
use Rattle.front_desk.specs.Inside.Planning.{IsTripNet}
use Rattle.front_desk.specs.Trips.{IsGoodTrip, failed_check}
use Rattle.front_desk.proofs.Ending.{ends_at_size, ends_stopped, ends_unread}
use Rattle.front_desk.proofs.ReadyPlans.{plannable}
use Rattle.front_desk.proofs.ReportedBreaks.{ends_breaks, exceeds}
use Rattle.front_desk.proofs.breaks.report_breaks.Goals as goal

pub rested_text-requires-clause-plannable : goal.rested_text-requires-clause-plannable
rested_text-requires-clause-plannable g c =
    let network = c.in_ok-network.network in
    let net = c.in_ok-net.net in
    let same = c.trip_of.ensures in
    plannable network c.args.breaks.now.trip net (subst (λ (t : Trip). IsTripNet network t net) same c.in_ok-net.ensures.net)
    (subst (λ (t : Trip). IsGoodTrip network.graph.nodes t) same c.in_ok-net.ensures.good) c.requires.timed

pub returns-in_err-network : goal.returns-in_err-network
returns-in_err-network g c =
    ends_unread (breaks_meaning c.args.breaks.now) (λ kept _. kept) c.load_network.ensures.kept _ _ c.from_residual.ensures.1
    c.in_err-network.ensures.refused

pub returns-in_err-net : goal.returns-in_err-net
returns-in_err-net g c =
    let e = c.in_ok-network.ensures in
    let b = c.args.breaks.now in
    ends_stopped (breaks_meaning b) (λ kept _. kept) c.load_network.ensures.kept c.in_ok-network.network b.trip b.dir tt
    (λ held fault fails. inl fails) e.faultless e.found _ _ _
    c.trip_of.ensures c.from_residual-in_err-net.ensures.1 c.in_err-net.ensures.refused

pub returns-in_err-text : goal.returns-in_err-text
returns-in_err-text g c =
    let e = c.in_ok-network.ensures in
    let network = c.in_ok-network.network in
    let net = c.in_ok-net.net in
    let b = c.args.breaks.now in
    let same = c.trip_of.ensures in
    let passed = subst (λ (t : Trip). failed_check network t ≡ None) same c.in_ok-net.ensures.passed in
    let is = subst (λ (t : Trip). IsTripNet network t net) same c.in_ok-net.ensures.net in
    ends_at_size (breaks_meaning b) (λ kept _. kept) c.load_network.ensures.kept (HasManyStates (setting_of net) b) tt e.faultless
    (λ many. exceeds b (g.F.Folder.state c.args.folder.now) (g.F.Folder.state c.load_network.new.folder) network e.found passed
    ((c.breaks_agree.ensures.states network net b is).0 many))
    _ _ c.from_residual-in_err-text.ensures.1 c.in_err-text.ensures.refused

pub returns : goal.returns
returns g c =
    let e = c.in_ok-network.ensures in
    let network = c.in_ok-network.network in
    let net = c.in_ok-net.net in
    let b = c.args.breaks.now in
    let same = c.trip_of.ensures in
    let passed = subst (λ (t : Trip). failed_check network t ≡ None) same c.in_ok-net.ensures.passed in
    let is = subst (λ (t : Trip). IsTripNet network t net) same c.in_ok-net.ensures.net in
    ends_breaks b (g.F.Folder.state c.args.folder.now) (g.F.Folder.state c.load_network.new.folder) network e.found passed e.faultless _ refl
    (c.breaks_agree.ensures.text network net b _ is c.in_ok-text.ensures.right)
    (λ many. c.in_ok-text.ensures.few ((c.breaks_agree.ensures.states network net b is).1 many)) c.load_network.ensures.kept
