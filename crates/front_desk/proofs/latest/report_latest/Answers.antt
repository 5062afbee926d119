use Rattle.std.proofs.Common.{◌≡◌, ◌≤◌, ◌+◌, None, refl, sym, subst, ap, ◌∙◌}
use Rattle.route_base.specs.Net.{setting_of}
use Rattle.route_base.specs.declared.types.Request.{Request}
use Rattle.front_desk.specs.Latest.{latest_meaning}
use Rattle.front_words.specs.declared.commands.Trip.{Trip}
use Rattle.front_desk.specs.Inside.Late.{IsLateRequest}
use Rattle.front_desk.specs.Inside.Planning.{IsTripNet}
use Rattle.front_desk.specs.Latest.{IsLateText}
use Rattle.front_desk.specs.Trips.{IsGoodTrip, failed_check_within, request_of}
use Rattle.front_desk.specs.declared.latest.TheConstants.{LONGEST_LATE_HORIZON}
use Rattle.front_desk.proofs.Ending.{ends_short, ends_unread}
use Rattle.front_desk.proofs.ReportedLate.{ends_late, ends_without_net, late_request}
use Rattle.front_desk.proofs.latest.report_latest.Goals as goal

pub late_text_over-requires : goal.late_text_over-requires
late_text_over-requires g c =
    let network = c.in_ok-network.network in
    let net = c.in_ok-net.net in
    let trip = c.args.late.now.trip in
    let same = c.trip_of-trip.ensures in
    let asked : c.request_of.result ≡ request_of trip = c.request_of.ensures ∙ ap request_of same in
    subst (λ (r : Request). IsLateRequest net r) (sym asked)
    (late_request network trip net (subst (λ (t : Trip). IsTripNet network t net) same c.in_ok-net.ensures.net)
    (subst (λ (t : Trip). IsGoodTrip network.graph.nodes t) same c.in_ok-net.ensures.good)
    (subst (λ (t : Trip). t.until ≤ t.depart + LONGEST_LATE_HORIZON) same c.in_ok-net.ensures.short))

pub returns-in_err-network : goal.returns-in_err-network
returns-in_err-network g c =
    ends_unread (latest_meaning c.args.late.now) (λ kept _. kept) c.load_network.ensures.kept _ _ c.from_residual.ensures.1
    c.in_err-network.ensures.refused

pub returns-in_err-net : goal.returns-in_err-net
returns-in_err-net g c =
    let e = c.in_ok-network.ensures in
    ends_without_net c.args.late.now _ _ c.in_ok-network.network e.faultless e.found c.load_network.ensures.kept _ _ _ c.trip_of-trip.ensures
    c.from_residual-in_err-net.ensures.1 c.in_err-net.ensures.refused

pub returns-in_err-text : goal.returns-in_err-text
returns-in_err-text g c =
    ends_short (latest_meaning c.args.late.now) (λ kept _. kept) c.load_network.ensures.kept _ c.from_residual-in_err-text.ensures.1

pub returns : goal.returns
returns g c =
    let e = c.in_ok-network.ensures in
    let network = c.in_ok-network.network in
    let net = c.in_ok-net.net in
    let trip = c.args.late.now.trip in
    let text = c.in_ok-text.text in
    let same = c.trip_of-trip.ensures in
    let asked : c.request_of.result ≡ request_of trip = c.request_of.ensures ∙ ap request_of same in
    let right = c.late_texts_agree.ensures network net trip text.items
    (subst (λ (t : Trip). IsTripNet network t net) same c.in_ok-net.ensures.net)
    (subst (λ (r : Request). IsLateText (setting_of net) r text.items) asked c.in_ok-text.ensures) in
    ends_late c.args.late.now _ _ network e.faultless e.found c.load_network.ensures.kept _ refl
    (subst (λ (t : Trip). failed_check_within LONGEST_LATE_HORIZON network t ≡ None) same c.in_ok-net.ensures.passed) right
