use Rattle.std.proofs.Common.{◌≡◌, None, ap, subst, ◌∙◌}
use Rattle.route_base.specs.Net.{setting_of}
use Rattle.route_base.specs.declared.types.Request.{Request}
use Rattle.front_desk.specs.Check.{check_meaning}
use Rattle.front_desk.specs.Inside.Judging.{IsJudged}
use Rattle.front_words.specs.declared.commands.Trip.{Trip}
use Rattle.front_desk.specs.Inside.Planning.{IsTripNet}
use Rattle.front_desk.specs.Trips.{failed_check, request_of}
use Rattle.front_desk.proofs.Ending.{ends_short, ends_stopped, ends_unread}
use Rattle.front_desk.proofs.Judgements.{ends_judged}
use Rattle.front_desk.proofs.judgement.report_check.Goals as goal

pub returns-in_err-report : goal.returns-in_err-report
returns-in_err-report g c =
    ends_short (check_meaning c.args.check.now) (λ kept _. kept) c.load_to_check.ensures.kept _ c.from_residual-in_err-report.ensures.1

pub returns-in_err-net : goal.returns-in_err-net
returns-in_err-net g c =
    let e = c.in_ok-network.ensures in
    let k = c.args.check.now in
    ends_stopped (check_meaning k) (λ kept _. kept) c.load_to_check.ensures.kept c.in_ok-network.network k.trip k.dir tt
    (λ held fault fails. fails) e.faultless e.found _ _ _ c.trip_of-trip.ensures
    c.from_residual-in_err-net.ensures.1 c.in_err-net.ensures.refused

pub returns : goal.returns
returns g c =
    let e = c.in_ok-network.ensures in
    let network = c.in_ok-network.network in
    let net = c.in_ok-net.net in
    let bytes = c.in_ok-network.bytes in
    let report = c.in_ok-report.report in
    let trip = c.args.check.now.trip in
    let same = c.trip_of-trip.ensures in
    let asked : c.request_of.result ≡ request_of trip = c.request_of.ensures ∙ ap request_of same in
    let judged = subst (λ (r : Request). IsJudged (setting_of net) r bytes report) asked c.in_ok-report.ensures in
    ends_judged c.args.check.now (g.F.Folder.state c.args.folder.now) (g.F.Folder.state c.load_to_check.new.folder)
    network bytes report e.faultless e.found e.certificate (subst (λ (t : Trip). failed_check network t ≡ None) same c.in_ok-net.ensures.passed)
    (c.judgements_agree.ensures network net trip bytes report
    (subst (λ (t : Trip). IsTripNet network t net) same c.in_ok-net.ensures.net) judged)
    c.load_to_check.ensures.kept

pub returns-in_err-network : goal.returns-in_err-network
returns-in_err-network g c =
    ends_unread (check_meaning c.args.check.now) (λ kept _. kept) c.load_to_check.ensures.kept _ _ c.from_residual.ensures.1
    c.in_err-network.ensures.refused
