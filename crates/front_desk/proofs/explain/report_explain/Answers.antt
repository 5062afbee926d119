use Rattle.std.proofs.Common.{◌≡◌, None, refl, subst}
use Rattle.front_desk.specs.Explain.{explain_meaning}
use Rattle.front_words.specs.declared.commands.Trip.{Trip}
use Rattle.front_desk.specs.Explain.{IsExplainText}
use Rattle.front_desk.specs.Trips.{failed_check, request_of, vehicle_named}
use Rattle.front_desk.proofs.Ending.{ends_stopped_by, ends_unread}
use Rattle.front_desk.proofs.ReportedExplain.{ends_explain, trip_fails}
use Rattle.front_desk.proofs.explain.report_explain.Goals as goal

pub returns-in_err-network : goal.returns-in_err-network
returns-in_err-network g c =
    ends_unread (explain_meaning c.args.explain.now) (λ kept _. kept) c.load_itinerary.ensures.kept _ _ c.from_residual.ensures.1
    c.in_err-network.ensures.refused

pub returns-in_err-text : goal.returns-in_err-text
returns-in_err-text g c =
    let loaded = c.in_ok-network.ensures in
    let e = c.args.explain.now in
    ends_stopped_by (explain_meaning e) (λ kept _. kept) c.load_itinerary.ensures.kept c.in_ok-network.network e.trip tt loaded.faultless
    (trip_fails e (g.F.Folder.state c.args.folder.now) (g.F.Folder.state c.load_itinerary.new.folder) c.in_ok-network.network c.in_ok-network.legs
    loaded.network loaded.legs) _ _ _ c.trip_of.ensures c.from_residual-in_err-text.ensures.1 c.in_err-text.ensures.refused

pub returns : goal.returns
returns g c =
    let loaded = c.in_ok-network.ensures in
    let network = c.in_ok-network.network in
    let legs = c.in_ok-network.legs in
    let text = c.in_ok-text.text in
    let same = c.trip_of.ensures in
    ends_explain c.args.explain.now (g.F.Folder.state c.args.folder.now) (g.F.Folder.state c.load_itinerary.new.folder) network legs
    loaded.network loaded.legs loaded.faultless (subst (λ (t : Trip). failed_check network t ≡ None) same c.in_ok-text.ensures.passed) _ refl
    (subst (λ (t : Trip). IsExplainText network (vehicle_named network t.vehicle) (request_of t) legs text.items) same c.in_ok-text.ensures.right)
    c.load_itinerary.ensures.kept
