use Rattle.std.proofs.Common.{◌≡◌, ◌∙◌, ℕ, None, Some, All, ap, refl, sym, subst}
use Rattle.route_base.specs.Net.{setting_of}
use Rattle.route_base.specs.declared.faults.RequestFault.TheVariants.{TooManyStates}
use Rattle.route_base.specs.declared.types.Request.{Request}
use Rattle.front_desk.specs.RestedTour.{IsRestedTourText, rested_tour_meaning, tour_rule_of}
use Rattle.front_words.specs.declared.commands.Trip.{Trip}
use Rattle.stop_tour.specs.Tours.{IsStopAmong}
use Rattle.front_desk.specs.Inside.Planning.{IsPlannable, IsTripNet}
use Rattle.front_desk.specs.Tour.{failed_size}
use Rattle.front_desk.specs.Trips.{IsGoodTrip, failed_check, request_of}
use Rattle.front_desk.proofs.Ending.{ends_at_size, ends_stopped_by, ends_unread}
use Rattle.front_desk.proofs.ReadyPlans.{plannable}
use Rattle.front_desk.proofs.ReportedRestedTours.{ends_rested_tour}
use Rattle.front_desk.proofs.ReportedTours.{size_fails, trip_fails}
use Rattle.front_desk.proofs.rested_tour.report_rested_tour.Goals as goal

pub rested_tour_text-requires-clause-plannable : goal.rested_tour_text-requires-clause-plannable
rested_tour_text-requires-clause-plannable g c =
    let network = c.in_ok-network.network in
    let net = c.in_ok-net.net in
    let trip = c.args.rested.now.tour.trip in
    let same = c.trip_of-trip.ensures in
    subst (λ (r : Request). IsPlannable net r) (sym (c.request_of.ensures ∙ ap request_of same))
    (plannable network trip net (subst (λ (t : Trip). IsTripNet network t net) same c.in_ok-net.ensures.net)
    (subst (λ (t : Trip). IsGoodTrip network.graph.nodes t) same c.in_ok-net.ensures.good) c.requires.timed)

pub rested_tour_text-requires-clause-stops : goal.rested_tour_text-requires-clause-stops
rested_tour_text-requires-clause-stops g c =
    subst (λ (n : ℕ). All (IsStopAmong n) c.in_ok-network.stops) (sym c.in_ok-net.ensures.net.stands.nodes) c.in_ok-network.ensures.good

pub returns-in_err-network : goal.returns-in_err-network
returns-in_err-network g c =
    ends_unread (rested_tour_meaning c.args.rested.now) (λ kept _. kept) c.load_tour.ensures.kept _ _ c.from_residual.ensures.1 c.in_err-network.ensures.refused

pub returns-in_err-net : goal.returns-in_err-net
returns-in_err-net g c =
    let e = c.in_ok-network.ensures in
    let t = c.args.rested.now.tour in
    ends_stopped_by (rested_tour_meaning c.args.rested.now) (λ kept _. kept) c.load_tour.ensures.kept c.in_ok-network.network t.trip tt e.faultless
    (trip_fails t (g.F.Folder.state c.args.folder.now) (g.F.Folder.state c.load_tour.new.folder) c.in_ok-network.network c.in_ok-network.stops
    e.network e.stops) _ _ _ c.trip_of-trip.ensures c.from_residual-in_err-net.ensures.1 c.in_err-net.ensures.refused

pub returns-in_err-text : goal.returns-in_err-text
returns-in_err-text g c =
    let e = c.in_ok-network.ensures in
    let network = c.in_ok-network.network in
    let stops = c.in_ok-network.stops in
    let net = c.in_ok-net.net in
    let t = c.args.rested.now.tour in
    let same = c.trip_of-trip.ensures in
    let passed = subst (λ (trip : Trip). failed_check network trip ≡ None) same c.in_ok-net.ensures.passed in
    let is = subst (λ (trip : Trip). IsTripNet network trip net) same c.in_ok-net.ensures.net in
    ends_at_size (rested_tour_meaning c.args.rested.now) (λ kept _. kept) c.load_tour.ensures.kept (failed_size (setting_of net) stops ≡ Some TooManyStates) tt e.faultless
    (λ many. size_fails t (g.F.Folder.state c.args.folder.now) (g.F.Folder.state c.load_tour.new.folder) network stops e.network e.stops passed
    (sym (c.rested_texts_agree.ensures.size network net t.trip stops is) ∙ many))
    _ _ c.from_residual-in_err-text.ensures.1 c.in_err-text.ensures.refused

pub returns : goal.returns
returns g c =
    let e = c.in_ok-network.ensures in
    let network = c.in_ok-network.network in
    let stops = c.in_ok-network.stops in
    let net = c.in_ok-net.net in
    let t = c.args.rested.now.tour in
    let same = c.trip_of-trip.ensures in
    let passed = subst (λ (trip : Trip). failed_check network trip ≡ None) same c.in_ok-net.ensures.passed in
    let is = subst (λ (trip : Trip). IsTripNet network trip net) same c.in_ok-net.ensures.net in
    let asked : c.request_of.result ≡ request_of t.trip = c.request_of.ensures ∙ ap request_of same in
    ends_rested_tour c.args.rested.now (g.F.Folder.state c.args.folder.now) (g.F.Folder.state c.load_tour.new.folder) network stops e.network e.stops passed e.faultless
    (sym (c.rested_texts_agree.ensures.size network net t.trip stops is) ∙ c.in_ok-text.ensures.few) _ refl
    (c.rested_texts_agree.ensures.text network net t.trip stops (tour_rule_of c.args.rested.now) _ is
    (subst (λ (r : Request). IsRestedTourText (setting_of net) r stops (tour_rule_of c.args.rested.now) c.in_ok-text.text.items) asked c.in_ok-text.ensures.right)) c.load_tour.ensures.kept
