use Rattle.std.proofs.Common.{◌≡◌, ap, subst, ◌∙◌, arith}
use Rattle.route_base.specs.Front.{IsRight}
use Rattle.route_base.specs.Matching.{IsInWindow}
use Rattle.route_base.specs.Net.{setting_of}
use Rattle.route_base.specs.declared.types.Form.TheVariants.{Plain}
use Rattle.route_base.specs.declared.types.Request.{Request}
use Rattle.plan_report.specs.Reports.{report_text}
use Rattle.front_desk.specs.Inside.Planning.{trip_window}
use Rattle.front_desk.specs.Plan.{trip_setting}
use Rattle.front_desk.specs.Trips.{request_of, trip_in}
use Rattle.front_desk.proofs.Sharing.{stands_shared}
use Rattle.front_desk.proofs.shared_nets.text_over.Goals as goal

pub is_trip_net-requires-clause-stands : goal.is_trip_net-requires-clause-stands
is_trip_net-requires-clause-stands c =
    stands_shared c.args.network.now c.args.shared.now (trip_in c.args.trip) c.requires.right c.requires.shared

pub returns : goal.returns
returns c =
    let net = setting_of c.args.shared.now.net in
    let trip = trip_in c.args.trip in
    let road = trip_setting c.args.network.now trip in
    let window = trip_window trip in
    let request = request_of trip in
    let routes = c.in_ok-routes.routes in
    let within : IsInWindow request window = (omega arith, omega arith) in
    let same : c.request_of-request.result ≡ request = c.request_of-request.ensures in
    record {
      routes = routes;
      right = (c.settings_agree.ensures.right net road window request c.is_trip_net.ensures.stands within routes).0
          (subst (λ (r : Request). IsRight net r routes) same c.in_ok-routes.ensures);
      is_text =
          c.in_ok-text.ensures ∙ ap (λ (r : Request). report_text Plain net r routes) same
          ∙ c.reports_agree.ensures net road window Plain request routes c.is_trip_net.ensures.stands;
    }
