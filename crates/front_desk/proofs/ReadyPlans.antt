-- A plan that is ready over a net is ready over the roads that the net stands for.
use Rattle.std.proofs.Common.{◌≡◌, ℕ, Some, None, Option, List, ◌∙◌, arith}
use Rattle.route_base.specs.Front.{IsRight}
use Rattle.route_base.specs.Net.{Net}
use Rattle.route_base.specs.Setting.{Setting}
use Rattle.route_base.specs.declared.types.Route.{Route}
use Rattle.network_tables.specs.NetworkModel.{NetworkModel}
use Rattle.certificate.specs.declared.Certificate.{Certificate}
use Rattle.certificate_check.specs.Verdicts.{IsGood}
use Rattle.plan_certificate.specs.Tight.{IsTight}
use Rattle.plan_report.specs.Reports.{report_text}
use Rattle.front_words.specs.declared.plan.Plan.{Plan}
use Rattle.front_words.specs.Commands.{IsTimed}
use Rattle.front_desk.specs.Inside.Planning.{IsFileFor, IsPlannable, IsReady, IsTripNet}
use Rattle.front_desk.specs.Trips.{IsGoodTrip, Trip, request_of}
use Rattle.front_desk.specs.declared.plan.CertificateFile.{CertificateFile}
use Rattle.front_desk.specs.declared.plan.Planned.{Planned}

module _ (s z : Setting) (p : Plan)
    (right : (routes : List Route) → IsRight s (request_of p.trip) routes → IsRight z (request_of p.trip) routes)
    (good : (c : Certificate) → IsGood s (request_of p.trip) c → IsGood z (request_of p.trip) c)
    (tight : (c : Certificate) → IsTight s (request_of p.trip) c → IsTight z (request_of p.trip) c)
    (same : (routes : List Route) → report_text p.form s (request_of p.trip) routes ≡ report_text p.form z (request_of p.trip) routes) where
  file_stands : (routes : List Route) (asked : Option (List ℕ)) (file : Option CertificateFile)
      → IsFileFor s (request_of p.trip) routes asked file → IsFileFor z (request_of p.trip) routes asked file
  file_stands routes None None is = tt
  file_stands routes None (Some file) is = is
  file_stands routes (Some name) None is = is
  file_stands routes (Some name) (Some file) is = (
    is.0,
    record {
      certificate = is.1.certificate;
      same = is.1.same;
      good = good is.1.certificate is.1.good;
      tight = tight is.1.certificate is.1.tight;
      is_text = is.1.is_text;
      short = is.1.short;
    },
  )

  pub ready_stands : (planned : Planned) → IsReady s p planned → IsReady z p planned
  ready_stands planned ready = record {
    routes = ready.routes;
    right = right ready.routes ready.right;
    is_text = ready.is_text ∙ same ready.routes;
    file = file_stands ready.routes p.certificate planned.certificate ready.file;
  }

-- a trip that passes the checks may be planned over its net
pub plannable : (network : NetworkModel) (trip : Trip) (net : Net) → IsTripNet network trip net → IsGoodTrip network.graph.nodes trip → IsTimed trip
    → IsPlannable net (request_of trip)
plannable network trip net is good timed = record {
  good = is.good;
  depart = timed.depart;
  until = timed.until;
  in_time = good.in_order;
  horizon = omega (arith, good.short);
  fit = is.fit;
  cheap = is.cheap;
  nodes = is.nodes;
  arcs = is.arcs;
}
