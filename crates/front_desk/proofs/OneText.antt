-- The text of a command follows from the files and the words.
use Rattle.std.proofs.Common.{◌≡◌, ◌<◌, ℕ, zero, suc, None, Some, Option, List, [], ◌∷◌, length, slice_get, ap, arith, refl, sym, subst, ◌∙◌}
use Rattle.std.proofs.lemmas.List.{length-map}
use Rattle.std.proofs.lemmas.Option.{slice_get_within}
use Rattle.route_base.specs.Contents.{Contents}
use Rattle.route_base.specs.Front.{pairs_of}
use Rattle.route_base.specs.Legs.{Achieves}
use Rattle.route_base.specs.Setting.{Setting}
use Rattle.route_base.specs.declared.faults.RequestFault.{RequestFault}
use Rattle.route_base.specs.declared.types.Form.TheVariants.{Plain}
use Rattle.route_base.specs.declared.types.Leg.{Leg}
use Rattle.route_base.specs.declared.types.Pair.{Pair}
use Rattle.route_base.specs.declared.types.Request.{Request}
use Rattle.route_base.specs.declared.types.Route.{Route}
use Rattle.route_base.specs.declared.types.Run.{Run}
use Rattle.route_base.proofs.OneAnswer.{one_answer, one_front}
use Rattle.minute_sets.proofs.OneList.{one_list}
use Rattle.drive_states.specs.declared.rule.BreakRule.{BreakRule}
use Rattle.drive_breaks.proofs.OneRestedAnswer.{one_rested_answer}
use Rattle.latest_departure.specs.LateText.{late_text_of}
use Rattle.latest_departure.proofs.OneLate.{one_late_answer}
use Rattle.stop_tour.specs.TourText.{tour_text_of}
use Rattle.stop_tour.specs.declared.stops.Stop.{Stop}
use Rattle.stop_tour.proofs.OneTour.{one_tour_answer}
use Rattle.rested_tours.proofs.OneRestedTour.{one_rested_tour_answer}
use Rattle.vehicle_classes.specs.VehicleModel.{VehicleModel}
use Rattle.network_tables.specs.NetworkModel.{NetworkModel}
use Rattle.network_tables.specs.RoadSetting.{road_setting}
use Rattle.network_tables.specs.declared.jobs.Job.{Job}
use Rattle.trip_explain.specs.Dominators.{first_dominator}
use Rattle.trip_explain.specs.ExplanationText.{explanation_text}
use Rattle.trip_explain.specs.Explanations.{IsExplained}
use Rattle.trip_explain.specs.declared.explanation.Explanation.{Explanation}
use Rattle.trip_explain.specs.declared.explanation.Explanation.TheVariants.{Lawful, Unlawful}
use Rattle.trip_explain.proofs.OneExplanation.{never_both}
use Rattle.plan_report.specs.Bans.{bans_text_of}
use Rattle.plan_report.specs.Batch.{batch_text_of}
use Rattle.plan_report.specs.Check.{check_text_of}
use Rattle.plan_report.specs.Plain.{plain_text_of}
use Rattle.plan_report.specs.Reports.{report_text}
use Rattle.plan_report.specs.Summary.{summary_text_of}
use Rattle.plan_report.specs.declared.outcomes.Verdict3.TheVariants.{Accepted}
use Rattle.front_words.specs.declared.bans.Bans.{Bans}
use Rattle.front_words.specs.declared.breaks.Breaks.{Breaks}
use Rattle.front_words.specs.declared.generate.Gen.{Gen}
use Rattle.front_words.specs.declared.plan.Plan.{Plan}
use Rattle.front_desk.specs.Bans.{IsBansText}
use Rattle.front_desk.specs.Batch.{IsBatchText, IsTextAt, IsTripText, trip_of_job}
use Rattle.front_desk.specs.Breaks.{IsBreaksText, break_rule_of}
use Rattle.front_desk.specs.Check.{IsAccepted}
use Rattle.front_desk.specs.Explain.{IsBetterFor, IsExplainText, IsFirstBetter}
use Rattle.front_desk.specs.Gen.{IsSummary, drawn_trip, stated_network}
use Rattle.front_desk.specs.Latest.{IsLateText}
use Rattle.front_desk.specs.Plan.{IsPlanned, trip_setting}
use Rattle.front_desk.specs.RestedTour.{IsRestedTourText}
use Rattle.front_desk.specs.Tour.{IsTourText}
use Rattle.front_desk.specs.Trips.{Trip, request_of, failed_check}
use Rattle.certificate_check.proofs.Lawful.{achieved_once}
use Rattle.front_desk.proofs.ExactExplanations.{unlawful_exactly}

pub one_plan : (s : Setting) (p : Plan) (held : Option Contents) (after other : Option Contents) (x y : List ℕ) → IsPlanned s p held after x
    → IsPlanned s p held other y → x ≡ y
one_plan s p held after other x y first second =
    let same = one_answer s (request_of p.trip) first.routes second.routes first.right second.right in
    first.is_text ∙ ap (λ (routes : List Route). report_text p.form s (request_of p.trip) routes) same ∙ sym second.is_text

pub one_check : (s : Setting) (request : Request) (bytes x y : List ℕ) → IsAccepted s request bytes x → IsAccepted s request bytes y → x ≡ y
one_check s request bytes x y first second =
    let same = one_front s request (pairs_of first.certificate.routes) (pairs_of second.certificate.routes) first.front second.front in
    let count : length first.certificate.routes ≡ length second.certificate.routes =
    sym (length-map first.certificate.routes (λ (r : Route). r.pair)) ∙ ap (λ (pairs : List Pair). length pairs) same
    ∙ length-map second.certificate.routes (λ (r : Route). r.pair) in
    first.is_text ∙ (λ i. check_text_of Accepted (count i)) ∙ sym second.is_text

pub one_bans : (network : NetworkModel) (b : Bans) (x y : List ℕ) → IsBansText network b x → IsBansText network b y → x ≡ y
one_bans network b x y first second =
    let same = one_list first.runs second.runs first.right.clean second.right.clean (λ t. first.right.minutes t ∙ sym (second.right.minutes t)) in
    first.is_text ∙ ap (λ (runs : List Run). bans_text_of runs network.passed_over) same ∙ sym second.is_text

pub one_trip : (network : NetworkModel) (trip : Trip) (fault : Option RequestFault) (x y : List ℕ) → IsTripText network trip fault x
    → IsTripText network trip fault y → x ≡ y
one_trip network trip None x y first second =
    let s = trip_setting network trip in
    let same = one_answer s (request_of trip) first.routes second.routes first.right second.right in
    first.is_text ∙ ap (λ (routes : List Route). report_text Plain s (request_of trip) routes) same ∙ sym second.is_text
one_trip network trip (Some fault) x y first second = first ∙ sym second

one_at : (network : NetworkModel) (jobs : List Job) (k : ℕ) (x y : List ℕ) → k < length jobs → IsTextAt network jobs k x
    → IsTextAt network jobs k y → x ≡ y
one_at network [] k x y within first second = absurd (omega (arith, within))
one_at network (job ∷ jobs) zero x y within first second =
    one_trip network (trip_of_job job) (failed_check network (trip_of_job job)) x y first second
one_at network (job ∷ jobs) (suc k) x y within first second = one_at network jobs k x y (omega (arith, within)) first second

same_texts : (xs ys : List (List ℕ)) → length xs ≡ length ys
    → ((k : ℕ) (x y : List ℕ) → slice_get xs k ≡ Some x → slice_get ys k ≡ Some y → x ≡ y) → xs ≡ ys
same_texts [] [] count each = refl
same_texts [] (y ∷ ys) count each = absurd (omega (arith, count))
same_texts (x ∷ xs) [] count each = absurd (omega (arith, count))
same_texts (x ∷ xs) (y ∷ ys) count each =
    let rest = same_texts xs ys (omega (arith, count)) (λ k. each (suc k)) in
    let first = each 0 x y refl refl in
    λ i. first i ∷ rest i

pub one_batch : (network : NetworkModel) (jobs : List Job) (x y : List ℕ) → IsBatchText network jobs x → IsBatchText network jobs y → x ≡ y
one_batch network jobs x y first second =
    let same = same_texts first.texts second.texts (first.count ∙ sym second.count)
    (λ k one two is_one is_two. one_at network jobs k one two (omega (arith, slice_get_within first.texts k one is_one, first.count))
    (first.each k one is_one) (second.each k two is_two)) in
    first.is_text ∙ ap (λ (texts : List (List ℕ)). batch_text_of texts) same ∙ sym second.is_text

pub one_summary : (g : Gen) (x y : List ℕ) → IsSummary g x → IsSummary g y → x ≡ y
one_summary g x y first second =
    let same = one_answer (trip_setting (stated_network g) (drawn_trip g)) (request_of (drawn_trip g)) first.routes second.routes first.right second.right in
    first.is_text ∙ ap (λ (routes : List Route). summary_text_of (stated_network g).graph.nodes (length (stated_network g).graph.arcs) routes) same
    ∙ sym second.is_text

pub one_late : (s : Setting) (request : Request) (x y : List ℕ) → IsLateText s request x → IsLateText s request y → x ≡ y
one_late s request x y first second =
    first.is_text ∙ ap late_text_of (one_late_answer s request first.routes second.routes first.right second.right) ∙ sym second.is_text

pub one_tour : (s : Setting) (request : Request) (stops : List Stop) (x y : List ℕ) → IsTourText s request stops x → IsTourText s request stops y
    → x ≡ y
one_tour s request stops x y first second =
    first.is_text ∙ ap tour_text_of (one_tour_answer s request stops first.routes second.routes first.right second.right) ∙ sym second.is_text

pub one_rested_tour : (s : Setting) (request : Request) (stops : List Stop) (rule : BreakRule) (x y : List ℕ) → IsRestedTourText s request stops rule x
    → IsRestedTourText s request stops rule y → x ≡ y
one_rested_tour s request stops rule x y first second =
    let same = one_rested_tour_answer s request stops rule first.routes second.routes first.right second.right in
    first.is_text ∙ ap tour_text_of same ∙ sym second.is_text

pub one_breaks : (s : Setting) (b : Breaks) (x y : List ℕ) → IsBreaksText s b x → IsBreaksText s b y → x ≡ y
one_breaks s b x y first second =
    let same = one_rested_answer s (request_of b.trip) (break_rule_of b) first.routes second.routes first.right first.first second.right second.first in
    first.is_text ∙ ap plain_text_of same ∙ sym second.is_text

module _ (network : NetworkModel) (vehicle : VehicleModel) (r : Request) (legs : List Leg) (x y : List ℕ) where
  abbrev s : Setting
  s = road_setting network vehicle

  same_better : (pair : Pair) (one two : Option Pair) → IsFirstBetter s r pair one → IsFirstBetter s r pair two → one ≡ two
  same_better pair one two first second =
      let same = one_front s r first.front second.front first.is_front second.is_front in
      first.is_first ∙ ap (λ (front : List Pair). first_dominator front pair) same ∙ sym second.is_first

  both_lawful : (pair : Pair) (better : Option Pair) → Achieves s r legs pair → IsFirstBetter s r pair better → x ≡ explanation_text (Lawful pair) better
      → (explanation : Explanation) (other : Option Pair) → IsExplained network vehicle r legs explanation → IsBetterFor s r explanation other
      → y ≡ explanation_text explanation other → x ≡ y
  both_lawful pair better achieves first is_text (Lawful p) other achieves_p second is_other =
      let same : p ≡ pair = achieved_once s r legs p pair achieves_p achieves in
      let best : better ≡ other = same_better pair better other first (subst (λ (q : Pair). IsFirstBetter s r q other) same second) in
      is_text ∙ (λ i. explanation_text (Lawful (sym same i)) (best i)) ∙ sym is_other
  both_lawful pair better achieves first is_text (Unlawful leg minute why) other unlawful second is_other =
      absurd (never_both network vehicle r legs leg minute why pair unlawful achieves)

  by_first : (explanation : Explanation) (better : Option Pair) → IsExplained network vehicle r legs explanation → IsBetterFor s r explanation better
      → x ≡ explanation_text explanation better → IsExplainText network vehicle r legs x → IsExplainText network vehicle r legs y → x ≡ y
  by_first (Lawful pair) better achieves first is_text one two =
      both_lawful pair better achieves first is_text two.explanation two.better two.explained two.is_better two.is_text
  by_first (Unlawful leg minute why) better unlawful first is_text one two =
      unlawful_exactly network vehicle r legs x leg minute why one unlawful ∙ sym (unlawful_exactly network vehicle r legs y leg minute why two unlawful)

  pub one_explained : IsExplainText network vehicle r legs x → IsExplainText network vehicle r legs y → x ≡ y
  one_explained one two = by_first one.explanation one.better one.explained one.is_better one.is_text one two
