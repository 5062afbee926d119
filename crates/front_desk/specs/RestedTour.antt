-- The report of the command that plans a tour under a break rule (source: own).
use Rattle.std.specs.Prelude.{◌≡◌, ℕ, List}
use Rattle.route_base.specs.Contents.{Contents}
use Rattle.route_base.specs.Setting.{Setting}
use Rattle.route_base.specs.declared.types.Request.{Request}
use Rattle.drive_states.specs.declared.rule.BreakRule.{BreakRule}
use Rattle.rested_tours.specs.RestedTours.{AreRightRestedTours}
use Rattle.stop_tour.specs.TourText.{tour_text_of}
use Rattle.stop_tour.specs.declared.stops.Stop.{Stop}
use Rattle.stop_tour.specs.declared.stops.TourRoute.{TourRoute}
use Rattle.front_words.specs.declared.tour.RestedTour.{RestedTour}
use Rattle.network_folder.specs.ReadingOrder.{network_held}
use Rattle.front_desk.specs.Meaning.{Meaning, reads}
use Rattle.front_desk.specs.Plan.{trip_setting}
use Rattle.front_desk.specs.Tour.{stops_held, tour_check, tour_fault}
use Rattle.front_desk.specs.Trips.{request_of}

-- the break rule of the command
abbrev pub tour_rule_of : RestedTour → BreakRule
tour_rule_of t = record { drive = t.drive; rest = t.rest }

-- the text reports right tours of these stops that keep the rule, their Pareto front with the first legs of each pair
pub record IsRestedTourText (s : Setting) (request : Request) (stops : List Stop) (rule : BreakRule) (text : List ℕ) : Type 0 where
  pub routes : List TourRoute
  pub right : AreRightRestedTours s request stops rule routes
  pub is_text : text ≡ tour_text_of routes

-- the text reports the tours of the folder's stops over the folder's network
abbrev pub IsRestedTourReport : RestedTour → Contents → List ℕ → Type 0
IsRestedTourReport t held text =
    IsRestedTourText (trip_setting (network_held held t.tour.dir) t.tour.trip) (request_of t.tour.trip) (stops_held t.tour held) (tour_rule_of t) text

-- the meaning of `tour` under a break rule, which reads and checks what it does without one
abbrev pub rested_tour_meaning : RestedTour → Meaning
rested_tour_meaning t = reads (tour_fault t.tour) (tour_check t.tour) (IsRestedTourReport t)
