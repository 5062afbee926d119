-- The definitions at some values.
use Rattle.std.proofs.Common.{◌≡◌, ℕ, false, Option, Some, None, List, [], ◌∷◌, ◌++◌, codes, refl}
use Rattle.std.specs.Prelude.{if◌then◌else◌}
use Rattle.std.specs.Str.{bytes_eq}
use Rattle.std.specs.Fmt.{digits}
use Rattle.route_base.specs.declared.types.Leg.TheVariants.{Drive}
use Rattle.route_base.specs.declared.types.Route.{Route}
use Rattle.route_base.specs.declared.faults.FileKind.TheVariants.{Graph}
use Rattle.route_base.specs.declared.faults.Cause.TheVariants.{Missing}
use Rattle.route_base.specs.declared.faults.RequestFault.{RequestFault}
use Rattle.route_base.specs.declared.faults.RequestFault.TheVariants.{OriginRange, GoalRange, UntilBeforeDepart, HorizonTooLong}
use Rattle.route_base.specs.declared.types.Form.TheVariants.{Plain}
use Rattle.plan_report.specs.declared.outcomes.Refusal.TheVariants.{Usage, Input, Request}
use Rattle.plan_report.specs.Bans.{bans_text_of}
use Rattle.line_texts.specs.Costs.{thousandths_of}
use Rattle.plan_report.specs.Plain.{plain_text_of}
use Rattle.plan_report.specs.Refusals.{refusal_text_of}
use Rattle.front_words.specs.declared.commands.Invocation.{Invocation as Command}
use Rattle.front_words.specs.declared.commands.Invocation.TheVariants.{Plan as to_plan, Bans as to_bans}
use Rattle.front_words.specs.Commands.{command_of}
use Rattle.front_words.specs.Forms.{is_folder_name, node_of}
use Rattle.calendar_days.specs.Days.{days_of_years, days_of_months, date_on}
use Rattle.calendar_days.specs.Texts.{instant_of, instant_text_of, day_of_text, clock_of}
use Rattle.latest_departure.specs.LateText.{late_text_of}
use Rattle.front_desk.specs.Trips.{failed_check_over, failed_check_over_within}
use Rattle.front_desk.specs.declared.latest.TheConstants.{LONGEST_LATE_HORIZON}
use Rattle.network_folder.specs.Files.{first_unreadable}
use Rattle.network_folder.specs.ReadingOrder.{network_files, first_folder_fault}

-- the words of a plan from `d`, with these for FROM, TO, DEPART and UNTIL
abbrev words_with : List ℕ → List ℕ → List ℕ → List ℕ → List (List ℕ)
words_with from to start end = codes "plan" ∷ codes "d" ∷ codes "any" ∷ from ∷ to ∷ start ∷ end ∷ []

-- the plan of that trip
abbrev the_plan : Option Command
the_plan = Some (to_plan (record {
  dir = codes "d";
  trip = record { vehicle = codes "any"; origin = 1; goal = 3; depart = 26563680; until = 26564080 };
  form = Plain;
  certificate = None;
}))

pub plan_read : command_of (words_with (codes "1") (codes "3") (codes "26563680") (codes "26564080")) ≡ the_plan
unfolding instant_of
plan_read = refl

-- the same trip, its instants as texts
pub texts_read : command_of (words_with (codes "1") (codes "3") (codes "2020-07-04T00:00Z") (codes "2020-07-04T06:40:00Z")) ≡ the_plan
unfolding instant_of day_of_text clock_of days_of_years days_of_months
texts_read = refl

pub no_such_day_refused : command_of (words_with (codes "1") (codes "3") (codes "2020-02-30T00:00Z") (codes "2020-07-04T06:40Z")) ≡ None
unfolding instant_of day_of_text clock_of days_of_years days_of_months
no_such_day_refused = refl

pub leading_zero_refused : command_of (words_with (codes "01") (codes "3") (codes "26563680") (codes "26564080")) ≡ None
unfolding instant_of
leading_zero_refused = refl

pub command_alone_refused : command_of (codes "plan" ∷ []) ≡ None
command_alone_refused = refl

pub eighth_word_refused : command_of (words_with (codes "1") (codes "3") (codes "26563680") (codes "26564080") ++ codes "x" ∷ []) ≡ None
unfolding instant_of
eighth_word_refused = refl

pub before_first_instant : command_of (words_with (codes "1") (codes "3") (codes "525599") (codes "26564080")) ≡ None
unfolding instant_of day_of_text
before_first_instant = refl

pub after_last_instant : command_of (words_with (codes "1") (codes "3") (codes "26563680") (codes "120968640")) ≡ None
unfolding instant_of day_of_text
after_last_instant = refl

pub zero_node_read : node_of (codes "0") ≡ Some 0
zero_node_read = refl

pub largest_node_read : node_of (codes "4294967295") ≡ Some 4294967295
largest_node_read = refl

pub larger_node_refused : node_of (codes "4294967296") ≡ None
larger_node_refused = refl

pub dash_refused : is_folder_name (codes "-d") ≡ false
dash_refused = refl

-- a route over two arcs
abbrev one_route : Route
one_route = record { pair = record { arrival = 26563800; cost = 120000 }; legs = Drive (record { 0 = 1 }) ∷ Drive (record { 0 = 2 }) ∷ [] }

pub report_of_one_route : plain_text_of (one_route ∷ []) ≡ codes "pairs 1\npair 26563800 120.000\ndrive 1\ndrive 2\n"
unfolding digits
report_of_one_route = refl

pub report_of_none : plain_text_of [] ≡ codes "pairs 0\n"
unfolding digits
report_of_none = refl

pub no_cost : thousandths_of 0 ≡ codes "0.000"
unfolding digits
no_cost = refl

pub padded_cost : thousandths_of 360007 ≡ codes "360.007"
unfolding digits
padded_cost = refl

pub usage_refused : refusal_text_of Usage ≡ codes "refused usage\n"
usage_refused = refl

pub missing_graph_refused : refusal_text_of (Input (record { file = Graph; row = 0; cause = Missing })) ≡ codes "refused input graph.gr 0 Missing\n"
unfolding digits
missing_graph_refused = refl

pub long_horizon_refused : refusal_text_of (Request HorizonTooLong) ≡ codes "refused request HorizonTooLong\n"
long_horizon_refused = refl

-- the bans of the second arc
abbrev the_bans : Option Command
the_bans = Some (to_bans (record { dir = codes "d"; vehicle = codes "any"; arc = 2; depart = 26563680; until = 26564080 }))

-- the words of bans over `d`, with this for ARC
abbrev bans_with : List ℕ → List (List ℕ)
bans_with arc = codes "bans" ∷ codes "d" ∷ codes "any" ∷ arc ∷ codes "26563680" ∷ codes "26564080" ∷ []

pub bans_read : command_of (bans_with (codes "2")) ≡ the_bans
unfolding instant_of
bans_read = refl

pub zero_before_arc_refused : command_of (bans_with (codes "02")) ≡ None
unfolding instant_of
zero_before_arc_refused = refl

pub report_of_no_bans : bans_text_of [] 3 ≡ codes "bans 0\npassed 3\n"
unfolding digits
report_of_no_bans = refl

pub report_of_an_hour : bans_text_of (record { lo = 525600; hi = 525660 } ∷ []) 0
    ≡ codes "bans 1\nclosed 1971-01-01T00:00Z 1971-01-01T01:00Z\npassed 0\n"
unfolding digits instant_text_of date_on
report_of_an_hour = refl

-- the first check that a trip over three nodes fails
abbrev failing_of : ℕ → ℕ → ℕ → ℕ → Option RequestFault
failing_of from to start end = failed_check_over 3 (record { vehicle = codes "any"; origin = from; goal = to; depart = start; until = end })

pub origin_from_one : failing_of 0 4 26563680 26563679 ≡ Some OriginRange
origin_from_one = refl

pub goal_to_last : failing_of 1 4 26563680 26563679 ≡ Some GoalRange
goal_to_last = refl

pub end_before_start : failing_of 1 3 26563680 26563679 ≡ Some UntilBeforeDepart
end_before_start = refl

pub at_once : failing_of 1 3 26563680 26563680 ≡ None
at_once = refl

pub sixty_days : failing_of 1 3 26563680 26650080 ≡ None
sixty_days = refl

pub a_minute_more : failing_of 1 3 26563680 26650081 ≡ Some HorizonTooLong
a_minute_more = refl

-- the same for a latest departure
abbrev failing_late : ℕ → Option RequestFault
failing_late end = failed_check_over_within LONGEST_LATE_HORIZON 3 (record {
  vehicle = codes "any";
  origin = 1;
  goal = 3;
  depart = 26563680;
  until = end;
})

pub a_minute_less : failing_late 26650079 ≡ None
a_minute_less = refl

pub sixty_days_are_too_long : failing_late 26650080 ≡ Some HorizonTooLong
sixty_days_are_too_long = refl

pub report_of_one_departure : late_text_of (record { departure = 26563960; cost = 120000; legs = one_route.legs } ∷ [])
    ≡ codes "pairs 1\nleave 26563960 120.000\ndrive 1\ndrive 2\n"
unfolding digits
report_of_one_departure = refl

-- an empty folder lacks its graph
no_graph : first_folder_fault (λ name. None) (codes "d") ≡ Some (record { file = Graph; row = 0; cause = Missing })
unfolding first_unreadable
no_graph = refl

-- a graph that isn't one, and another file
beside : List ℕ → List ℕ → List ℕ → Option (List ℕ)
beside other bytes name = if bytes_eq name (codes "d/graph.gr") then Some (codes "x\n") else if bytes_eq name other then Some bytes else None

-- a fault of a table's contents is no reading fault
tables_read : first_unreadable (beside (codes "d/parking.csv") (codes "x")) (codes "d") network_files ≡ None
unfolding beside first_unreadable
tables_read = refl
