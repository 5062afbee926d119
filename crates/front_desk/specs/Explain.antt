-- The report of the command that explains an itinerary (source: own).
use Rattle.std.specs.Prelude.{◌≡◌, ℕ, Option, None, List}
use Rattle.std.specs.Option.{option_map, option_or}
use Rattle.route_base.specs.Contents.{Contents}
use Rattle.route_base.specs.Front.{IsFront}
use Rattle.route_base.specs.Setting.{Setting}
use Rattle.route_base.specs.declared.faults.BadInput.{BadInput}
use Rattle.route_base.specs.declared.faults.Cause.TheVariants.{BadForm}
use Rattle.route_base.specs.declared.faults.FileKind.TheVariants.{Itinerary}
use Rattle.route_base.specs.declared.faults.RequestFault.{RequestFault}
use Rattle.route_base.specs.declared.types.Leg.{Leg}
use Rattle.route_base.specs.declared.types.Pair.{Pair}
use Rattle.route_base.specs.declared.types.Request.{Request}
use Rattle.vehicle_classes.specs.VehicleModel.{VehicleModel}
use Rattle.network_tables.specs.NetworkModel.{NetworkModel}
use Rattle.network_tables.specs.RoadSetting.{road_setting}
use Rattle.trip_explain.specs.Dominators.{first_dominator}
use Rattle.trip_explain.specs.ExplanationText.{explanation_text}
use Rattle.trip_explain.specs.Explanations.{IsExplained}
use Rattle.trip_explain.specs.ItineraryFile.{bad_line_of, legs_of}
use Rattle.trip_explain.specs.declared.explanation.Explanation.{Explanation}
use Rattle.trip_explain.specs.declared.explanation.Explanation.TheVariants.{Lawful, Unlawful}
use Rattle.front_words.specs.declared.explain.Explain.{Explain}
use Rattle.network_folder.specs.Files.{bytes_at}
use Rattle.network_folder.specs.ReadingOrder.{itinerary_file, first_fault_with, network_held}
use Rattle.front_desk.specs.Meaning.{Meaning, reads}
use Rattle.front_desk.specs.Trips.{failed_check, request_of, vehicle_named}

-- the bytes of the itinerary's file
abbrev pub itinerary_bytes : Explain → Contents → List ℕ
itinerary_bytes e held = bytes_at held e.dir (itinerary_file e.itinerary)

-- the legs that the lines of the folder's file state, in their order
abbrev pub legs_held : Explain → Contents → List Leg
legs_held e held = legs_of (itinerary_bytes e held)

-- the fault at a line of an itinerary's file
abbrev pub line_fault : ℕ → BadInput
line_fault line = record { file = Itinerary; row = line; cause = BadForm }

-- the first fault of an itinerary's file: its first bad line
abbrev pub itinerary_fault : List ℕ → Option BadInput
itinerary_fault bytes = option_map line_fault (bad_line_of bytes)

-- the first fault of the command's files, of which the itinerary is read last: it is judged last, too
abbrev pub explain_fault : Explain → Contents → Option BadInput
explain_fault e held = option_or (first_fault_with (itinerary_file e.itinerary) held e.dir) (itinerary_fault (itinerary_bytes e held))

-- the first check that the trip fails
abbrev pub explain_check : Explain → Contents → Option RequestFault
explain_check e held = failed_check (network_held held e.dir) e.trip

-- the first pair of the Pareto front that dominates this one, or none
pub record IsFirstBetter (s : Setting) (request : Request) (pair : Pair) (better : Option Pair) : Type 0 where
  pub front : List Pair
  pub is_front : IsFront s request front
  pub is_first : better ≡ first_dominator front pair

-- the pair that is better than the explained legs: for lawful ones the first of the Pareto front that dominates theirs
abbrev pub IsBetterFor : Setting → Request → Explanation → Option Pair → Type 0
IsBetterFor s request (Lawful pair) better = IsFirstBetter s request pair better
IsBetterFor s request (Unlawful leg minute why) better = better ≡ None

-- the text explains the legs over the vehicle's roads: it has their pair and the one that is better, or the first unlawful leg, with its
-- minute and the reason
pub record IsExplainText (network : NetworkModel) (vehicle : VehicleModel) (request : Request) (legs : List Leg) (text : List ℕ) : Type 0 where
  pub explanation : Explanation
  pub explained : IsExplained network vehicle request legs explanation
  pub better : Option Pair
  pub is_better : IsBetterFor (road_setting network vehicle) request explanation better
  pub is_text : text ≡ explanation_text explanation better

-- the text explains the legs of the folder's file over the roads of the folder's network for the trip's vehicle
abbrev pub IsExplainReport : Explain → Contents → List ℕ → Type 0
IsExplainReport e held text =
    IsExplainText (network_held held e.dir) (vehicle_named (network_held held e.dir) e.trip.vehicle) (request_of e.trip) (legs_held e held) text

-- the meaning of `explain`
abbrev pub explain_meaning : Explain → Meaning
explain_meaning e = reads (explain_fault e) (explain_check e) (IsExplainReport e)
