-- The report of the command that answers how late one may leave (source: own).
use Rattle.std.specs.Prelude.{◌≡◌, ℕ, Option, List}
use Rattle.route_base.specs.Contents.{Contents}
use Rattle.route_base.specs.Setting.{Setting}
use Rattle.route_base.specs.declared.faults.BadInput.{BadInput}
use Rattle.route_base.specs.declared.faults.RequestFault.{RequestFault}
use Rattle.route_base.specs.declared.types.Request.{Request}
use Rattle.latest_departure.specs.LateFront.{AreRightLate}
use Rattle.latest_departure.specs.LateText.{late_text_of}
use Rattle.latest_departure.specs.declared.routes.LateRoute.{LateRoute}
use Rattle.front_words.specs.declared.latest.Latest.{Latest}
use Rattle.network_folder.specs.ReadingOrder.{first_folder_fault, network_held}
use Rattle.front_desk.specs.Meaning.{Meaning, reads}
use Rattle.front_desk.specs.Plan.{trip_setting}
use Rattle.front_desk.specs.Trips.{failed_check_within, request_of}
use Rattle.front_desk.specs.declared.latest.TheConstants.{LONGEST_LATE_HORIZON}

-- the text reports right latest departures, the Pareto front of departure and cost with an itinerary for each pair
pub record IsLateText (s : Setting) (request : Request) (text : List ℕ) : Type 0 where
  pub routes : List LateRoute
  pub right : AreRightLate s request routes
  pub is_text : text ≡ late_text_of routes

-- the text reports those of the command's trip over the roads of the folder's network for its vehicle
abbrev pub IsLateReport : Latest → Contents → List ℕ → Type 0
IsLateReport l held text = IsLateText (trip_setting (network_held held l.dir) l.trip) (request_of l.trip) text

-- the first fault of the command's files
abbrev pub latest_fault : Latest → Contents → Option BadInput
latest_fault l held = first_folder_fault held l.dir

-- the first check that the command's trip fails, whose time may have a minute less than that of a plan
abbrev pub latest_check : Latest → Contents → Option RequestFault
latest_check l held = failed_check_within LONGEST_LATE_HORIZON (network_held held l.dir) l.trip

-- the meaning of `latest`
abbrev pub latest_meaning : Latest → Meaning
latest_meaning l = reads (latest_fault l) (latest_check l) (IsLateReport l)
