-- The report of the command that plans a tour of stops (source: own).
use Rattle.std.specs.Prelude.{◌≡◌, ℕ, nat_lt, Option, Some, None, List, if◌then◌else◌}
use Rattle.std.specs.Option.{option_or}
use Rattle.route_base.specs.Contents.{Contents}
use Rattle.route_base.specs.Setting.{Setting}
use Rattle.route_base.specs.declared.faults.BadInput.{BadInput}
use Rattle.route_base.specs.declared.faults.FileKind.TheVariants.{Stops as StopsKind}
use Rattle.route_base.specs.declared.faults.RequestFault.{RequestFault}
use Rattle.route_base.specs.declared.faults.RequestFault.TheVariants.{TooManyStates}
use Rattle.route_base.specs.declared.types.Request.{Request}
use Rattle.front_transport.specs.declared.limits.TheConstants.{MOST_STATES}
use Rattle.table_reader.specs.Records.{rows_of}
use Rattle.network_tables.specs.NetworkFiles.{table_fault}
use Rattle.network_tables.specs.NetworkModel.{NetworkModel}
use Rattle.stop_tour.specs.StopTable.{stops_in, stops_schema}
use Rattle.stop_tour.specs.TourText.{tour_text_of}
use Rattle.stop_tour.specs.Tours.{AreRightTours, tour_size_in}
use Rattle.stop_tour.specs.declared.stops.Stop.{Stop}
use Rattle.stop_tour.specs.declared.stops.TourRoute.{TourRoute}
use Rattle.front_words.specs.declared.tour.Tour.{Tour}
use Rattle.front_words.specs.declared.commands.Trip.{Trip}
use Rattle.network_folder.specs.Files.{bytes_at}
use Rattle.network_folder.specs.ReadingOrder.{stops_file, first_fault_with, network_held}
use Rattle.front_desk.specs.Meaning.{Meaning, reads}
use Rattle.front_desk.specs.Plan.{trip_setting}
use Rattle.front_desk.specs.Trips.{failed_check, request_of}

-- the bytes of the table of stops
abbrev pub stops_bytes : Tour → Contents → List ℕ
stops_bytes t held = bytes_at held t.dir (stops_file t.stops)

-- the stops that the rows of the folder's table state, in their order
abbrev pub stops_held : Tour → Contents → List Stop
stops_held t held = stops_in (rows_of (stops_bytes t held))

-- the first fault of a table of stops at nodes of the network
abbrev pub stops_fault : NetworkModel → List ℕ → Option BadInput
stops_fault network bytes = table_fault StopsKind (stops_schema network.graph.nodes) bytes

-- the first fault of a tour's files, of which the table of stops is read last: it is judged last, too
abbrev pub tour_fault : Tour → Contents → Option BadInput
tour_fault t held = option_or (first_fault_with (stops_file t.stops) held t.dir) (stops_fault (network_held held t.dir) (stops_bytes t held))

-- the size is above that of all states that there may be
abbrev pub failed_size : Setting → List Stop → Option RequestFault
failed_size s stops = if nat_lt MOST_STATES (tour_size_in s stops) then Some TooManyStates else None

-- the first check that a tour of these stops fails: one of its trip, and behind these its size
abbrev pub failed_tour_check : NetworkModel → Trip → List Stop → Option RequestFault
failed_tour_check network trip stops = option_or (failed_check network trip) (failed_size (trip_setting network trip) stops)

-- the first check that the tour fails
abbrev pub tour_check : Tour → Contents → Option RequestFault
tour_check t held = failed_tour_check (network_held held t.dir) t.trip (stops_held t held)

-- the text reports right tours of these stops, their Pareto front with legs for each pair
pub record IsTourText (s : Setting) (request : Request) (stops : List Stop) (text : List ℕ) : Type 0 where
  pub routes : List TourRoute
  pub right : AreRightTours s request stops routes
  pub is_text : text ≡ tour_text_of routes

-- the text reports the tours of the folder's stops over the folder's network
abbrev pub IsTourReport : Tour → Contents → List ℕ → Type 0
IsTourReport t held text = IsTourText (trip_setting (network_held held t.dir) t.trip) (request_of t.trip) (stops_held t held) text

-- the meaning of `tour`
abbrev pub tour_meaning : Tour → Meaning
tour_meaning t = reads (tour_fault t) (tour_check t) (IsTourReport t)
