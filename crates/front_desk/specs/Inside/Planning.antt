-- The net of a trip, and what a plan has ready before it writes (source: own).
use Rattle.std.specs.Prelude.{◌≡◌, ◌⊎◌, ℕ, ◌-◌, ◌≤◌, false, ⊤, Option, Some, None, List, length, Result, Ok, Err}
use Rattle.route_base.specs.FolderState.{FolderState, CountsRise, KeepsFiles, PutsFile}
use Rattle.route_base.specs.Front.{IsRight}
use Rattle.route_base.specs.Legs.{CostsFit}
use Rattle.route_base.specs.Matching.{StandsFor}
use Rattle.route_base.specs.Net.{Net, IsGoodRequest, setting_of}
use Rattle.route_base.specs.Setting.{Setting}
use Rattle.route_base.specs.Time.{IsInstant}
use Rattle.route_base.specs.declared.faults.RequestFault.{RequestFault}
use Rattle.route_base.specs.declared.faults.RequestFault.TheVariants.{TooManyStates}
use Rattle.route_base.specs.declared.limits.TheConstants.{LONGEST_HORIZON, MOST_NODES, MOST_ARCS}
use Rattle.route_base.specs.declared.sink.WriteError.{WriteError}
use Rattle.route_base.specs.declared.types.Request.{Request}
use Rattle.route_base.specs.declared.types.Route.{Route}
use Rattle.route_base.specs.declared.types.Run.{Run}
use Rattle.vehicle_classes.specs.VehicleModel.{VehicleModel}
use Rattle.front_transport.specs.CheapArcs.{HasCheapArcs}
use Rattle.network_tables.specs.NetworkModel.{IsGoodNetwork, NetworkModel}
use Rattle.plan_certificate.specs.CheapRoads.{HasCheapRoads}
use Rattle.plan_report.specs.Reports.{report_text}
use Rattle.plan_report.specs.declared.outcomes.Refusal.TheVariants.{Usage, Input, Request as RequestRefusal}
use Rattle.front_words.specs.declared.plan.Plan.{Plan}
use Rattle.network_folder.specs.Files.{path_of}
use Rattle.network_folder.specs.Writing.{FailsToPut}
use Rattle.front_desk.specs.Plan.{IsCertificateOf, trip_setting}
use Rattle.front_desk.specs.Inside.Ending.{halt_of_write}
use Rattle.front_desk.specs.Trips.{IsGoodTrip, Trip, failed_check, request_of, vehicle_named}
use Rattle.front_desk.specs.declared.outcome.Halt.{Halt}
use Rattle.front_desk.specs.declared.outcome.Halt.TheVariants.{Refused, ReadFault, WriteFault, NoMemory}
use Rattle.front_desk.specs.declared.outcome.Report.{Report}
use Rattle.front_desk.specs.declared.plan.CertificateFile.{CertificateFile}
use Rattle.front_desk.specs.declared.plan.Planned.{Planned}

-- the minutes of a trip
abbrev pub trip_window : Trip → Run
trip_window trip = record { lo = trip.depart; hi = trip.until }

-- the trip passes the checks over a sound network, which has the vehicle under its name
pub record IsChecked (network : NetworkModel) (trip : Trip) (vehicle : VehicleModel) : Type 0 where
  pub sound : IsGoodNetwork network
  pub named : vehicle ≡ vehicle_named network trip.vehicle
  pub good : IsGoodTrip network.graph.nodes trip

-- why there is no net, by the first check that fails, if any: that one, or memory ran out
abbrev pub StopsAtCheck : Option RequestFault → Halt → Type 0
StopsAtCheck failed (Refused (RequestRefusal fault)) = failed ≡ Some fault
StopsAtCheck failed (Refused (Input fault)) = ⊥
StopsAtCheck failed (Refused Usage) = ⊥
StopsAtCheck failed ReadFault = ⊥
StopsAtCheck failed WriteFault = ⊥
StopsAtCheck failed NoMemory = ⊤

-- why a trip has no net: it fails a check, or memory ran out
abbrev pub StopsTrip : NetworkModel → Trip → Halt → Type 0
StopsTrip network trip halt = StopsAtCheck (failed_check network trip) halt

-- the halt at a request that has too many states
abbrev pub too_many : Halt
too_many = Refused (RequestRefusal TooManyStates)

-- why a trip whose states may be too many has no text: they are, or memory ran out
abbrev pub StopsAtSize : Type 0 → Halt → Type 0
StopsAtSize Many halt = (halt ≡ NoMemory) ⊎ ((halt ≡ too_many) × Many)

-- the net stands for the roads of the trip's vehicle in the trip's minutes, none of which is dear, and the trip is a request over it
pub record IsTripNet (network : NetworkModel) (trip : Trip) (net : Net) : Type 0 where
  pub stands : StandsFor (setting_of net) (trip_setting network trip) (trip_window trip)
  pub good : IsGoodRequest net (request_of trip)
  pub fit : CostsFit (setting_of net) (request_of trip)
  pub cheap : HasCheapRoads (setting_of net)
  pub cheap_arcs : HasCheapArcs net
  pub nodes : net.nodes ≤ MOST_NODES
  pub arcs : length net.arcs ≤ MOST_ARCS

-- the request asks for a plan over the net that is no longer, and no larger, than a plan may be
pub record IsPlannable (net : Net) (request : Request) : Type 0 where
  pub good : IsGoodRequest net request
  pub depart : IsInstant request.depart
  pub until : IsInstant request.until
  pub in_time : request.depart ≤ request.until
  pub horizon : request.until - request.depart ≤ LONGEST_HORIZON
  pub fit : CostsFit (setting_of net) request
  pub cheap : HasCheapRoads (setting_of net)
  pub nodes : net.nodes ≤ MOST_NODES
  pub arcs : length net.arcs ≤ MOST_ARCS

-- the file is the certificate that was asked for
abbrev pub IsFileFor : Setting → Request → List Route → Option (List ℕ) → Option CertificateFile → Type 0
IsFileFor s request routes None None = ⊤
IsFileFor s request routes None (Some file) = ⊥
IsFileFor s request routes (Some name) None = ⊥
IsFileFor s request routes (Some name) (Some file) = (file.name.now ≡ name) × IsCertificateOf s request routes file.bytes.items

-- the text reports right routes, and the certificate of these routes is ready where one is asked for
pub record IsReady (s : Setting) (p : Plan) (planned : Planned) : Type 0 where
  pub routes : List Route
  pub right : IsRight s (request_of p.trip) routes
  pub is_text : planned.text.items ≡ report_text p.form s (request_of p.trip) routes
  pub file : IsFileFor s (request_of p.trip) routes p.certificate planned.certificate

-- the file was written, if there is one, and no other file is changed
abbrev pub IsWritten : FolderState → FolderState → List ℕ → Option CertificateFile → Type 0
IsWritten old new dir None = KeepsFiles old new
IsWritten old new dir (Some file) = CountsRise old new × PutsFile old new (path_of dir file.name.now) file.bytes.items

-- the file couldn't be written
abbrev pub IsUnwritten : FolderState → FolderState → List ℕ → Option CertificateFile → WriteError → Type 0
IsUnwritten old new dir None error = ⊥
IsUnwritten old new dir (Some file) error = CountsRise old new × FailsToPut old new (path_of dir file.name.now) error

-- the file couldn't be written, which stops the command
pub record StopsHanding (old new : FolderState) (dir : List ℕ) (file : Option CertificateFile) (halt : Halt) : Type 0 where
  pub error : WriteError
  pub is_halt : halt ≡ halt_of_write error
  pub unwritten : IsUnwritten old new dir file error

-- the text is handed over and its certificate was written, or why not
abbrev pub HandsOver : FolderState → FolderState → List ℕ → Planned → Result Report Halt → Type 0
HandsOver old new dir planned (Ok report) =
    (report.rejects ≡ false) × ((report.text.items ≡ planned.text.items) × IsWritten old new dir planned.certificate)
HandsOver old new dir planned (Err halt) = StopsHanding old new dir planned.certificate halt
