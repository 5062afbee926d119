-- The report of the command that prints the closed minutes of an arc (source: own).
use Rattle.std.specs.Prelude.{◌≡◌, ℕ, ◌&&◌, Option, Some, List, not, if◌then◌else◌, length}
use Rattle.route_base.specs.Contents.{Contents}
use Rattle.route_base.specs.Runs.{any_has, has_minute, AreRuns}
use Rattle.route_base.specs.declared.faults.BadInput.{BadInput}
use Rattle.route_base.specs.declared.faults.RequestFault.{RequestFault}
use Rattle.route_base.specs.declared.faults.RequestFault.TheVariants.{UnknownVehicle, UnknownArc}
use Rattle.route_base.specs.declared.types.Run.{Run}
use Rattle.network_tables.specs.Access.{is_closed}
use Rattle.network_tables.specs.NetworkModel.{NetworkModel}
use Rattle.plan_report.specs.Bans.{bans_text_of}
use Rattle.front_words.specs.declared.bans.Bans.{Bans}
use Rattle.network_folder.specs.ReadingOrder.{first_folder_fault, network_held}
use Rattle.front_desk.specs.Meaning.{Meaning, reads}
use Rattle.front_desk.specs.Trips.{is_vehicle, is_node, failed_time, vehicle_named}

-- the first check that the words fail over a network
abbrev pub failed_bans_check : NetworkModel → Bans → Option RequestFault
failed_bans_check network b =
    if not (is_vehicle network b.vehicle) then Some UnknownVehicle
    else if not (is_node (length network.graph.arcs) b.arc) then Some UnknownArc
    else failed_time b.depart b.until

-- the minutes from the first instant up to, but not including, the last
abbrev pub window_of : Bans → Run
window_of b = record { lo = b.depart; hi = b.until }

-- clean runs that have exactly the minutes of the window at which the arc is closed to the vehicle
pub record AreBans (network : NetworkModel) (b : Bans) (runs : List Run) : Type 0 where
  pub clean : AreRuns runs
  pub minutes : (t : ℕ) → any_has runs t ≡ (has_minute t (window_of b) && is_closed network (vehicle_named network b.vehicle) b.arc t)

-- the text of such runs, and of the number of rows of rules that were passed over
pub record IsBansText (network : NetworkModel) (b : Bans) (text : List ℕ) : Type 0 where
  pub runs : List Run
  pub right : AreBans network b runs
  pub is_text : text ≡ bans_text_of runs network.passed_over

-- the text reports the closed minutes over the folder's network
abbrev pub IsBansReport : Bans → Contents → List ℕ → Type 0
IsBansReport b held text = IsBansText (network_held held b.dir) b text

-- the first fault of the command's files
abbrev pub bans_fault : Bans → Contents → Option BadInput
bans_fault b held = first_folder_fault held b.dir

-- the first check that the command's words fail
abbrev pub bans_check : Bans → Contents → Option RequestFault
bans_check b held = failed_bans_check (network_held held b.dir) b

-- the meaning of `bans`
abbrev pub bans_meaning : Bans → Meaning
bans_meaning b = reads (bans_fault b) (bans_check b) (IsBansReport b)
