-- The report of the command that plans a trip with driver breaks (source: own).
use Rattle.std.specs.Prelude.{◌≡◌, ◌⊎◌, ℕ, Option, Some, None, List, All}
use Rattle.route_base.specs.Contents.{Contents}
use Rattle.route_base.specs.Setting.{Setting}
use Rattle.route_base.specs.declared.faults.BadInput.{BadInput}
use Rattle.route_base.specs.declared.faults.RequestFault.{RequestFault}
use Rattle.route_base.specs.declared.faults.RequestFault.TheVariants.{TooManyStates}
use Rattle.route_base.specs.declared.types.Route.{Route}
use Rattle.drive_breaks.specs.Rested.{AreRightRested}
use Rattle.drive_breaks.specs.RestedOrder.{IsFirstRested}
use Rattle.drive_states.specs.StateSize.{HasTooManyStates}
use Rattle.drive_states.specs.declared.rule.BreakRule.{BreakRule}
use Rattle.plan_report.specs.Plain.{plain_text_of}
use Rattle.front_words.specs.declared.breaks.Breaks.{Breaks}
use Rattle.network_folder.specs.ReadingOrder.{first_folder_fault, network_held}
use Rattle.front_desk.specs.Meaning.{Meaning, reads}
use Rattle.front_desk.specs.Plan.{trip_setting}
use Rattle.front_desk.specs.Trips.{failed_check, request_of}

-- the break rule of the command
abbrev pub break_rule_of : Breaks → BreakRule
break_rule_of b = record { drive = b.drive; rest = b.rest }

-- the roads of the folder's network for the trip's vehicle
abbrev pub breaks_setting : Breaks → Contents → Setting
breaks_setting b held = trip_setting (network_held held b.dir) b.trip

-- the text reports right routes that keep the rule, their Pareto front with the first legs of each pair, in plain lines
pub record IsBreaksText (s : Setting) (b : Breaks) (text : List ℕ) : Type 0 where
  pub routes : List Route
  pub right : AreRightRested s (request_of b.trip) (break_rule_of b) routes
  pub first : All (IsFirstRested s (request_of b.trip) (break_rule_of b)) routes
  pub is_text : text ≡ plain_text_of routes

-- the text reports them over the folder's network
abbrev pub IsBreaksReport : Breaks → Contents → List ℕ → Type 0
IsBreaksReport b held text = IsBreaksText (breaks_setting b held) b text

-- the first fault of the command's files
abbrev pub breaks_fault : Breaks → Contents → Option BadInput
breaks_fault b held = first_folder_fault held b.dir

-- the first check that the trip fails
abbrev pub breaks_check : Breaks → Contents → Option RequestFault
breaks_check b held = failed_check (network_held held b.dir) b.trip

-- there are more states than may be: nodes with the minutes driven since the last break, and the drives and breaks that leave them
abbrev pub HasManyStates : Setting → Breaks → Type 0
HasManyStates s b = HasTooManyStates s b.trip.origin (break_rule_of b)

-- the trip passes all checks, and its states aren't too many
pub record PassesBreaks (b : Breaks) (held : Contents) : Type 0 where
  pub passed : breaks_check b held ≡ None
  pub few : HasManyStates (breaks_setting b held) b → ⊥

-- the trip passes all checks, but its states are too many
pub record ExceedsStates (b : Breaks) (held : Contents) (fault : RequestFault) : Type 0 where
  pub passed : breaks_check b held ≡ None
  pub many : HasManyStates (breaks_setting b held) b
  pub is_fault : fault ≡ TooManyStates

-- the first check that the command fails: one of its trip, and behind these the number of its states
abbrev pub FailsBreaks : Breaks → Contents → RequestFault → Type 0
FailsBreaks b held fault = (breaks_check b held ≡ Some fault) ⊎ ExceedsStates b held fault

-- the meaning of `breaks`
abbrev pub breaks_meaning : Breaks → Meaning
breaks_meaning b = record (reads (breaks_fault b) (breaks_check b) (IsBreaksReport b)) {
  passes = PassesBreaks b;
  fails = FailsBreaks b;
}
