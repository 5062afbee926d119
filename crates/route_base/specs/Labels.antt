-- The words for files, causes and failed checks in the lines of refusals (source: own).
use Rattle.std.specs.Prelude.{ℕ, List, codes}
use Rattle.route_base.specs.declared.faults.FileKind.{FileKind}
use Rattle.route_base.specs.declared.faults.FileKind.TheVariants.{Graph, Zones, Areas, Roads, Vehicles, Rules, Closures, Ratings}
use Rattle.route_base.specs.declared.faults.FileKind.TheVariants.{Parking, Holidays, Tolls, Jobs, Certificate, Stops, Itinerary}
use Rattle.route_base.specs.declared.faults.Cause.{Cause}
use Rattle.route_base.specs.declared.faults.Cause.TheVariants.{Missing, TooLong, NoProblemLine, SecondProblemLine, BadForm}
use Rattle.route_base.specs.declared.faults.Cause.TheVariants.{NodeRange, WeightRange, ArcCount}
use Rattle.route_base.specs.declared.faults.Cause.TheVariants.{SizeLimit, BadHeader, FieldCount, BadField, NotConditional, NotHours}
use Rattle.route_base.specs.declared.faults.Cause.TheVariants.{Unknown, Duplicate, NotRising}
use Rattle.route_base.specs.declared.faults.RequestFault.{RequestFault}
use Rattle.route_base.specs.declared.faults.RequestFault.TheVariants.{UnknownVehicle, UnknownArc, OriginRange, GoalRange}
use Rattle.route_base.specs.declared.faults.RequestFault.TheVariants.{UntilBeforeDepart, HorizonTooLong, TooManyStates}

-- the label of a file: its name below the folder, but for a file that the words of a command name
abbrev pub label_of : FileKind → List ℕ
label_of Graph = codes "graph.gr"
label_of Zones = codes "zones.csv"
label_of Areas = codes "areas.csv"
label_of Roads = codes "roads.csv"
label_of Vehicles = codes "vehicles.csv"
label_of Rules = codes "rules.csv"
label_of Closures = codes "closures.csv"
label_of Ratings = codes "ratings.csv"
label_of Parking = codes "parking.csv"
label_of Holidays = codes "holidays.csv"
label_of Tolls = codes "tolls.csv"
label_of Jobs = codes "jobs"
label_of Certificate = codes "certificate"
label_of Stops = codes "stops"
label_of Itinerary = codes "itinerary"

-- the name of a fault's cause
abbrev pub cause_name_of : Cause → List ℕ
cause_name_of Missing = codes "Missing"
cause_name_of TooLong = codes "TooLong"
cause_name_of NoProblemLine = codes "NoProblemLine"
cause_name_of SecondProblemLine = codes "SecondProblemLine"
cause_name_of BadForm = codes "BadForm"
cause_name_of NodeRange = codes "NodeRange"
cause_name_of WeightRange = codes "WeightRange"
cause_name_of ArcCount = codes "ArcCount"
cause_name_of SizeLimit = codes "SizeLimit"
cause_name_of BadHeader = codes "BadHeader"
cause_name_of FieldCount = codes "FieldCount"
cause_name_of BadField = codes "BadField"
cause_name_of NotConditional = codes "NotConditional"
cause_name_of NotHours = codes "NotHours"
cause_name_of Unknown = codes "Unknown"
cause_name_of Duplicate = codes "Duplicate"
cause_name_of NotRising = codes "NotRising"

-- the name of a check that a request fails
abbrev pub request_fault_name_of : RequestFault → List ℕ
request_fault_name_of UnknownVehicle = codes "UnknownVehicle"
request_fault_name_of UnknownArc = codes "UnknownArc"
request_fault_name_of OriginRange = codes "OriginRange"
request_fault_name_of GoalRange = codes "GoalRange"
request_fault_name_of UntilBeforeDepart = codes "UntilBeforeDepart"
request_fault_name_of HorizonTooLong = codes "HorizonTooLong"
request_fault_name_of TooManyStates = codes "TooManyStates"
