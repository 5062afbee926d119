-- How a command ends, with its report or without, and how a text is handed to a sink (source: own).
use Rattle.std.specs.Prelude.{◌≡◌, ◌≢◌, ◌⊎◌, ℕ, true, false, ⊤, List, if◌then◌else◌, Result, Ok, Err}
use Rattle.route_base.specs.FolderState.{FolderState, CountsRise, FailedToRead}
use Rattle.route_base.specs.SinkState.{SinkState, Appends, AppendsPrefix, StaysSilent, FaultsRise, FailedToAppend}
use Rattle.route_base.specs.declared.sink.WriteError.{WriteError}
use Rattle.route_base.specs.declared.sink.WriteError.TheVariants as write
use Rattle.route_base.specs.declared.status.Status.{Status}
use Rattle.route_base.specs.declared.status.Status.TheVariants.{Done, Rejected, ReadFault as ReadFaultStatus, WriteFault, NoMemory}
use Rattle.plan_report.specs.declared.outcomes.Refusal.TheVariants.{Input}
use Rattle.network_folder.specs.Files.{IfTold}
use Rattle.network_folder.specs.declared.faults.LoadFault.{LoadFault}
use Rattle.network_folder.specs.declared.faults.LoadFault.TheVariants as load
use Rattle.front_words.specs.Commands.{command_of}
use Rattle.front_desk.specs.Commands.{LeavesFiles, ReadsNothing}
use Rattle.front_desk.specs.Meaning.{Meaning}
use Rattle.front_desk.specs.Outcomes.{IsAnsweredBy, IsCauseFor, IsRejectedBy, StopsAtFile}
use Rattle.front_desk.specs.Run.{IsCause, IsDue, StopsWriting, status_of}
use Rattle.front_desk.specs.declared.outcome.Halt.{Halt}
use Rattle.front_desk.specs.declared.outcome.Halt.TheVariants.{Refused, ReadFault, WriteFault as WriteFaultHalt, NoMemory as NoMemoryHalt}
use Rattle.front_desk.specs.declared.outcome.Report.{Report}

-- the halt at files that give no network
abbrev pub halt_of_load : LoadFault → Halt
halt_of_load (load.Bad fault) = Refused (Input fault)
halt_of_load load.Failed = ReadFault
halt_of_load load.OutOfMemory = NoMemoryHalt

-- the halt at a file that wasn't written
abbrev pub halt_of_write : WriteError → Halt
halt_of_write write.Failed = WriteFaultHalt
halt_of_write write.OutOfMemory = NoMemoryHalt

-- the status of a halt
abbrev pub status_of_halt : Halt → Status
status_of_halt (Refused refusal) = status_of refusal
status_of_halt ReadFault = ReadFaultStatus
status_of_halt WriteFaultHalt = WriteFault
status_of_halt NoMemoryHalt = NoMemory

-- the status of a report
abbrev pub status_of_report : Report → Status
status_of_report report = if report.rejects then Rejected else Done

-- the status of an end
abbrev pub status_of_end : Result Report Halt → Status
status_of_end (Ok report) = status_of_report report
status_of_end (Err halt) = status_of_halt halt

-- the report has the command's answer, or rejects the file that the command judges
pub record ReportsOn (m : Meaning) (old new : FolderState) (report : Report) : Type 0 where
  pub answered : report.rejects ≡ false → IfTold old (λ held. IsAnsweredBy m held new.contents report.text.items)
  pub judges : report.rejects ≡ true → m.judges
  pub rejected : report.rejects ≡ true → IfTold old (λ held. IsRejectedBy m held report.text.items)

-- why a command has no answer
abbrev pub StopsCommand : Meaning → FolderState → FolderState → Halt → Type 0
StopsCommand m old new (Refused refusal) = IsCauseFor m old new refusal
StopsCommand m old new ReadFault = FailedToRead old new
StopsCommand m old new WriteFaultHalt = StopsAtFile m old new
StopsCommand m old new NoMemoryHalt = ⊤

-- the command has a report, or there is a cause why it has none
abbrev pub Concludes : Meaning → FolderState → FolderState → Result Report Halt → Type 0
Concludes m old new (Ok report) = ReportsOn m old new report
Concludes m old new (Err halt) = StopsCommand m old new halt

-- how a command ends: with a report or a cause why there is none, with the files as its status leaves them; no count of faults falls
pub record Ends (m : Meaning) (old new : FolderState) (end : Result Report Halt) : Type 0 where
  pub concludes : Concludes m old new end
  pub left : m.leaves old new (status_of_end end)
  pub counts : CountsRise old new

-- why words have no answer
abbrev pub StopsWords : List (List ℕ) → FolderState → FolderState → Halt → Type 0
StopsWords words old new (Refused refusal) = IsCause words old new refusal
StopsWords words old new ReadFault = FailedToRead old new
StopsWords words old new WriteFaultHalt = StopsWriting words old new
StopsWords words old new NoMemoryHalt = ⊤

-- the words have a text that is due, or there is a cause why they have none
abbrev pub ConcludesWords : List (List ℕ) → FolderState → FolderState → Result Report Halt → Type 0
ConcludesWords words old new (Ok report) = IsDue words old new (status_of_report report) report.text.items
ConcludesWords words old new (Err halt) = StopsWords words old new halt

-- how words end
pub record EndsWords (words : List (List ℕ)) (old new : FolderState) (end : Result Report Halt) : Type 0 where
  pub concludes : ConcludesWords words old new end
  pub unread : ReadsNothing (command_of words) → end ≢ Err ReadFault
  pub left : LeavesFiles (command_of words) old new (status_of_end end)
  pub counts : CountsRise old new

-- a text was handed to a sink: the status is the one that is due with it, or why it couldn't be written
pub record Writes (due : Status) (from to : SinkState) (text : List ℕ) (status : Status) : Type 0 where
  pub others : (status ≡ due) ⊎ ((status ≡ WriteFault) ⊎ (status ≡ NoMemory))
  pub written : status ≢ WriteFault → status ≢ NoMemory → Appends from to text
  pub fault : status ≡ WriteFault → due ≢ WriteFault → FailedToAppend from to
  pub part : status ≡ WriteFault → due ≢ WriteFault → AppendsPrefix from to text
  pub silent : status ≡ NoMemory → due ≢ NoMemory → StaysSilent from to
  pub count : FaultsRise from to
