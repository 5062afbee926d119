-- The text that a run prints for its words over a folder, by its status (source: own).
use Rattle.std.specs.Prelude.{◌≡◌, ◌≢◌, ◌⊎◌, ℕ, ⊤, Some, None, List}
use Rattle.route_base.specs.Contents.{Contents}
use Rattle.route_base.specs.FolderState.{FolderState, CountsRise, FailedToRead}
use Rattle.route_base.specs.SinkState.{SinkState, Appends, AppendsPrefix, StaysSilent, FailedToAppend, FaultsRise}
use Rattle.route_base.specs.declared.faults.BadInput.{BadInput}
use Rattle.route_base.specs.declared.faults.RequestFault.{RequestFault}
use Rattle.route_base.specs.declared.status.Status.{Status}
use Rattle.route_base.specs.declared.status.Status.TheVariants.{Done, Rejected, Usage, BadInput as BadInputStatus, ReadFault}
use Rattle.route_base.specs.declared.status.Status.TheVariants.{WriteFault, NoMemory, BadRequest}
use Rattle.plan_report.specs.Refusals.{refusal_text_of}
use Rattle.plan_report.specs.declared.outcomes.Refusal.{Refusal}
use Rattle.plan_report.specs.declared.outcomes.Refusal.TheVariants.{Usage as UsageRefusal, Input, Request}
use Rattle.front_desk.specs.Check.{HasGoodCertificate}
use Rattle.front_words.specs.declared.check.Check.{Check}
use Rattle.front_words.specs.declared.commands.Invocation.{Invocation as Command}
use Rattle.front_words.specs.declared.commands.Invocation.TheVariants.{Check as to_check}
use Rattle.front_words.specs.Commands.{command_of}
use Rattle.front_desk.specs.Commands.{LeavesFiles, ReadsNothing, meaning_of}
use Rattle.front_desk.specs.Outcomes.{IsAnsweredBy, IsCauseFor, IsFinished, IsRejectedBy, IsUndisturbed, StopsAtFile}
use Rattle.network_folder.specs.Files.{IfTold}

-- the words are a command, and where the folder tells its contents, the text is the command's answer
pub record IsAnswer (words : List (List ℕ)) (old new : FolderState) (text : List ℕ) : Type 0 where
  pub command : Command
  pub is_command : command_of words ≡ Some command
  pub answered : IfTold old (λ held. IsAnsweredBy (meaning_of command) held new.contents text)

-- the words are a command that judges a file, and where the folder tells its contents, the text rejects that file
pub record IsRejection (words : List (List ℕ)) (old : FolderState) (text : List ℕ) : Type 0 where
  pub command : Command
  pub is_command : command_of words ≡ Some command
  pub judges : (meaning_of command).judges
  pub rejected : IfTold old (λ held. IsRejectedBy (meaning_of command) held text)

-- the words are a command that is refused
pub record RefusesCommand (words : List (List ℕ)) (old new : FolderState) (refusal : Refusal) : Type 0 where
  pub command : Command
  pub is_command : command_of words ≡ Some command
  pub cause : IsCauseFor (meaning_of command) old new refusal

-- why words are refused: they are no command, or the command is refused
abbrev pub IsCause : List (List ℕ) → FolderState → FolderState → Refusal → Type 0
IsCause words old new UsageRefusal = command_of words ≡ None
IsCause words old new (Input fault) = RefusesCommand words old new (Input fault)
IsCause words old new (Request fault) = RefusesCommand words old new (Request fault)

-- the status of a refusal
abbrev pub status_of : Refusal → Status
status_of UsageRefusal = Usage
status_of (Input fault) = BadInputStatus
status_of (Request fault) = BadRequest

-- the text is the line of a refusal that has this status and is due
pub record Refuses (words : List (List ℕ)) (old new : FolderState) (status : Status) (text : List ℕ) : Type 0 where
  pub refusal : Refusal
  pub has_status : status_of refusal ≡ status
  pub cause : IsCause words old new refusal
  pub is_text : text ≡ refusal_text_of refusal

-- the text that is due with a status
abbrev pub IsDue : List (List ℕ) → FolderState → FolderState → Status → List ℕ → Type 0
IsDue words old new Done text = IsAnswer words old new text
IsDue words old new Rejected text = IsRejection words old text
IsDue words old new Usage text = Refuses words old new Usage text
IsDue words old new BadInputStatus text = Refuses words old new BadInputStatus text
IsDue words old new BadRequest text = Refuses words old new BadRequest text
IsDue words old new ReadFault text = ⊥
IsDue words old new WriteFault text = ⊥
IsDue words old new NoMemory text = ⊥

-- the statuses with which a refusal or a rejection is printed
abbrev pub IsRefused : Status → Type 0
IsRefused Done = ⊥
IsRefused Rejected = ⊤
IsRefused Usage = ⊤
IsRefused BadInputStatus = ⊤
IsRefused BadRequest = ⊤
IsRefused ReadFault = ⊥
IsRefused WriteFault = ⊥
IsRefused NoMemory = ⊥

-- the sink gained a text that is due
pub record Prints (P : List ℕ → Type 0) (from to : SinkState) : Type 0 where
  pub text : List ℕ
  pub is_due : P text
  pub gained : Appends from to text

-- a failed write was counted, the sink gained a prefix of a text that is due with some status, and the files are left as with that status
pub record FailsToPrint (words : List (List ℕ)) (old new : FolderState) (from to : SinkState) : Type 0 where
  pub counted : FailedToAppend from to
  pub status : Status
  pub text : List ℕ
  pub is_due : IsDue words old new status text
  pub left : LeavesFiles (command_of words) old new status
  pub gained : AppendsPrefix from to text

-- the words are a command that failed to write a file
pub record StopsWriting (words : List (List ℕ)) (old new : FolderState) : Type 0 where
  pub command : Command
  pub is_command : command_of words ≡ Some command
  pub stops : StopsAtFile (meaning_of command) old new

-- a file wasn't written, and nothing was printed
pub record FailsInFolder (words : List (List ℕ)) (old new : FolderState) (from to : SinkState) : Type 0 where
  pub stops : StopsWriting words old new
  pub silent : StaysSilent from to

-- how writing failed: in the folder, or in the sink
abbrev pub FailsToWrite : List (List ℕ) → FolderState → FolderState → SinkState → SinkState → Type 0
FailsToWrite words old new from to = FailsInFolder words old new from to ⊎ FailsToPrint words old new from to

-- reading, writing or memory failed
abbrev pub HasFailed : Status → Type 0
HasFailed status = (status ≡ ReadFault) ⊎ ((status ≡ WriteFault) ⊎ (status ≡ NoMemory))

-- words that are no command are refused, unless reading, writing or memory fails
abbrev pub RefusesUsage : List (List ℕ) → Status → Type 0
RefusesUsage words status = command_of words ≡ None → (status ≡ Usage) ⊎ HasFailed status

-- the same of a command whose files have a fault, where the folder tells its contents
abbrev pub RefusesBadInput : List (List ℕ) → FolderState → Status → Type 0
RefusesBadInput words old status =
    (held : Contents) (command : Command) (fault : BadInput) → old.contents ≡ Some held → command_of words ≡ Some command
    → (meaning_of command).fault held ≡ Some fault → (status ≡ BadInputStatus) ⊎ HasFailed status

-- the same of a command whose files have no fault and whose request fails a check
abbrev pub RefusesBadRequest : List (List ℕ) → FolderState → Status → Type 0
RefusesBadRequest words old status =
    (held : Contents) (command : Command) (fault : RequestFault) → old.contents ≡ Some held → command_of words ≡ Some command
    → (meaning_of command).fault held ≡ None → (meaning_of command).fails held fault → (status ≡ BadRequest) ⊎ HasFailed status

-- every other command comes to its end, unless memory runs out, where no fault was counted that could stop it
abbrev pub Completes : List (List ℕ) → FolderState → FolderState → SinkState → SinkState → Status → Type 0
Completes words old new from to status =
    (held : Contents) (command : Command) → old.contents ≡ Some held → command_of words ≡ Some command
    → (meaning_of command).fault held ≡ None → (meaning_of command).passes held → IsUndisturbed (meaning_of command) old new from to
    → IsFinished (meaning_of command) status ⊎ (status ≡ NoMemory)

-- a check accepts each good certificate, unless reading, writing or memory fails
abbrev pub AcceptsGood : List (List ℕ) → FolderState → Status → Type 0
AcceptsGood words old status =
    (held : Contents) (check : Check) → old.contents ≡ Some held → command_of words ≡ Some (to_check check)
    → HasGoodCertificate check held → (status ≡ Done) ⊎ HasFailed status

-- all that a run of words promises, by the states of its folder and of its sink before and after, and by its status
pub record Runs (words : List (List ℕ)) (old new : FolderState) (from to : SinkState) (status : Status) : Type 0 where
  pub done : status ≡ Done → Prints (IsAnswer words old new) from to
  pub refused : IsRefused status → Prints (IsDue words old new status) from to
  pub write_fault : status ≡ WriteFault → FailsToWrite words old new from to
  pub silent : (status ≡ ReadFault) ⊎ (status ≡ NoMemory) → StaysSilent from to
  pub read_fault : status ≡ ReadFault → FailedToRead old new
  pub nothing_read : ReadsNothing (command_of words) → status ≢ ReadFault
  pub usage_due : RefusesUsage words status
  pub bad_input_due : RefusesBadInput words old status
  pub bad_request_due : RefusesBadRequest words old status
  pub complete : Completes words old new from to status
  pub accepted : AcceptsGood words old status
  pub left : LeavesFiles (command_of words) old new status
  pub folder_counts : CountsRise old new
  pub sink_count : FaultsRise from to
