-- How a command comes to its end, by its meaning: with its answer, with the rejection of a file, refused, or stopped (source: own).
use Rattle.std.specs.Prelude.{◌≡◌, ◌⊎◌, ℕ, Option, None, List}
use Rattle.route_base.specs.Contents.{Contents}
use Rattle.route_base.specs.FolderState.{FolderState, FailedToRead, FailedToWrite}
use Rattle.route_base.specs.SinkState.{SinkState, FailedToAppend}
use Rattle.route_base.specs.declared.faults.RequestFault.{RequestFault}
use Rattle.route_base.specs.declared.status.Status.{Status}
use Rattle.route_base.specs.declared.status.Status.TheVariants.{Done, Rejected}
use Rattle.plan_report.specs.declared.outcomes.Refusal.{Refusal}
use Rattle.plan_report.specs.declared.outcomes.Refusal.TheVariants.{Usage, Input, Request}
use Rattle.network_folder.specs.Faults.{IsFirstFault}
use Rattle.network_folder.specs.Files.{IfTold}
use Rattle.front_desk.specs.Meaning.{Meaning}

-- the command's files have no fault, its request passes all checks, and the text is its answer
pub record IsAnsweredBy (m : Meaning) (held : Contents) (after : Option Contents) (text : List ℕ) : Type 0 where
  pub faultless : m.fault held ≡ None
  pub good : m.passes held
  pub answer : m.answers held after text

-- the command's files have no fault, its request passes all checks, and the text rejects the file that it judges
pub record IsRejectedBy (m : Meaning) (held : Contents) (text : List ℕ) : Type 0 where
  pub faultless : m.fault held ≡ None
  pub good : m.passes held
  pub rejects : m.rejects held text

-- the command has a request, and where the folder tells its contents, its files have no fault and this is the first check that fails
pub record IsFailedCheck (m : Meaning) (old : FolderState) (fault : RequestFault) : Type 0 where
  pub asks : m.asks
  pub faultless : IfTold old (λ held. m.fault held ≡ None)
  pub first : IfTold old (λ held. m.fails held fault)

-- why a command is refused
abbrev pub IsCauseFor : Meaning → FolderState → FolderState → Refusal → Type 0
IsCauseFor m old new Usage = ⊥
IsCauseFor m old new (Input fault) = IsFirstFault m.fault old new fault
IsCauseFor m old new (Request fault) = IsFailedCheck m old fault

-- a command that writes files failed to write one, which was counted; where the folder tells its contents, the command's files have no
-- fault and its request passes all checks
pub record StopsAtFile (m : Meaning) (old new : FolderState) : Type 0 where
  pub writes : m.writes
  pub faultless : IfTold old (λ held. m.fault held ≡ None)
  pub good : IfTold old (λ held. m.passes held)
  pub counted : FailedToWrite old new

-- the command has come to its end: it is done, or has rejected the file that it judges
abbrev pub IsFinished : Meaning → Status → Type 0
IsFinished m status = (status ≡ Done) ⊎ (m.judges × (status ≡ Rejected))

-- no failed read or write was counted that could stop the command
pub record IsUndisturbed (m : Meaning) (old new : FolderState) (from to : SinkState) : Type 0 where
  pub reads : FailedToRead old new → ⊥
  pub writes : m.writes → FailedToWrite old new → ⊥
  pub appends : FailedToAppend from to → ⊥
