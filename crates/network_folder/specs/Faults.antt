-- Why no network is loaded from a folder (source: own).
use Rattle.std.specs.Prelude.{◌≡◌, ⊤, Option, Some}
use Rattle.route_base.specs.Causes.{IsOfContents}
use Rattle.route_base.specs.Contents.{Contents}
use Rattle.route_base.specs.FolderState.{FolderState, FailedToRead, MissedFile}
use Rattle.route_base.specs.declared.faults.BadInput.{BadInput}
use Rattle.route_base.specs.declared.faults.Cause.TheVariants.{Missing}
use Rattle.network_folder.specs.Files.{IfTold}
use Rattle.network_folder.specs.declared.faults.LoadFault.{LoadFault}
use Rattle.network_folder.specs.declared.faults.LoadFault.TheVariants.{Bad, Failed, OutOfMemory}

-- a fault is the first, where the folder tells its contents; a missing file was counted
pub record IsFirstFault (first_fault : Contents → Option BadInput) (old new : FolderState) (fault : BadInput) : Type 0 where
  pub first : IfTold old (λ held. first_fault held ≡ Some fault)
  pub missed : fault.cause ≡ Missing → MissedFile old new

-- why no files can be had: their first fault, a failed read, or no memory
abbrev pub StopsReading : (Contents → Option BadInput) → FolderState → FolderState → LoadFault → Type 0
StopsReading first_fault old new (Bad fault) = IsFirstFault first_fault old new fault
StopsReading first_fault old new Failed = FailedToRead old new
StopsReading first_fault old new OutOfMemory = ⊤

-- why bytes state nothing: the first fault of their contents, or no memory
abbrev pub StopsStating : Option BadInput → LoadFault → Type 0
StopsStating fault (Bad bad) = (fault ≡ Some bad) × IsOfContents bad.cause
StopsStating fault Failed = ⊥
StopsStating fault OutOfMemory = ⊤
