-- The state of a folder: what its files hold and how often its calls failed (source: own).
use Rattle.std.specs.Prelude.{◌≡◌, ℕ, ◌≤◌, Option, None, IfSome, List}
use Rattle.route_base.specs.Counts.{HasRisen}
use Rattle.route_base.specs.Contents.{Contents, GivesPart, Holds, LeavesOpen}

-- the contents, where the folder tells them, and the numbers of missing answers, failed reads and failed writes
pub record FolderState : Type 0 where
  pub contents : Option Contents
  pub missing : ℕ
  pub read_faults : ℕ
  pub write_faults : ℕ

-- no count falls
pub record CountsRise (old new : FolderState) : Type 0 where
  pub missing : old.missing ≤ new.missing
  pub read_faults : old.read_faults ≤ new.read_faults
  pub write_faults : old.write_faults ≤ new.write_faults

-- no file is changed, no count falls, and no failed write is counted
pub record KeepsFiles (old new : FolderState) : Type 0 where
  pub contents : new.contents ≡ old.contents
  pub missing : old.missing ≤ new.missing
  pub read_faults : old.read_faults ≤ new.read_faults
  pub write_faults : new.write_faults ≡ old.write_faults

-- a missing file was counted
abbrev pub MissedFile : FolderState → FolderState → Type 0
MissedFile old new = HasRisen old.missing new.missing

-- a failed read was counted
abbrev pub FailedToRead : FolderState → FolderState → Type 0
FailedToRead old new = HasRisen old.read_faults new.read_faults

-- a failed write was counted
abbrev pub FailedToWrite : FolderState → FolderState → Type 0
FailedToWrite old new = HasRisen old.write_faults new.write_faults

-- the first k bytes of buf are those of the file of this name from at on, where the folder tells its contents
abbrev pub ReadsPart : FolderState → List ℕ → ℕ → ℕ → List ℕ → Type 0
ReadsPart s name at k buf = IfSome s.contents (λ held. GivesPart (held name) at k buf)

-- no file has this name, where the folder tells its contents
abbrev pub LacksFile : FolderState → List ℕ → Type 0
LacksFile s name = IfSome s.contents (λ held. held name ≡ None)

-- these bytes are now under the name, and all else is as it was
abbrev pub PutsFile : FolderState → FolderState → List ℕ → List ℕ → Type 0
PutsFile old new name bytes = Holds old.contents new.contents name bytes

-- all is as it was, but for the bytes under the name
abbrev pub SpoilsFile : FolderState → FolderState → List ℕ → Type 0
SpoilsFile old new name = LeavesOpen old.contents new.contents name
