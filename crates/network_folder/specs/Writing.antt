-- Files that are written into a folder one after another (source: own).
use Rattle.std.specs.Prelude.{◌≡◌, ℕ, Option, List, [], ◌∷◌, ◌++◌}
use Rattle.route_base.specs.Contents.{Contents, Holds, LeavesOpen}
use Rattle.route_base.specs.FolderState.{FolderState, FailedToWrite, SpoilsFile}
use Rattle.route_base.specs.declared.sink.WriteError.{WriteError}
use Rattle.route_base.specs.declared.sink.WriteError.TheVariants.{Failed, OutOfMemory}
use Rattle.network_folder.specs.Files.{path_of}
use Rattle.network_folder.specs.declared.writing.FileToWrite.{FileToWrite as FileWords}

-- a file to write: its name below the folder, and its bytes
pub record FileToWrite : Type 0 where
  pub name : List ℕ
  pub bytes : List ℕ

-- the file that the code holds
abbrev pub written_in : FileWords → FileToWrite
written_in words = record { name = words.name.now; bytes = words.bytes.now }

-- dir holds these files, written one after another, and all else is as it was
abbrev pub HoldsEach : List ℕ → List FileToWrite → Option Contents → Option Contents → Type 0
HoldsEach dir [] before after = after ≡ before
HoldsEach dir (f ∷ fs) before after =
    (mid : Option Contents) × (Holds before mid (path_of dir f.name) f.bytes × HoldsEach dir fs mid after)

-- dir holds the first of these files, and all else is as it was
pub record HoldsFirst (dir : List ℕ) (files : List FileToWrite) (before after : Option Contents) : Type 0 where
  pub written : List FileToWrite
  pub others : List FileToWrite
  pub parts : files ≡ written ++ others
  pub held : HoldsEach dir written before after

-- dir holds the first of these files, the content of the next is open, and all else is as it was
pub record SpoilsNext (dir : List ℕ) (files : List FileToWrite) (before after : Option Contents) : Type 0 where
  pub written : List FileToWrite
  pub next : FileToWrite
  pub others : List FileToWrite
  pub parts : files ≡ written ++ next ∷ others
  pub between : Option Contents
  pub held : HoldsEach dir written before between
  pub spoiled : LeavesOpen between after (path_of dir next.name)

-- a file wasn't written under the path
abbrev pub FailsToPut : FolderState → FolderState → List ℕ → WriteError → Type 0
FailsToPut old new path Failed = FailedToWrite old new × SpoilsFile old new path
FailsToPut old new path OutOfMemory = new.contents ≡ old.contents

-- one of these files of dir wasn't written, after those before it
abbrev pub FailsToPutEach : FolderState → FolderState → List ℕ → List FileToWrite → WriteError → Type 0
FailsToPutEach old new dir files Failed = FailedToWrite old new × SpoilsNext dir files old.contents new.contents
FailsToPutEach old new dir files OutOfMemory = HoldsFirst dir files old.contents new.contents
