-- The meaning of a command, whatever its words are (source: own).
use Rattle.std.specs.Prelude.{◌≡◌, ℕ, ⊤, Option, Some, None, List}
use Rattle.route_base.specs.Contents.{Contents}
use Rattle.route_base.specs.FolderState.{FolderState, KeepsFiles}
use Rattle.route_base.specs.declared.faults.BadInput.{BadInput}
use Rattle.route_base.specs.declared.faults.RequestFault.{RequestFault}
use Rattle.route_base.specs.declared.status.Status.{Status}

-- the meaning of a command
pub record Meaning : Type 1 where
  -- the first fault of the files that the command reads
  pub fault : Contents → Option BadInput
  -- it has a request, which may fail a check
  pub asks : Type 0
  -- its request passes all checks
  pub passes : Contents → Type 0
  -- its request fails a check, of which this is the first
  pub fails : Contents → RequestFault → Type 0
  -- the text that it prints where it is done, and what it has written into the folder
  pub answers : Contents → Option Contents → List ℕ → Type 0
  -- it judges a file, which it may reject
  pub judges : Type 0
  -- the text that it prints where it rejects the file that it judges
  pub rejects : Contents → List ℕ → Type 0
  -- it reads no file
  pub reads_nothing : Type 0
  -- it writes files
  pub writes : Type 0
  -- the state in which it leaves the folder, by its status
  pub leaves : FolderState → FolderState → Status → Type 0

-- a command that reads files, checks its request and prints an answer: it leaves all files as they are
abbrev pub reads : (Contents → Option BadInput) → (Contents → Option RequestFault) → (Contents → List ℕ → Type 0) → Meaning
reads fault check answers = record {
  fault = fault;
  asks = ⊤;
  passes = λ held. check held ≡ None;
  fails = λ held failed. check held ≡ Some failed;
  answers = λ held after text. answers held text;
  judges = ⊥;
  rejects = λ held text. ⊥;
  reads_nothing = ⊥;
  writes = ⊥;
  leaves = λ old new status. KeepsFiles old new;
}

-- the same meaning, of a command that has no request, whose checks it could fail
abbrev pub without_request : Meaning → Meaning
without_request m = record m { asks = ⊥; passes = λ held. ⊤; fails = λ held failed. ⊥ }
