-- Facts of the meaning of each command, which its proofs need (source: own).
use Rattle.std.specs.Prelude.{◌≡◌, ℕ, Option, List}
use Rattle.route_base.specs.Contents.{Contents}
use Rattle.route_base.specs.FolderState.{FolderState}
use Rattle.route_base.specs.declared.faults.RequestFault.{RequestFault}
use Rattle.route_base.specs.declared.status.Status.{Status}
use Rattle.route_base.specs.declared.status.Status.TheVariants.{ReadFault, WriteFault, NoMemory}
use Rattle.front_desk.specs.Meaning.{Meaning}

-- what a status leaves is left, too, where the text then couldn't be written, or where memory ran out
abbrev pub StaysLeft : (Status → Type 0) → Status → Type 0
StaysLeft leaves due = ((due ≡ NoMemory → ⊥) → leaves WriteFault) × ((due ≡ WriteFault → ⊥) → leaves NoMemory)

-- what every meaning has to meet
pub record IsSound (m : Meaning) : Type 0 where
  -- a request that fails a check doesn't pass all of them
  pub never_both : (held : Contents) (fault : RequestFault) → m.fails held fault → m.passes held → ⊥
  pub stays : (old new : FolderState) (due : Status) → m.leaves old new due → StaysLeft (m.leaves old new) due
  -- memory may run out before a file is read or written
  pub short : (old : FolderState) → m.leaves old old NoMemory
  -- a command that reads no file never ends at a failed read
  pub unread : m.reads_nothing → (old new : FolderState) → m.leaves old new ReadFault → ⊥
  -- a command prints no other text over the same files
  pub one : (held : Contents) (after other : Option Contents) (x y : List ℕ) → m.answers held after x → m.answers held other y → x ≡ y
  -- just one check is the first that a request fails
  pub one_fault : (held : Contents) (fault other : RequestFault) → m.fails held fault → m.fails held other → fault ≡ other
  -- a file is rejected by one text
  pub one_rejection : (held : Contents) (x y : List ℕ) → m.rejects held x → m.rejects held y → x ≡ y
  -- a file that is rejected has no answer
  pub never_rejects : (held : Contents) (after : Option Contents) (x y : List ℕ) → m.answers held after x → m.rejects held y → ⊥
