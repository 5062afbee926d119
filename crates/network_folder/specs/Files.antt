-- Files that are read one after another, and the first that can't be (source: own).
use Rattle.std.specs.Prelude.{◌≡◌, ℕ, ◌≤◌, Bool, Option, Some, None, List, [], ◌∷◌, ◌++◌, length, codes, nat_lt, unwrap_or, if◌then◌else◌}
use Rattle.std.specs.Option.{option_or}
use Rattle.route_base.specs.Contents.{Contents}
use Rattle.route_base.specs.FolderState.{FolderState}
use Rattle.route_base.specs.declared.faults.BadInput.{BadInput}
use Rattle.route_base.specs.declared.faults.Cause.{Cause}
use Rattle.route_base.specs.declared.faults.Cause.TheVariants.{Missing}
use Rattle.route_base.specs.declared.faults.FileKind.{FileKind}
use Rattle.network_folder.specs.declared.file_to_read.FileToRead.{FileToRead as FileWords}

-- a file to read: its kind, its name below the folder, whether it has to be there, the most bytes that it may have, and the
-- cause of its refusal where it has more
pub record FileToRead : Type 0 where
  pub kind : FileKind
  pub name : List ℕ
  pub required : Bool
  pub limit : ℕ
  pub beyond : Cause

-- a fact of the contents, where the folder tells them
abbrev pub IfTold : FolderState → (Contents → Type 0) → Type 0
IfTold old P = (held : Contents) → old.contents ≡ Some held → P held

-- the name under which a folder is asked for a file of dir
abbrev pub path_of : List ℕ → List ℕ → List ℕ
path_of dir name = dir ++ codes "/" ++ name

-- a fault of a file as a whole
abbrev pub whole_fault : FileKind → Cause → BadInput
whole_fault file cause = record { file = file; row = 0; cause = cause }

-- the file has to be there and isn't, or it has more bytes than it may have
abbrev pub file_fault : FileToRead → Option (List ℕ) → Option BadInput
file_fault file None = if file.required then Some (whole_fault file.kind Missing) else None
file_fault file (Some bytes) = if nat_lt file.limit (length bytes) then Some (whole_fault file.kind file.beyond) else None

-- why a file of dir can't be read
abbrev pub fault_of_file : Contents → List ℕ → FileToRead → Option BadInput
fault_of_file held dir file = file_fault file (held (path_of dir file.name))

-- the first of these files of dir that can't be read
unfoldable pub first_unreadable : Contents → List ℕ → List FileToRead → Option BadInput
first_unreadable held dir [] = None
first_unreadable held dir (file ∷ files) = option_or (fault_of_file held dir file) (first_unreadable held dir files)

-- the bytes of a file of dir; a file that isn't there counts as empty
abbrev pub bytes_at : Contents → List ℕ → FileToRead → List ℕ
bytes_at held dir file = unwrap_or (held (path_of dir file.name)) []

-- the file that the code holds
abbrev pub file_in : FileWords → FileToRead
file_in words = record { kind = words.kind; name = words.name.now; required = words.required; limit = words.limit; beyond = words.beyond }

-- the bytes of a file that could be read: those that the folder holds, where it tells its contents
pub record IsRead (old : FolderState) (dir : List ℕ) (file : FileToRead) (bytes : List ℕ) : Type 0 where
  pub within : length bytes ≤ file.limit
  pub told : IfTold old (λ held. bytes ≡ bytes_at held dir file)
  pub faultless : IfTold old (λ held. fault_of_file held dir file ≡ None)
