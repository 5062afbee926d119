-- Files that are read one after another.
use Rattle.std.proofs.Common.{◌≡◌, ℕ, ◌+◌, ◌≤◌, Some, None, Option, List, [], ◌∷◌, ◌++◌, ◌<◌, length, take, drop, get_or, refl}
use Rattle.std.proofs.Common.{sym, ap, ◌∙◌, arith}
use Rattle.std.specs.Prelude.{map}
use Rattle.std.specs.Option.{option_or}
use Rattle.std.proofs.lemmas.List.{map_push, map-append, drop_more, take_more, take-append-drop}
use Rattle.route_base.specs.Contents.{Contents}
use Rattle.route_base.specs.Counts.{HasRisen}
use Rattle.route_base.specs.FolderState.{FolderState, KeepsFiles}
use Rattle.route_base.specs.declared.faults.BadInput.{BadInput}
use Rattle.route_base.specs.declared.faults.FileKind.{FileKind}
use Rattle.route_base.proofs.Logic.{option_or-assoc}
use Rattle.network_tables.specs.Files.{no_files, with_file}
use Rattle.network_tables.specs.declared.files.Files.{Files}
use Rattle.network_folder.specs.Files.{FileToRead, IfTold, fault_of_file, first_unreadable, bytes_at, IsRead}
use Rattle.network_folder.specs.Faults.{StopsReading}
use Rattle.network_folder.specs.ReadingOrder.{network_file, files_with}
use Rattle.network_folder.specs.declared.faults.LoadFault.{LoadFault}
use Rattle.network_folder.specs.declared.faults.LoadFault.TheVariants.{Bad, Failed, OutOfMemory}

-- a count that has risen since later has risen since before
pub risen_before : (a b c : ℕ) → a ≤ b → HasRisen b c → HasRisen a c
risen_before a b c before risen = omega arith

module _ (held : Contents) (dir : List ℕ) where
  -- the first fault of files and then of others
  unreadable_append : (files others : List FileToRead)
      → first_unreadable held dir (files ++ others) ≡ option_or (first_unreadable held dir files) (first_unreadable held dir others)
  unfolding first_unreadable
  unreadable_append [] others = refl
  unreadable_append (file ∷ files) others =
      ap (option_or (fault_of_file held dir file)) (unreadable_append files others)
      ∙ sym (option_or-assoc (fault_of_file held dir file) (first_unreadable held dir files) (first_unreadable held dir others))

  -- the fault of the file behind files that can be read
  unreadable_at : (files : List FileToRead) (file : FileToRead) (rest : List FileToRead) (fault : BadInput)
      → first_unreadable held dir files ≡ None → fault_of_file held dir file ≡ Some fault
      → first_unreadable held dir (files ++ file ∷ rest) ≡ Some fault
  unfolding first_unreadable
  unreadable_at files file rest fault readable bad =
      unreadable_append files (file ∷ rest)
      ∙ ap (λ (o : Option BadInput). option_or o (first_unreadable held dir (file ∷ rest))) readable
      ∙ ap (λ (o : Option BadInput). option_or o (first_unreadable held dir rest)) bad

  -- one file more that can be read
  pub readable_more : (files : List FileToRead) (file : FileToRead) → first_unreadable held dir files ≡ None → fault_of_file held dir file ≡ None
      → first_unreadable held dir (files ++ file ∷ []) ≡ None
  unfolding first_unreadable
  readable_more files file readable here =
      unreadable_append files (file ∷ [])
      ∙ ap (λ (o : Option BadInput). option_or o (first_unreadable held dir (file ∷ []))) readable
      ∙ ap (λ (o : Option BadInput). option_or o None) here

  -- a fault of files is that of the same files and others
  pub unreadable_before : (files others : List FileToRead) (fault : BadInput) → first_unreadable held dir files ≡ Some fault
      → first_unreadable held dir (files ++ others) ≡ Some fault
  unreadable_before files others fault bad =
      unreadable_append files others ∙ ap (λ (o : Option BadInput). option_or o (first_unreadable held dir others)) bad

-- files with the bytes of one kind more
files_more : (bytes : FileToRead → List ℕ) (files : Files) (kinds : List FileKind) (kind : FileKind)
    → files_with files (kinds ++ kind ∷ []) (map bytes (map network_file (kinds ++ kind ∷ [])))
    ≡ with_file (files_with files kinds (map bytes (map network_file kinds))) kind (bytes (network_file kind))
files_more bytes files [] kind = refl
files_more bytes files (k ∷ kinds) kind = files_more bytes (with_file files k (bytes (network_file k))) kinds kind

-- the files of these kinds were read
pub record AreRead (old : FolderState) (dir : List ℕ) (kinds : List FileKind) (files : Files) : Type 0 where
  pub told : IfTold old (λ held. files ≡ files_with no_files kinds (map (bytes_at held dir) (map network_file kinds)))
  pub faultless : IfTold old (λ held. first_unreadable held dir (map network_file kinds) ≡ None)

-- no file is read yet
pub none_read : (old : FolderState) (dir : List ℕ) (files : Files) → files ≡ no_files → AreRead old dir [] files
unfolding first_unreadable
none_read old dir files none = record { told = λ held is. none; faultless = λ held is. refl }

-- the files were read that come before others
module _ (old mid : FolderState) (kept : KeepsFiles old mid) (dir : List ℕ) where
  -- one file more is read
  pub read_more : (kinds : List FileKind) (files : Files) (kind : FileKind) (bytes : List ℕ) → AreRead old dir kinds files
      → IsRead mid dir (network_file kind) bytes → AreRead old dir (kinds ++ kind ∷ []) (with_file files kind bytes)
  read_more kinds files kind bytes all here = record {
    told = λ held is.
        ap (λ (f : Files). with_file f kind bytes) (all.told held is)
        ∙ ap (with_file (files_with no_files kinds (map (bytes_at held dir) (map network_file kinds))) kind) (here.told held (kept.contents ∙ is))
        ∙ sym (files_more (bytes_at held dir) no_files kinds kind);
    faultless = λ held is.
        ap (first_unreadable held dir) (map_push network_file kinds kind)
        ∙ readable_more held dir (map network_file kinds) (network_file kind) (all.faultless held is) (here.faultless held (kept.contents ∙ is));
  }

  -- the next file can't be read
  pub stops_at : (files : List FileToRead) (file : FileToRead) (rest : List FileToRead) (new : FolderState) (fault : LoadFault)
      → IfTold old (λ held. first_unreadable held dir files ≡ None)
      → StopsReading (λ held. fault_of_file held dir file) mid new fault
      → StopsReading (λ held. first_unreadable held dir (files ++ file ∷ rest)) old new fault
  stops_at files file rest new (Bad fault) readable why = record {
    first = λ held is. unreadable_at held dir files file rest fault (readable held is) (why.first held (kept.contents ∙ is));
    missed = λ missing. risen_before old.missing mid.missing new.missing kept.missing (why.missed missing);
  }
  stops_at files file rest new Failed readable why = risen_before old.read_faults mid.read_faults new.read_faults kept.read_faults why
  stops_at files file rest new OutOfMemory readable why = tt

-- files that can't be read, before others
pub stops_before : (old new : FolderState) (dir : List ℕ) (files others : List FileToRead) (fault : LoadFault)
    → StopsReading (λ held. first_unreadable held dir files) old new fault
    → StopsReading (λ held. first_unreadable held dir (files ++ others)) old new fault
stops_before old new dir files others (Bad fault) why = record {
  first = λ held is. unreadable_before held dir files others fault (why.first held is);
  missed = why.missed;
}
stops_before old new dir files others Failed why = why
stops_before old new dir files others OutOfMemory why = tt

-- a list as it is seen through a function, around the item at a place
module _ {X Y : Type 0} (f : X → Y) (xs : List X) (i : ℕ) (d : X) (within : i < length xs) where
  -- up to the next place
  pub mapped_next : map f (take (i + 1) xs) ≡ map f (take i xs) ++ f (get_or xs i d) ∷ []
  mapped_next = ap (map f) (take_more xs i d within) ∙ map_push f (take i xs) (get_or xs i d)

  -- its parts
  pub mapped_parts : map f (take i xs) ++ f (get_or xs i d) ∷ map f (drop (i + 1) xs) ≡ map f xs
  mapped_parts =
      sym (map-append f (take i xs) (get_or xs i d ∷ drop (i + 1) xs))
      ∙ ap (λ ys. map f (take i xs ++ ys)) (sym (drop_more xs i d within))
      ∙ ap (map f) (take-append-drop i xs)
