-- Files that are written one after another.
use Rattle.std.proofs.Common.{◌≡◌, ℕ, Option, List, [], ◌∷◌, ◌++◌, refl, sym, subst, arith}
use Rattle.route_base.specs.Contents.{Contents, Holds}
use Rattle.route_base.specs.FolderState.{FolderState, CountsRise}
use Rattle.network_folder.specs.Files.{path_of}
use Rattle.network_folder.specs.Writing.{FileToWrite, HoldsEach}
use Rattle.network_folder.specs.Writing.{FailsToPut, FailsToPutEach}
use Rattle.route_base.specs.declared.sink.WriteError.{WriteError}
use Rattle.route_base.specs.declared.sink.WriteError.TheVariants.{Failed, OutOfMemory}
use Rattle.network_folder.proofs.ReadFiles.{risen_before}

-- no count falls in two calls
pub rise_on : (old mid new : FolderState) → CountsRise old mid → CountsRise mid new → CountsRise old new
rise_on old mid new a b = record {
  missing = omega (arith, a.missing, b.missing);
  read_faults = omega (arith, a.read_faults, b.read_faults);
  write_faults = omega (arith, a.write_faults, b.write_faults);
}

module _ (dir : List ℕ) where
  -- one file more is held
  pub holds_more : (files : List FileToWrite) (file : FileToWrite) (before mid after : Option Contents) → HoldsEach dir files before mid
      → Holds mid after (path_of dir file.name) file.bytes → HoldsEach dir (files ++ file ∷ []) before after
  holds_more [] file before mid after held put =
      (after, (subst (λ (o : Option Contents). Holds o after (path_of dir file.name) file.bytes) held put, refl))
  holds_more (f ∷ files) file before mid after held put =
      (held.0, (held.1.0, holds_more files file held.0 mid after held.1.1 put))

  -- a file behind others wasn't written
  pub stops_putting : (written : List FileToWrite) (file : FileToWrite) (others files : List FileToWrite) (old mid new : FolderState)
      → files ≡ written ++ file ∷ others → CountsRise old mid → HoldsEach dir written old.contents mid.contents → (error : WriteError)
      → FailsToPut mid new (path_of dir file.name) error → FailsToPutEach old new dir files error
  stops_putting written file others files old mid new parts counts held Failed why = (
    risen_before old.write_faults mid.write_faults new.write_faults counts.write_faults why.0,
    record {
      written = written;
      next = file;
      others = others;
      parts = parts;
      between = mid.contents;
      held = held;
      spoiled = why.1;
    },
  )
  stops_putting written file others files old mid new parts counts held OutOfMemory why = record {
    written = written;
    others = file ∷ others;
    parts = parts;
    held = subst (λ (o : Option Contents). HoldsEach dir written old.contents o) (sym why) held;
  }
