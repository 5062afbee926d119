-- Files and bytes in memory, with the counts that their objects keep (source: own).
use Rattle.std.specs.Prelude.{ℕ, ◌+◌, ◌-◌, ◌^◌, min, Option, Some, None, List, [], ◌∷◌, if◌then◌else◌, Result, Ok, Err}
use Rattle.std.specs.Str.{bytes_eq}
use Rattle.route_base.specs.Contents.{Holds}
use Rattle.route_base.specs.FolderState.{FolderState}
use Rattle.route_base.specs.SinkState.{SinkState}
use Rattle.route_base.specs.declared.folder.PartError.{PartError}
use Rattle.route_base.specs.declared.folder.PartError.TheVariants as part
use Rattle.route_base.specs.declared.memory.folders.File.{File}
use Rattle.route_base.specs.declared.sink.WriteError.{WriteError}
use Rattle.route_base.specs.declared.sink.WriteError.TheVariants as write

-- what the first file of this name has
abbrev pub held_in : List File → List ℕ → Option (List ℕ)
held_in [] name = None
held_in (f ∷ files) name = if bytes_eq f.name name then Some f.bytes else held_in files name

-- a folder that never fails
pub record SureFiles : Type 0 where
  pub files : List File
  pub missing : ℕ

-- a folder that fails at some calls
pub record FailingFiles : Type 0 where
  pub files : List File
  pub failing : List ℕ
  pub calls : ℕ
  pub missing : ℕ
  pub read_faults : ℕ
  pub write_faults : ℕ

-- a folder that never fails, and gives at most this many bytes in a call
pub record DrippingFiles : Type 0 where
  pub inner : SureFiles
  pub most : ℕ

-- a sink that fails at some calls
pub record FailingBytes : Type 0 where
  pub bytes : List ℕ
  pub failing : List ℕ
  pub calls : ℕ
  pub faults : ℕ

-- the folder before its first call
abbrev pub uncalled_files : List File → List ℕ → FailingFiles
uncalled_files files failing =
    record { files = files; failing = failing; calls = 0; missing = 0; read_faults = 0; write_faults = 0 }

-- the bytes are now held under the name, and every other name holds what it held
abbrev pub PutsUnder : List File → List File → List ℕ → List ℕ → Type 0
PutsUnder old new name bytes = Holds (Some (held_in old)) (Some (held_in new)) name bytes

-- the state of a folder that never fails
abbrev pub sure_state : SureFiles → FolderState
sure_state s = record { contents = Some (held_in s.files); missing = s.missing; read_faults = 0; write_faults = 0 }

-- the state of a folder that gives few bytes in a call
abbrev pub dripping_state : DrippingFiles → FolderState
dripping_state s = sure_state s.inner

-- the state of a folder that fails at some calls
abbrev pub failing_state : FailingFiles → FolderState
failing_state s = record { contents = Some (held_in s.files); missing = s.missing; read_faults = s.read_faults; write_faults = s.write_faults }

-- the state of a sink that never fails
abbrev pub sure_sink_state : List ℕ → SinkState
sure_sink_state bytes = record { written = Some bytes; faults = 0 }

-- the state of a sink that fails at some calls
abbrev pub failing_sink_state : FailingBytes → SinkState
failing_sink_state s = record { written = Some s.bytes; faults = s.faults }

-- the ordinal of the call after this many; the count stays at the last number of 64 bits
abbrev pub next_ordinal : ℕ → ℕ
next_ordinal calls = min (calls + 1) (2 ^ 64 - 1)

-- a folder without failures after this answer to a read: a missing file is counted, and nothing else
abbrev pub after_sure_read : SureFiles → Result ℕ PartError → SureFiles
after_sure_read s (Ok k) = s
after_sure_read s (Err part.Missing) = record s { missing = next_ordinal s.missing }
after_sure_read s (Err part.Failed) = s
after_sure_read s (Err part.OutOfMemory) = s

-- a folder with one call more
abbrev pub called : FailingFiles → FailingFiles
called s = record s { calls = next_ordinal s.calls }

-- a folder that fails at some calls after this answer to a read: the fault is counted, where it is one, and nothing else
abbrev pub after_read : FailingFiles → Result ℕ PartError → FailingFiles
after_read s (Ok k) = called s
after_read s (Err part.Missing) = record (called s) { missing = next_ordinal s.missing }
after_read s (Err part.Failed) = record (called s) { read_faults = next_ordinal s.read_faults }
after_read s (Err part.OutOfMemory) = called s

-- the same after this answer to a write, but for the files
abbrev pub after_write : {A : Type 0} → FailingFiles → Result A WriteError → FailingFiles
after_write s (Ok done) = called s
after_write s (Err write.Failed) = record (called s) { write_faults = next_ordinal s.write_faults }
after_write s (Err write.OutOfMemory) = called s

-- a sink with one call more
abbrev pub called_sink : FailingBytes → FailingBytes
called_sink s = record s { calls = next_ordinal s.calls }

-- a sink that fails at some calls after this answer to a write, but for its bytes: the fault is counted, where it is one, and nothing else
abbrev pub after_append : {A : Type 0} → FailingBytes → Result A WriteError → FailingBytes
after_append s (Ok done) = called_sink s
after_append s (Err write.Failed) = record (called_sink s) { faults = next_ordinal s.faults }
after_append s (Err write.OutOfMemory) = called_sink s
