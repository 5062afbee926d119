-- Folders and sinks whose contents are not told, with the counts of their faults (source: own).
use Rattle.std.specs.Prelude.{ℕ, None, Result, Ok, Err}
use Rattle.route_base.specs.FolderState.{FolderState}
use Rattle.route_base.specs.MemoryFiles.{next_ordinal}
use Rattle.route_base.specs.SinkState.{SinkState}
use Rattle.route_base.specs.declared.folder.PartError.{PartError}
use Rattle.route_base.specs.declared.folder.PartError.TheVariants as part
use Rattle.route_base.specs.declared.sink.WriteError.{WriteError}
use Rattle.route_base.specs.declared.sink.WriteError.TheVariants as write

-- how often the calls of a folder failed
pub record FaultCounts : Type 0 where
  pub missing : ℕ
  pub read_faults : ℕ
  pub write_faults : ℕ

-- no fault yet
abbrev pub no_faults : FaultCounts
no_faults = record { missing = 0; read_faults = 0; write_faults = 0 }

-- a folder with these counts
abbrev pub state_with : FaultCounts → FolderState
state_with s = record { contents = None; missing = s.missing; read_faults = s.read_faults; write_faults = s.write_faults }

-- a sink with this count
abbrev pub sink_with : ℕ → SinkState
sink_with faults = record { written = None; faults = faults }

-- the counts after this answer to a read: the fault is counted, where it is one, and nothing else
abbrev pub after_read : FaultCounts → Result ℕ PartError → FaultCounts
after_read s (Ok k) = s
after_read s (Err part.Missing) = record s { missing = next_ordinal s.missing }
after_read s (Err part.Failed) = record s { read_faults = next_ordinal s.read_faults }
after_read s (Err part.OutOfMemory) = s

-- the counts after this answer to a write
abbrev pub after_write : {A : Type 0} → FaultCounts → Result A WriteError → FaultCounts
after_write s (Ok done) = s
after_write s (Err write.Failed) = record s { write_faults = next_ordinal s.write_faults }
after_write s (Err write.OutOfMemory) = s

-- the count after this answer to a write of a sink
abbrev pub after_append : {A : Type 0} → ℕ → Result A WriteError → ℕ
after_append faults (Ok done) = faults
after_append faults (Err write.Failed) = next_ordinal faults
after_append faults (Err write.OutOfMemory) = faults
