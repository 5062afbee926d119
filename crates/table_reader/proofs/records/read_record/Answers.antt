use Rattle.table_reader.proofs.RecordSteps.{next_left, nothing_left}
use Rattle.table_reader.proofs.records.read_record.Goals as goal

pub returns-clause-next : goal.returns-clause-next
returns-clause-next c found = next_left _ _ _ c.requires (rw found at (c.in-Ok.ensures.reads c.requires.trim c.requires.ready))

pub returns-clause-end : goal.returns-clause-end
returns-clause-end c none = nothing_left _ c.read_byte_record.new.self _ c.requires (rw none at (c.in-Ok.ensures.reads c.requires.trim c.requires.ready))
