use Rattle.table_reader.proofs.NameRows.{distinct_seen}
use Rattle.table_reader.proofs.name_index.NameIndex.len.Goals as goal

pub returns-clause-distinct : goal.returns-clause-distinct
returns-clause-distinct g c = distinct_seen (λ k. k.items) c.self.inside.held.entries _ c.self.view_is c.len.ensures.unique
