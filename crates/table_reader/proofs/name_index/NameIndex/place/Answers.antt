use Rattle.std.proofs.Common.{◌∙◌}
use Rattle.table_reader.proofs.NameRows.{place_seen}
use Rattle.table_reader.proofs.name_index.NameIndex.place.Goals as goal

pub returns-clause-place : goal.returns-clause-place
returns-clause-place g c = c.get_index_of.ensures.index ∙ place_seen (λ k. k.items) c.self.inside.held.entries _ c.self.view_is c.args.name.now
