use Rattle.std.proofs.Common.{◌∙◌}
use Rattle.table_reader.proofs.NameRows.{value_seen}
use Rattle.table_reader.proofs.name_index.NameIndex.value.Goals as goal

pub returns : goal.returns
returns g c = c.copied.ensures ∙ c.get.ensures.value ∙ value_seen (λ k. k.items) c.self.inside.held.entries _ c.self.view_is c.args.name.now
