use Rattle.std.proofs.Common.{ap, ◌∙◌}
use Rattle.std.specs.Option.{is_some}
use Rattle.table_reader.proofs.NameRows.{value_seen}
use Rattle.table_reader.proofs.name_index.NameIndex.contains.Goals as goal

pub returns : goal.returns
returns g c = c.contains_key.ensures ∙ ap is_some (value_seen (λ k. k.items) c.self.inside.held.entries _ c.self.view_is c.args.name.now)
