use Rattle.std.proofs.Common.{rules, ◌≡◌, ◌∙◌}
use Rattle.indexmap.specs.IndexMap.{values}
use Rattle.table_reader.proofs.NameRows.{values_seen}
use Rattle.table_reader.proofs.name_index.NameIndex.into_values.Goals as goal

pub returns : goal.returns
returns g c =
    let all : c.in_ok-collect.field-0.items ≡ values c.self.inside.held = search rules in
    all ∙ values_seen (λ k. k.items) c.self.inside.held.entries _ c.self.view_is
