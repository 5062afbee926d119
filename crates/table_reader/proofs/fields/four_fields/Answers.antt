use Rattle.route_base.proofs.Items.{four_items}
use Rattle.table_reader.proofs.fields.four_fields.Goals as goal

pub returns : goal.returns
returns c = four_items _ _ _ _ _ c.requires c.field.ensures c.field-2.ensures c.field-3.ensures c.field-4.ensures
