use Rattle.table_reader.proofs.FieldLists.{three}
use Rattle.table_reader.proofs.fields.three_fields.Goals as goal

pub returns : goal.returns
returns c = three _ _ _ _ c.requires c.field.ensures c.field-2.ensures c.field-3.ensures
