use Rattle.table_reader.proofs.FieldLists.{two}
use Rattle.table_reader.proofs.fields.two_fields.Goals as goal

pub returns : goal.returns
returns c = two _ _ _ c.requires c.field.ensures c.field-2.ensures
