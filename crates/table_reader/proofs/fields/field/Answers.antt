use Rattle.std.proofs.Common.{sym, ap, ◌∙◌, Option, Bor, List, ℕ}
use Rattle.std.specs.Option.{option_map}
use Rattle.csv.specs.Records.{fields_of}
use Rattle.table_reader.proofs.FieldLists.{field_there, field_at-slice_get}
use Rattle.table_reader.proofs.fields.field.Goals as goal

pub unwrap-requires : goal.unwrap-requires
unwrap-requires c = field_there _ _ (fields_of c.args.row.now) c.args.i c.get.ensures.value c.requires

pub returns : goal.returns
returns c = sym (field_at-slice_get (fields_of c.args.row.now) c.args.i) ∙ sym c.get.ensures.value
    ∙ ap (λ (o : Option (Bor (List ℕ))). option_map (λ s. s.now) o) c.unwrap.ensures
