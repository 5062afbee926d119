use Rattle.std.proofs.Common.{◌∙◌}
use Rattle.table_reader.proofs.FieldLists.{strip_bom-marked, strip_bom-plain}
use Rattle.table_reader.proofs.records.without_mark.Goals as goal

pub returns-in-Some : goal.returns-in-Some
returns-in-Some c = c.in-Some.ensures.cases.1 ∙ strip_bom-marked _ c.in-Some.ensures.cases.0

pub returns-in-None : goal.returns-in-None
returns-in-None c = strip_bom-plain _ c.in-None.ensures.cases
