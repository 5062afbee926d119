use Rattle.std.proofs.Common.{sym, ◌∙◌}
use Rattle.table_reader.proofs.NumberedRows.{given_at_first, HaveValues-first}
use Rattle.table_reader.proofs.by_number.NumberedTable.new.Goals as goal

pub returns-clause-none : goal.returns-clause-none
returns-clause-none g c = HaveValues-first g.S.FieldValues.value _ c.args.count
    (c.in_ok-no_values.ensures ∙ sym (given_at_first (g.S.FieldValues.value c.args.source) c.args.count))
