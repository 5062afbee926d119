use Rattle.std.proofs.Common.{◌≡◌, ◌-◌, ◌≤◌, List, Some, None, true, false, length, ap, sym, ◌∙◌, subst, arith}
use Rattle.std.proofs.Math.ListN.{set}
use Rattle.std.specs.Option.{is_some}
use Rattle.route_base.specs.declared.faults.Cause.TheVariants.{Duplicate}
use Rattle.route_base.proofs.Logic.{none_from_test}
use Rattle.csv.specs.Records.{fields_of}
use Rattle.table_reader.specs.ByNumber.{ValuesByNumber, HaveValues, NumberedRow, numbered_of, numbered_in, field_for}
use Rattle.table_reader.proofs.Lists.{filter_map-push}
use Rattle.table_reader.proofs.NumberedRows.{HasCause, cause_next, held_there, HaveValues-more}
use Rattle.table_reader.proofs.by_number.NumberedTableTable.add.Goals as goal

pub returns-then-is_some-clause-refused : goal.returns-then-is_some-clause-refused
returns-then-is_some-clause-refused g c =
    let form = g.S.FieldValues.form in
    let value = g.S.FieldValues.value in
    let held = sym (ap is_some c.index.ensures) ∙ sym c.is_some.ensures ∙ c.if-is_some.true in
    subst (HasCause form value (fields_of c.args.row.now) (Some Duplicate)) c.self.view_is
    (cause_next form value _ _ (c.in-Some.number, c.in-Some.field.now) c.in-Some-find.value c.index.result.now true (sym c.in-Some.ensures)
    (omega arith) (omega arith) (sym c.in-Some-find.ensures) held)

pub returns-clause-faultless : goal.returns-clause-faultless
returns-clause-faultless g c =
    let form = g.S.FieldValues.form in
    let value = g.S.FieldValues.value in
    let held = sym (ap is_some c.index.ensures) ∙ sym c.is_some.ensures ∙ c.if-is_some.false in
    subst (HasCause form value (fields_of c.args.row.now) None) c.self.view_is
    (cause_next form value _ _ (c.in-Some.number, c.in-Some.field.now) c.in-Some-find.value c.index.result.now false (sym c.in-Some.ensures)
    (omega arith) (omega arith) (sym c.in-Some-find.ensures) held)

pub returns-clause-added : goal.returns-clause-added
returns-clause-added g c = λ start before gives0.
    let form = g.S.FieldValues.form in
    let value = g.S.FieldValues.value in
    let table : ValuesByNumber g.row.S.Denot g.row.V.Denot = record { source = c.self.inside.source; values = c.self.inside.values.items } in
    let gives = subst (λ (t : ValuesByNumber g.row.S.Denot g.row.V.Denot). HaveValues value start t (numbered_in form before)) (sym c.self.view_is) gives0 in
    let r : NumberedRow = (c.in-Some.number, c.in-Some.field.now) in
    let low : 1 ≤ c.in-Some.number = omega arith in
    let high : c.in-Some.number ≤ length c.self.inside.values.items = omega arith in
    let is : is_some (field_for (numbered_in form before) c.in-Some.number) ≡ false =
    held_there value start table (numbered_in form before) c.in-Some.number c.index.result.now gives low high ∙ sym (ap is_some c.index.ensures)
    ∙ sym c.is_some.ensures ∙ c.if-is_some.false in
    subst (λ (rows : List NumberedRow). HaveValues value start
    (record { source = table.source; values = set table.values (c.in-Some.number - 1) (Some c.in-Some-find.value) }) rows)
    (sym (filter_map-push (numbered_of form) before (fields_of c.args.row.now) r (sym c.in-Some.ensures)))
    (HaveValues-more value start table (numbered_in form before) r c.in-Some-find.value gives low high (sym c.in-Some-find.ensures)
    (none_from_test (field_for (numbered_in form before) c.in-Some.number) is))
