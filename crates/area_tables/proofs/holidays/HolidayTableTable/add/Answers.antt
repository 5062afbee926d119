use Rattle.std.proofs.Common.{◌++◌, ◌∷◌, [], cond, List, sym, ◌∙◌, ap, subst}
use Rattle.std.proofs.Math.ListN.{set}
use Rattle.csv.specs.Records.{fields_of}
use Rattle.opening_hours.specs.Holidays.{HolidayLists}
use Rattle.area_tables.specs.declared.holidays.row.HolidayKind.TheVariants.{Public, School}
use Rattle.area_tables.specs.Inside.{HolidayDays, HaveDays}
use Rattle.area_tables.specs.Holidays.{HolidayEntry, holiday_of, holidays_in, is_kind}
use Rattle.area_tables.proofs.DatedRows.{HaveDays-more}
use Rattle.table_reader.proofs.Lists.{filter_map-push}
use Rattle.area_tables.proofs.holidays.HolidayTableTable.add.Goals as goal

pub returns-clause-added : goal.returns-clause-added
returns-clause-added c = λ start before have0.
    let table : HolidayDays = record { areas = c.self.inside.areas.now; days = c.self.inside.days.items } in
    let h : HolidayEntry = (c.in-Some.area.now, c.in-Some.holiday) in
    let have = subst (λ (t : HolidayDays). HaveDays start t (holidays_in before)) (sym c.self.view_is) have0 in
    subst (λ (entries : List HolidayEntry). HaveDays start (record { areas = table.areas; days = set table.days c.in-Some-place.place c.add.new.self }) entries)
    (sym (filter_map-push holiday_of before (fields_of c.args.row.now) h (sym c.in-Some.ensures.value)))
    (HaveDays-more start table (holidays_in before) h c.in-Some-place.place c.add.new.self c.index_mut.result.now have c.self.invariant.distinct
    (sym c.place.ensures.place ∙ c.in-Some-place.is)
    (c.in_ok-add.ensures.public ∙ ap (λ (l : HolidayLists). l.public ++ cond (is_kind Public h.1.kind) (h.1.day ∷ []) []) c.index_mut.ensures.value)
    (c.in_ok-add.ensures.school ∙ ap (λ (l : HolidayLists). l.school ++ cond (is_kind School h.1.kind) (h.1.day ∷ []) []) c.index_mut.ensures.value))
