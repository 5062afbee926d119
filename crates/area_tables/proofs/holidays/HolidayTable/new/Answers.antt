use Rattle.std.proofs.Common.{◌≡◌, ◌∙◌, refl, length, arith}
use Rattle.area_tables.proofs.DatedRows.{none_named}
use Rattle.area_tables.proofs.holidays.HolidayTable.new.Goals as goal

pub returns-clause-none : goal.returns-clause-none
returns-clause-none c = record {
  areas = refl;
  days =
      let all : length c.args.areas.now ≡ c.loop-area._area = omega arith in
      c.loop-area.invariant ∙ none_named c.args.areas.now c.loop-area._area all;
}
