use Rattle.std.proofs.Common.{◌≡◌, List, IsTrue, sym, subst, ap}
use Rattle.std.specs.Prelude.{◌↔◌, Err}
use Rattle.opening_hours.specs.Coverage.{IsCovered}
use Rattle.opening_hours.specs.declared.faults.HoursFault.{HoursFault}
use Rattle.opening_hours.specs.declared.faults.HoursFault.TheVariants as faults
use Rattle.opening_hours.specs.declared.types.HoursRule.{HoursRule}
use Rattle.uses.specs.Words.{IsBannedAt}
use Rattle.zone_rules.specs.declared.rows.Wall.{Wall}
use Rattle.uses.proofs.open_roads.is_banned.Goals as goal

pub returns-in-Ok-clause-banned : goal.returns-in-Ok-clause-banned
returns-in-Ok-clause-banned c = λ rules h.
    let same = c.in-Ok.ensures.only rules h in
    let here = subst (λ (w : Wall). IsTrue c.covers.result ↔ IsCovered c.in-Ok.rules c.args.holidays.now w.day w.minute)
    c.wall-wall.ensures.value c.covers.ensures.covered in
    subst (λ (rs : List HoursRule). IsTrue c.covers.result ↔ IsBannedAt rs c.args.zone.now c.args.holidays.now c.args.t)
    (sym same) here

pub returns-in-Err-clause-refused : goal.returns-in-Err-clause-refused
returns-in-Err-clause-refused c = λ is.
    let same : c.in-Err.fault ≡ faults.NotHours = cc in
    c.in-Err.ensures.none (ap (λ (f : HoursFault). Err f) same)
