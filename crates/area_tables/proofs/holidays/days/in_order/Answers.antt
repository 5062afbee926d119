use Rattle.std.proofs.Common.{◌+◌, ◌<◌, ◌≤◌, arith}
use Rattle.std.proofs.lemmas.List.Elements.{All-weaker}
use Rattle.std.proofs.lemmas.List.Filters.{dedup_is}
use Rattle.std.proofs.lemmas.Map.Keys.{IsStrictlyIncreasing-dedup}
use Rattle.route_base.specs.declared.limits.TheConstants.{LAST_DAY}
use Rattle.area_tables.proofs.DayLists.{in_calendar_order}
use Rattle.area_tables.proofs.holidays.days.in_order.Goals as goal

pub returns-clause-value : goal.returns-clause-value
returns-clause-value c =
    in_calendar_order (LAST_DAY + 1) c.args.days.items c.sort_unstable.new.self.items c.dedup.new.self.items
    c.sort_unstable.ensures.permutation c.sort_unstable.ensures.sorted (dedup_is _ _ _ c.dedup.ensures.filtered)
    (All-weaker (λ day. day ≤ LAST_DAY) (λ day. day < LAST_DAY + 1) (λ day within. omega (arith, within)) c.args.days.items c.requires)

pub returns-clause-rising : goal.returns-clause-rising
returns-clause-rising c =
    let is = dedup_is _ _ _ c.dedup.ensures.filtered in
    rw is (IsStrictlyIncreasing-dedup _ c.sort_unstable.ensures.sorted)
