use Rattle.std.proofs.Common.{◌≡◌, ◌≤◌, ◌+◌, ◌++◌, flat_map, drop}
use Rattle.route_base.specs.Legs.{end_of}
use Rattle.route_base.specs.Net.{setting_of}
use Rattle.route_base.specs.Time.{first_instant}
use Rattle.plan_report.specs.Inside.{Lead, position_at}
use Rattle.plan_report.specs.Routes.{legs_text}
use Rattle.plan_report.specs.Stages.{stages_from}
use Rattle.plan_report.proofs.routes.push_legs.Given as goal

abbrev pub invariant-loop-i : goal.invariant-loop-i
invariant-loop-i g l = record {
  text : l.out.items ++ flat_map ((g.F.RouteForm.texts l.form).leg (setting_of l.net) l.number)
      (stages_from (setting_of l.net) (l.i + 1) (position_at l.from) (drop l.i l.legs))
      ≡ l.initial.out.items ++ legs_text (g.F.RouteForm.texts l.form) (setting_of l.net) l.fn.request l.number l.legs;
  lead : Lead (setting_of l.net) l.fn.request.until (drop l.i l.legs) (position_at l.from) (end_of l.fn.request l.fn.pair);
  early : first_instant ≤ l.from.minute;
}
