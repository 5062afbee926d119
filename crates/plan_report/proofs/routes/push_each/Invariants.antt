use Rattle.std.proofs.Common.{◌≡◌, ◌+◌, ◌++◌, drop}
use Rattle.route_base.specs.Net.{setting_of}
use Rattle.plan_report.specs.Routes.{route_text}
use Rattle.plan_report.specs.Stages.{numbered_text}
use Rattle.plan_report.proofs.routes.push_each.Given as goal

abbrev pub invariant-loop-i : goal.invariant-loop-i
invariant-loop-i g l =
    l.out.items ++ numbered_text (route_text (g.F.RouteForm.texts l.form) (setting_of l.net) l.fn.request) (l.i + 1) (drop l.i l.routes)
    ≡ l.initial.out.items ++ numbered_text (route_text (g.F.RouteForm.texts l.form) (setting_of l.net) l.fn.request) 1 l.routes
