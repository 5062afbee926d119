use Rattle.std.proofs.Common.{◌<◌, ℕ, length, get_or}
use Rattle.route_base.specs.Net.{setting_of}
use Rattle.route_base.specs.Legs.{Achieves}
use Rattle.route_base.specs.declared.types.Route.{Route}
use Rattle.certificate_check.proofs.legs.are_achieved.Given as goal

abbrev pub invariant-loop-route : goal.invariant-loop-route
invariant-loop-route l = (k : ℕ) (d : Route) → k < l.route-index → k < length l.routes
    → Achieves (setting_of l.net) l.request (get_or l.routes k d).legs (get_or l.routes k d).pair
