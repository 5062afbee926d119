-- Nets of which no minute of driving is too dear (source: own).
use Rattle.std.specs.Prelude.{◌*◌, ◌≤◌, All}
use Rattle.route_base.specs.Net.{Net}
use Rattle.route_base.specs.declared.limits.TheConstants.{DEAREST_MINUTE}

-- no arc costs more than the dearest minute for each of its minutes
abbrev pub HasCheapArcs : Net → Type 0
HasCheapArcs net = All (λ a. a.cost ≤ DEAREST_MINUTE * a.minutes) net.arcs
