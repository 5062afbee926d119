-- The ruler of rested tours: its states are the minutes driven since the last break, with the number of stops that were served (source: own;
-- no law).
use Rattle.std.specs.Prelude.{List, map}
use Rattle.drive_states.specs.declared.rule.BreakRule.{BreakRule}
use Rattle.state_dominance.specs.Inside.Product.{Ruler, Service}
use Rattle.state_dominance.specs.OneRule.{one_rule}
use Rattle.state_dominance.specs.Serving.{serving}
use Rattle.stop_tour.specs.declared.stops.Stop.{Stop}

-- the service of a stop
abbrev pub stop_service : Stop → Service
stop_service stop = record { node = stop.node.0; minutes = stop.service; from = stop.from; to = stop.to }

abbrev pub tour_ruler : List Stop → BreakRule → Ruler
tour_ruler stops rule = serving (map stop_service stops) (one_rule rule.drive rule.rest)
