-- The ruler of tours without a break rule: its states are the numbers of stops that were served (source: own; no law).
use Rattle.std.specs.Prelude.{List, map}
use Rattle.state_dominance.specs.Inside.Product.{Ruler}
use Rattle.state_dominance.specs.NoRule.{no_rule}
use Rattle.state_dominance.specs.Serving.{serving}
use Rattle.stop_tour.specs.declared.stops.Stop.{Stop}
use Rattle.rested_tours.specs.Inside.TourRuler.{stop_service}

abbrev pub plain_ruler : List Stop → Ruler
plain_ruler stops = serving (map stop_service stops) no_rule
