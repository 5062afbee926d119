-- The services of rulers (source: own; no law).
use Rattle.state_dominance.specs.Inside.Product.{Service as ServiceAt}
use Rattle.ruled_states.specs.declared.rulers.Service.{Service}

abbrev pub service_at : Service → ServiceAt
service_at service = record { node = service.node.0; minutes = service.minutes; from = service.from; to = service.to }
