use Rattle.route_base.specs.Net.{setting_of}
use Rattle.route_base.proofs.Costs.{fits}
use Rattle.route_base.proofs.Parks.{weight_small}
use Rattle.itinerary_unpack.proofs.laws.costs_fit.Goals as goal

pub returns : goal.returns
returns c net r good cheap in_order short = fits (setting_of net) r
    (record { each_road = cheap; each_weight = weight_small net good }) in_order short
