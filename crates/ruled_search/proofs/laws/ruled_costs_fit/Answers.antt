use Rattle.route_base.specs.Net.{setting_of}
use Rattle.route_base.proofs.Parks.{weight_small}
use Rattle.ruled_search.proofs.Cheap.{ruled_fit}
use Rattle.ruled_search.proofs.laws.ruled_costs_fit.Goals as goal

pub returns : goal.returns
returns c = λ net r base request good cheap in_order short. ruled_fit (setting_of net) r base
    (record { each_road = cheap; each_weight = weight_small net good }) request in_order short
