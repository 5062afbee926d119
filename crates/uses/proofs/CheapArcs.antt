-- A net none of whose roads has a dear minute has cheap arcs.
use Rattle.std.proofs.Common.{◌≡◌, ◌+◌, Some, get_or, ap}
use Rattle.std.specs.Option.{option_map}
use Rattle.route_base.specs.Net.{Net, road_of, setting_of}
use Rattle.route_base.proofs.Numbered.{at_number-next}
use Rattle.front_transport.specs.CheapArcs.{HasCheapArcs}
use Rattle.ban_expansion.specs.Bans.{HasNoDearMinute}

pub cheap_arcs : (net : Net) → HasNoDearMinute (setting_of net) → HasCheapArcs net
cheap_arcs net cheap k d inside =
    let is : (setting_of net).road (k + 1) ≡ Some (road_of (get_or net.arcs k d)) = ap (option_map road_of) (at_number-next net.arcs k d inside) in
    cheap (k + 1) (road_of (get_or net.arcs k d)) is
