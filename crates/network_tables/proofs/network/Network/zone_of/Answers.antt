use Rattle.std.proofs.Common.{◌<◌, List, length, ap, sym, ◌∙◌, arith}
use Rattle.std.specs.Prelude.{slice_get}
use Rattle.std.specs.Option.{option_map}
use Rattle.network_tables.specs.NetworkModel.{Area, NetworkModel}
use Rattle.network_tables.proofs.AreaLists.{place_within, zone_at_place}
use Rattle.network_tables.proofs.network.Network.zone_of.Goals as goal

pub index-requires : goal.index-requires
index-requires c =
    let n = c.self.inside.parts in
    let seen = ap (λ (t : NetworkModel). t.areas) c.self.view_is in
    omega (arith, place_within n.zones.items n.zone_places.items n.holidays.items c.self.invariant.dated _ c.args.area seen c.requires, n.zone_places.ok.0)

pub index-requires-2 : goal.index-requires-2
index-requires-2 c =
    let n = c.self.inside.parts in
    let seen = ap (λ (t : NetworkModel). t.areas) c.self.view_is in
    let within = place_within n.zones.items n.zone_places.items n.holidays.items c.self.invariant.dated _ c.args.area seen c.requires in
    omega (arith, c.self.invariant.zoned c.args.area c.index.result.now within, c.index.ensures, n.zones.ok.0)

pub returns : goal.returns
returns c =
    let n = c.self.inside.parts in
    let dated = c.self.invariant.dated in
    let seen = ap (λ (t : NetworkModel). t.areas) c.self.view_is in
    let within = place_within n.zones.items n.zone_places.items n.holidays.items dated _ c.args.area seen c.requires in
    let there : c.index.result.now < length n.zones.items = omega (arith, c.self.invariant.zoned c.args.area c.index.result.now within, c.index.ensures) in
    sym (ap (λ (areas : List Area). option_map (λ (a : Area). a.zone) (slice_get areas c.args.area)) seen)
    ∙ zone_at_place n.zones.items n.zone_places.items n.holidays.items dated c.args.area c.index.result.now
    c.index-2.result.now within c.index.ensures there c.index-2.ensures
