use Rattle.std.proofs.Common.{List, ap, sym, ◌∙◌, arith}
use Rattle.std.specs.Prelude.{slice_get}
use Rattle.std.specs.Option.{option_map}
use Rattle.network_tables.specs.NetworkModel.{Area, NetworkModel}
use Rattle.network_tables.proofs.AreaLists.{place_within, holidays_at_place}
use Rattle.network_tables.proofs.network.Network.holidays_of.Goals as goal

pub index-requires : goal.index-requires
index-requires c =
    let n = c.self.inside.parts in
    let seen = ap (λ (t : NetworkModel). t.areas) c.self.view_is in
    let dated = c.self.invariant.dated in
    omega (arith, place_within n.zones.items n.zone_places.items n.holidays.items dated _ c.args.area seen c.requires, dated, n.holidays.ok.0)

pub returns : goal.returns
returns c =
    let n = c.self.inside.parts in
    let seen = ap (λ (t : NetworkModel). t.areas) c.self.view_is in
    sym (ap (λ (areas : List Area). option_map (λ (a : Area). a.holidays) (slice_get areas c.args.area)) seen)
    ∙ holidays_at_place n.zones.items n.zone_places.items n.holidays.items c.self.invariant.dated c.args.area c.index.result.now
    (place_within n.zones.items n.zone_places.items n.holidays.items c.self.invariant.dated _ c.args.area seen c.requires) c.index.ensures
