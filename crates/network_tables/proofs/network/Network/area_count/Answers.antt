use Rattle.std.proofs.Common.{length, ap, arith}
use Rattle.network_tables.specs.NetworkModel.{NetworkModel}
use Rattle.network_tables.proofs.AreaLists.{size_at}
use Rattle.network_tables.proofs.network.Network.area_count.Goals as goal

pub returns : goal.returns
returns c =
    let n = c.self.inside.parts in
    let seen = ap (λ (t : NetworkModel). length t.areas) c.self.view_is in
    omega (
      arith,
      seen,
      size_at n.zones.items n.zone_places.items n.holidays.items c.self.invariant.dated,
      c.self.invariant.dated,
      n.holidays.ok.0,
      c.len.ensures,
    )
