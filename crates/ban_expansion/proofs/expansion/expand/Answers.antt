use Rattle.ban_expansion.proofs.TimedNets.{same_firsts}
use Rattle.ban_expansion.proofs.expansion.expand.Goals as goal

pub net_over-requires-clause-closed : goal.net_over-requires-clause-closed
net_over-requires-clause-closed g c = (c.args.vehicle.now, same_firsts _ _ _ _ c.firsts-firsts.ensures c.in_ok-closed.ensures)

pub returns : goal.returns
returns g c = c.in_ok-net.ensures c.args.vehicle.now (same_firsts _ _ _ _ c.firsts-firsts.ensures c.in_ok-closed.ensures)
