use Rattle.ban_expansion.proofs.TimedNets.{same_firsts}
use Rattle.ban_expansion.proofs.expansion.expand_groups.Goals as goal

pub net_over-requires-clause-closed : goal.net_over-requires-clause-closed
net_over-requires-clause-closed c = (c.args.vehicle.now, same_firsts _ _ _ _ c.firsts.ensures c.in_ok-closed.ensures)

pub returns : goal.returns
returns c = c.in_ok-net.ensures c.args.vehicle.now (same_firsts _ _ _ _ c.firsts.ensures c.in_ok-closed.ensures)
