use Rattle.front_desk.proofs.Grouping.{given_groups}
use Rattle.front_desk.proofs.batch_trips.Trips.shared_net_for.Goals as goal

pub shared_net-requires-clause-groups : goal.shared_net-requires-clause-groups
shared_net-requires-clause-groups c =
    given_groups c.args.self.now.network.now c.args.self.now.groups.now c.args.self.now.grouped
