use Rattle.std.proofs.Common.{◌≡◌, Some, slice_get}
use Rattle.ban_expansion.proofs.GroupedArcs.{is_like_first}
use Rattle.ban_expansion.proofs.grouping.Grouping.group_of_alike.Goals as goal

pub returns-then-branch : goal.returns-then-branch
returns-then-branch c =
    let firsts = c.args.self.now.all.firsts in
    let group = c.in-Some.group in
    let first = c.in-Some.first in
    let there : slice_get firsts group ≡ Some first = cc c.in-Some.ensures in
    is_like_first c.args.network.now firsts c.args.a.0 group first there (c.in_ok-are_alike.ensures c.if-branch.true)
