use Rattle.std.proofs.Common.{◌+◌, ◌-◌, ◌*◌}
use Rattle.ban_expansion.proofs.closed_lists.+closed_parts+fn-closed_parts-join+arg2+fn-closed_parts-join+arg3.Given as goal

abbrev pub decreases-join+arg2 : goal.decreases-join+arg2
decreases-join+arg2 g l = 2 * l.left_parts + 1

abbrev pub decreases-join+arg3 : goal.decreases-join+arg3
decreases-join+arg3 g l = 2 * (l.parts - l.left_parts) + 1

abbrev pub decreases-closed_parts : goal.decreases-closed_parts
decreases-closed_parts g l = 2 * l.parts
