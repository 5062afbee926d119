use Rattle.ban_expansion.specs.Inside.Grouping.{AreGrouped}
use Rattle.ban_expansion.proofs.grouping.group_arcs.Given as goal

abbrev pub invariant-loop-k : goal.invariant-loop-k
invariant-loop-k l = AreGrouped l.network l.k l.grouping
