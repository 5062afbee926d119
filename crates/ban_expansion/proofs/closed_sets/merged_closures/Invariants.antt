use Rattle.std.proofs.Common.{◌≡◌, take}
use Rattle.network_tables.specs.NetworkModel.{closures_of}
use Rattle.ban_expansion.proofs.closed_sets.merged_closures.Given as goal

abbrev pub invariant-loop-k : goal.invariant-loop-k
invariant-loop-k l = l.runs.items ≡ take l.k (closures_of l.network l.a.0)
