use Rattle.std.proofs.Common.{◌≡◌, take}
use Rattle.network_tables.specs.NetworkModel.{closures_of}
use Rattle.ban_expansion.proofs.arc_comparison.have_same_closures.Given as goal

abbrev pub invariant-loop-k : goal.invariant-loop-k
invariant-loop-k l = take l.k (closures_of l.network l.a.0) ≡ take l.k (closures_of l.network l.b.0)
