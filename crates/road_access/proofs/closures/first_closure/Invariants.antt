use Rattle.std.proofs.Common.{◌≡◌, take, false}
use Rattle.route_base.specs.Runs.{any_has}
use Rattle.network_tables.specs.NetworkModel.{closures_of}
use Rattle.road_access.proofs.closures.first_closure.Given as goal

abbrev pub invariant-loop-k : goal.invariant-loop-k
invariant-loop-k l = any_has (take l.k (closures_of l.network l.a.0)) l.t ≡ false
