use Rattle.std.proofs.Common.{take}
use Rattle.network_tables.specs.NetworkModel.{closures_of}
use Rattle.trip_explain.specs.Inside.{IsFirstWithin}
use Rattle.trip_explain.proofs.closed_minutes.first_in_closure.Given as goal

abbrev pub invariant-loop-k : goal.invariant-loop-k
invariant-loop-k l = IsFirstWithin (take l.k (closures_of l.network l.a.0)) l.from l.end l.first
