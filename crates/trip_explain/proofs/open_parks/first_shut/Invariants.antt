use Rattle.std.proofs.Common.{◌≡◌, ◌≤◌, ◌<◌, ℕ, true}
use Rattle.network_tables.specs.Access.{is_park_open}
use Rattle.network_tables.specs.NetworkModel.{park_of}
use Rattle.trip_explain.proofs.open_parks.first_shut.Given as goal

abbrev pub invariant-loop-t : goal.invariant-loop-t
invariant-loop-t l = (u : ℕ) → l.from ≤ u → u < l.t → is_park_open l.network (park_of l.network l.v.0) u ≡ true
