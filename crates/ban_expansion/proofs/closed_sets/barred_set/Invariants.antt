use Rattle.std.proofs.Common.{◌≤◌, ◌-◌, [], length, take}
use Rattle.vehicle_classes.specs.Classes.{keys_of}
use Rattle.network_tables.specs.Access.{access_given}
use Rattle.ban_expansion.specs.Bans.{Lays}
use Rattle.ban_expansion.proofs.closed_sets.barred_set.Given as goal

abbrev pub invariant-keys : goal.invariant-keys
invariant-keys l = record {
  upto : l.k ≤ length (keys_of l.vehicle.class);
  laid : Lays l.vehicle.purpose l.fn.window
      (λ t. access_given l.network l.vehicle l.fn.a.0 t (take l.k (keys_of l.vehicle.class))) [] l.closed;
}

abbrev pub decreases-keys : goal.decreases-keys
decreases-keys l = length (keys_of l.vehicle.class) - l.k
