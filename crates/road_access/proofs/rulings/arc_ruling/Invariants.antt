use Rattle.std.proofs.Common.{◌≡◌, ◌≤◌, ◌-◌, length, take}
use Rattle.vehicle_classes.specs.Classes.{keys_of}
use Rattle.road_access.specs.Rulings.{ruling_given}
use Rattle.road_access.specs.Steadiness.{RuleSteadily}
use Rattle.road_access.proofs.rulings.arc_ruling.Given as goal

abbrev pub invariant-keys : goal.invariant-keys
invariant-keys l = record {
  upto : l.k ≤ length (keys_of l.vehicle.class);
  ruling : l.ruling ≡ ruling_given l.network l.vehicle l.a.0 l.t (take l.k (keys_of l.vehicle.class));
  some : 1 ≤ l.minutes;
  within : l.minutes ≤ l.most;
  same : RuleSteadily l.network l.vehicle l.a.0 l.t (take l.k (keys_of l.vehicle.class)) l.minutes;
}

abbrev pub decreases-keys : goal.decreases-keys
decreases-keys l = length (keys_of l.vehicle.class) - l.k
