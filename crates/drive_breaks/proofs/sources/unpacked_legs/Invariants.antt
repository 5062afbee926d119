use Rattle.std.proofs.Common.{◌≡◌, take}
use Rattle.route_base.specs.Legs.{steps_of}
use Rattle.tidy_legs.specs.Tidiness.{IsTidy}
use Rattle.drive_breaks.specs.Inside.Unpacking.{unpacked}
use Rattle.drive_breaks.proofs.sources.unpacked_legs.Given as goal

abbrev pub invariant-loop-leg : goal.invariant-loop-leg
invariant-loop-leg l = record {
  tidy : IsTidy l.out.items;
  steps : steps_of l.out.items ≡ unpacked l.sources (steps_of (take l.leg-index l.legs));
}
