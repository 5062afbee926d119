use Rattle.std.proofs.Common.{take}
use Rattle.std.specs.List.{AllZip}
use Rattle.rested_tours.specs.Inside.ToldLegs.{IsTripOf}
use Rattle.rested_tours.proofs.trip_routes.routes_of.Given as goal

abbrev pub invariant-loop-tour : goal.invariant-loop-tour
invariant-loop-tour l = AllZip IsTripOf (take l.tour-index l.tours) l.out.items
