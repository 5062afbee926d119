use Rattle.std.proofs.Common.{◌≡◌, Some, None, subst, sym}
use Rattle.route_base.specs.declared.faults.RequestFault.{RequestFault}
use Rattle.network_tables.specs.NetworkModel.{NetworkModel}
use Rattle.front_desk.specs.Gen.{drawn_trip}
use Rattle.front_desk.specs.Trips.{Trip, failed_check}
use Rattle.front_desk.proofs.Drawn.{drawn_passes}
use Rattle.front_desk.proofs.generation.vehicle_of_drawn.Goals as goal

no_fault : {fault : RequestFault} (network : NetworkModel) (trip : Trip) → failed_check network trip ≡ None → failed_check network trip ≡ Some fault → ⊥
no_fault network trip none some = cc

pub unreachable-requires : goal.unreachable-requires
unreachable-requires c =
    let grid = c.args.grid.now in
    let network = c.args.network.now in
    let drawn = drawn_passes grid c.requires.drawable
    (c.drawn_files_are_good.ensures.network grid.number grid.rows grid.columns c.requires.drawable) in
    let passed = subst (λ (n : NetworkModel). failed_check n (drawn_trip grid) ≡ None) (sym c.requires.network) drawn in
    let failed = subst (λ (t : Trip). failed_check network t ≡ Some c.in_default.field-0) c.drawn_trip-trip.ensures c.in_default.ensures.failed in
    no_fault network (drawn_trip grid) passed failed
