use Rattle.std.proofs.Common.{arith}
use Rattle.route_base.specs.declared.types.Request.{Request}
use Rattle.search_tests.proofs.WorkedNet.{worked_fits}
use Rattle.search_tests.proofs.tests.nets.trip_until.Goals as goal

pub returns-clause-asked : goal.returns-clause-asked
returns-clause-asked c =
    let request : Request = record { origin = record { 0 = 1 }; goal = record { 0 = 3 }; depart = 26563680; until = c.args.until } in
    record {
      ends = record { origin = (omega arith, omega arith); goal = (omega arith, omega arith); depart = omega arith; until = omega arith };
      in_time = omega arith;
      fit = worked_fits request (omega arith) (omega arith);
    }
