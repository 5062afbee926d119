use Rattle.std.proofs.Common.{arith}
use Rattle.table_reader.specs.NameIndex.{names_of}
use Rattle.vehicle_classes.proofs.Named.{as_many}
use Rattle.vehicle_classes.proofs.table.Vehicles.len.Goals as goal

pub returns-clause-value : goal.returns-clause-value
returns-clause-value c =
    omega (arith, c.len.ensures, as_many (names_of c.self.inside.names) c.self.inside.vehicles.items c.args.self.now c.self.invariant.0 c.self.view_is)
