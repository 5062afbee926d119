use Rattle.std.proofs.Common.{List, length, ap, ◌∙◌, sym, arith}
use Rattle.std.specs.Prelude.{slice_get}
use Rattle.std.proofs.lemmas.Option.{slice_get_read}
use Rattle.table_reader.specs.NameIndex.{names_of}
use Rattle.vehicle_classes.specs.VehicleModel.{VehicleModel}
use Rattle.vehicle_classes.proofs.Named.{as_many, values_seen}
use Rattle.vehicle_classes.proofs.table.Vehicles.vehicle.Goals as goal

pub index-requires : goal.index-requires
index-requires c =
    omega (arith, c.requires, as_many (names_of c.self.inside.names) c.self.inside.vehicles.items c.args.self.now c.self.invariant.0 c.self.view_is)

pub returns : goal.returns
returns c =
    let many = as_many (names_of c.self.inside.names) c.self.inside.vehicles.items c.args.self.now c.self.invariant.0 c.self.view_is in
    ap (λ (vs : List VehicleModel). slice_get vs c.args.i)
    (values_seen (names_of c.self.inside.names) c.self.inside.vehicles.items c.args.self.now c.self.invariant.0 c.self.view_is)
    ∙ slice_get_read c.self.inside.vehicles.items (length c.args.self.now) c.args.i c.index.result.now (sym many) c.requires c.index.ensures
