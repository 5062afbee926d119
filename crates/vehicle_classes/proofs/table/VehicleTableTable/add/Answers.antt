use Rattle.std.proofs.Common.{◌≡◌, true, false, Some, List, [], ◌∷◌, ◌++◌, ap, sym, ◌∙◌, subst, rules}
use Rattle.std.specs.Option.{is_some}
use Rattle.std.proofs.lemmas.Result.{on_ok_weaker}
use Rattle.csv.specs.Records.{fields_of}
use Rattle.table_reader.specs.NameIndex.{names_of}
use Rattle.table_reader.specs.Records.{Record}
use Rattle.table_reader.proofs.RowRefusals.{refused_weaker}
use Rattle.vehicle_classes.specs.VehicleParts.{NamedVehicles, HoldVehicles}
use Rattle.vehicle_classes.specs.Vehicles.{VehicleEntry, vehicle_of, vehicles_in, cause_of_vehicle}
use Rattle.vehicle_classes.proofs.VehicleRows.{cause_held, hold_more, vehicles_push}
use Rattle.vehicle_classes.proofs.table.VehicleTableTable.add.Goals as goal

pub returns-clause-faultless : goal.returns-clause-faultless
returns-clause-faultless c =
    let v : VehicleEntry = (c.in-Some.name.now, c.in-Some.vehicle) in
    let is : vehicle_of (fields_of c.args.row.now) ≡ Some v = search rules in
    on_ok_weaker c.add.result (λ free start before hold.
    ap (cause_of_vehicle (vehicles_in before)) is
    ∙ cause_held c.args.self.now (vehicles_in before) hold c.self.inside.names v false (ap (λ (t : NamedVehicles). t.names) c.self.view_is)
    (ap is_some free)) c.add.ensures.free

pub returns-clause-added : goal.returns-clause-added
returns-clause-added c =
    let v : VehicleEntry = (c.in-Some.name.now, c.in-Some.vehicle) in
    let is : vehicle_of (fields_of c.args.row.now) ≡ Some v = search rules in
    on_ok_weaker c.add.result (λ added start before hold.
    subst (λ (pairs : List VehicleEntry). HoldVehicles (record { names = names_of c.add.new.self; vehicles = c.push.new.self.items }) pairs)
    (vehicles_push before (fields_of c.args.row.now) v is)
    (hold_more c.args.self.now (vehicles_in before) hold c.self.inside.names c.add.new.self c.push.new.self.items v _
    (ap (λ (t : NamedVehicles). t.names) c.self.view_is) added
    (c.in_ok-push.ensures.items ∙ ap (λ (t : NamedVehicles). t.vehicles ++ c.in-Some.vehicle ∷ []) c.self.view_is))) c.add.ensures.added

pub returns-clause-refused : goal.returns-clause-refused
returns-clause-refused c =
    let v : VehicleEntry = (c.in-Some.name.now, c.in-Some.vehicle) in
    let is : vehicle_of (fields_of c.args.row.now) ≡ Some v = search rules in
    refused_weaker c.add.result _ (λ cause. (start : NamedVehicles) (before : List Record) → HoldVehicles c.args.self.now (vehicles_in before)
    → cause_of_vehicle (vehicles_in before) (vehicle_of (fields_of c.args.row.now)) ≡ Some cause)
    (λ cause taken start before hold.
    ap (cause_of_vehicle (vehicles_in before)) is
    ∙ cause_held c.args.self.now (vehicles_in before) hold c.self.inside.names v true (ap (λ (t : NamedVehicles). t.names) c.self.view_is) taken.1
    ∙ ap Some (sym taken.0)) c.add.ensures.refused
