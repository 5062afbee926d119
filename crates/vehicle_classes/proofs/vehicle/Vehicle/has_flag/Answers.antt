use Rattle.std.proofs.Common.{ℕ, List, Vec, Global, ap, sym, ◌∙◌}
use Rattle.std.specs.List.{list_any}
use Rattle.std.specs.Str.{bytes_eq}
use Rattle.vehicle_classes.specs.VehicleModel.{VehicleModel, has_flag}
use Rattle.vehicle_classes.proofs.VehicleRows.{any_seen}
use Rattle.vehicle_classes.proofs.vehicle.Vehicle.has_flag.Goals as goal

pub returns : goal.returns
returns c =
    let word = c.args.word.now in
    c.is_among.ensures
    ∙ ap (λ (fs : List (Vec ℕ Global)). list_any (λ flag. bytes_eq word flag.items) fs) c.deref.ensures.value
    ∙ sym (any_seen (λ (f : Vec ℕ Global). f.items) (bytes_eq word) c.self.inside.flags.items)
    ∙ ap (λ (v : VehicleModel). has_flag v word) c.self.view_is
