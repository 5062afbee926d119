use Rattle.std.proofs.Common.{◌<◌, ℕ, List, IfSome, ap, sym, ◌∙◌, subst}
use Rattle.std.proofs.lemmas.List.{length-map}
use Rattle.table_reader.specs.NameIndex.{names_of, place_among}
use Rattle.vehicle_classes.proofs.Named.{names_seen, as_many}
use Rattle.vehicle_classes.proofs.table.Vehicles.find.Goals as goal

pub returns-clause-place : goal.returns-clause-place
returns-clause-place c =
    c.place.ensures.place
    ∙ ap (λ (ns : List (List ℕ)). place_among ns c.args.name.now)
    (sym (names_seen (names_of c.self.inside.names) c.self.inside.vehicles.items c.args.self.now c.self.invariant.0 c.self.view_is))

pub returns-clause-within : goal.returns-clause-within
returns-clause-within c =
    subst (λ (n : ℕ). IfSome c.place.result (λ i. i < n))
    (sym (length-map c.self.inside.names (λ e. e.0)) ∙ sym c.self.invariant.0
    ∙ as_many (names_of c.self.inside.names) c.self.inside.vehicles.items c.args.self.now c.self.invariant.0 c.self.view_is)
    c.place.ensures.within
