use Rattle.std.proofs.Common.{◌≡◌, ◌⊎◌, None, Some, [], ◌∷◌, ◌++◌, sym, ap, subst, ◌∙◌}
use Rattle.std.specs.Prelude.{nat_eq}
use Rattle.std.specs.Map.{lookup}
use Rattle.indexmap.proofs.CallerLemmas.{insert_entry-new}
use Rattle.route_base.proofs.Logic.{none_from_test}
use Rattle.network_tables.specs.ParkRows.{ParkingSoFar}
use Rattle.network_tables.specs.declared.parks.RatedNode.{RatedNode}
use Rattle.network_tables.specs.declared.parks.TimetablePlace.{TimetablePlace}
use Rattle.network_tables.proofs.ParkLists.{inserted, same_place}
use Rattle.network_tables.specs.contracts.parks.TimetablePlacePartialEq.TheImpl as code_place
use Rattle.network_tables.proofs.parking.ParkingTable.put.Goals as goal

pub returns-clause-put : goal.returns-clause-put
returns-clause-put c =
    let none : lookup (nat_eq c.args.node) c.self.inside.rated.entries ≡ None = none_from_test _ (sym c.contains_key.ensures ∙ c.if-contains_key.false) in
    let stored = c.in_ok-timetable.ensures.stored in
    let node : RatedNode = record { weight = c.args.weight; timetable = c.in_ok-timetable.timetable } in
    record {
      timetable = c.in_ok-timetable.timetable;
      nodes = ap (λ (t : ParkingSoFar). t.nodes) c.self.view_is;
      ratings = ap (λ (t : ParkingSoFar). t.ratings) c.self.view_is;
      areas = ap (λ (t : ParkingSoFar). t.areas) c.self.view_is;
      hours = ap (λ (t : ParkingSoFar). t.hours) c.self.view_is;
      timetables =
          subst (λ (t : ParkingSoFar). (c.insert_full.new.self.keys ≡ t.timetables) ⊎ (c.insert_full.new.self.keys ≡ t.timetables ++ c.args.place ∷ []))
          c.self.view_is
          (inserted (code_place.ghosts).eq c.self.inside.timetables.keys c.insert_full.new.self.keys c.args.place c.in_ok-timetable.ensures.keys);
      there = stored.1 ∙ ap Some (sym (same_place c.args.place stored.0 stored.2));
      rated =
          c.in_ok-insert.ensures.entries ∙ insert_entry-new _ c.self.inside.rated c.args.node node none
          ∙ ap (λ (t : ParkingSoFar). t.rated ++ (c.args.node, node) ∷ []) c.self.view_is;
    }
