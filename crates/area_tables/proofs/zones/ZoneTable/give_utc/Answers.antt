use Rattle.std.proofs.Common.{ap, sym, ◌∙◌}
use Rattle.std.specs.Prelude.{codes}
use Rattle.std.specs.Option.{is_some}
use Rattle.route_base.proofs.Logic.{none_from_test}
use Rattle.table_reader.specs.NameIndex.{value_under}
use Rattle.area_tables.specs.Zones.{ZoneList}
use Rattle.area_tables.proofs.ZoneRows.{HasZones-there, HasZones-given, lookup_pushed, on_ok}
use Rattle.area_tables.proofs.zones.ZoneTable.give_utc.Goals as goal

pub returns-then-contains : goal.returns-then-contains
returns-then-contains c =
    let there =
    sym (ap (λ (zones : ZoneList). is_some (value_under zones (codes "UTC"))) c.self.view_is) ∙ sym c.contains.ensures ∙ c.if-contains.true in
    record { there = there; zones = λ entries has. HasZones-there c.args.self.now entries has there }

pub start-requires-clause-fresh : goal.start-requires-clause-fresh
start-requires-clause-fresh c =
    none_from_test _ (sym (ap (λ (zones : ZoneList). is_some (value_under zones (codes "UTC"))) c.self.view_is) ∙ sym c.contains.ensures ∙ c.if-contains.false)

pub returns : goal.returns
returns c =
    let zones = c.args.self.now in
    let none =
    none_from_test (value_under zones (codes "UTC"))
    (sym (ap (λ (z : ZoneList). is_some (value_under z (codes "UTC"))) c.self.view_is) ∙ sym c.contains.ensures ∙ c.if-contains.false) in
    record {
      there = on_ok c.start.result (λ added.
          ap (λ (z : ZoneList). is_some (value_under z (codes "UTC"))) added
          ∙ ap (λ o. is_some o) (lookup_pushed zones (codes "UTC") (codes "UTC") _ none)) c.start.ensures;
      zones = on_ok c.start.result (λ added entries has.
          HasZones-given zones entries has c.start.new.self none (λ other.
          ap (λ (z : ZoneList). value_under z other) added ∙ lookup_pushed zones (codes "UTC") other _ none)) c.start.ensures;
    }
