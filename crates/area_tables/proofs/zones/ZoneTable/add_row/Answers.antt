use Rattle.std.proofs.Common.{◌≡◌, List, ◌∷◌, ◌++◌, [], Some, None, cond, true, false, ap, sym, ◌∙◌, subst, refl}
use Rattle.std.specs.List.{last_or}
use Rattle.std.specs.Option.{IsSome, unwrap_or}
use Rattle.std.specs.Prelude.{OnOk, IfErr}
use Rattle.std.specs.Str.{bytes_eq}
use Rattle.route_base.specs.declared.faults.Cause.TheVariants.{NotRising}
use Rattle.zone_rules.specs.Zones.{is_later}
use Rattle.zone_rules.specs.declared.rows.ZoneRow.{ZoneRow}
use Rattle.table_reader.specs.NameIndex.{value_under}
use Rattle.table_reader.specs.Refusals.{IfBadCause}
use Rattle.area_tables.specs.Zones.{ZoneList}
use Rattle.area_tables.proofs.ZoneRows.{lookup_pushed, lookup_written, on_ok}
use Rattle.area_tables.proofs.zones.ZoneTable.add_row.Goals as goal

pub start-requires-clause-fresh : goal.start-requires-clause-fresh
start-requires-clause-fresh c = sym c.in-None.ensures.value

pub returns-in-Some-clause-later : goal.returns-in-Some-clause-later
returns-in-Some-clause-later c =
    let found = c.in-Some.ensures.value ∙ ap (λ (zones : ZoneList). value_under zones c.args.name.now) c.self.view_is in
    subst (λ (rows : List ZoneRow). OnOk c.push.result (is_later (last_or None rows) c.args.row ≡ true)) (ap (λ o. unwrap_or o []) found) c.push.ensures.later

pub returns-in-Some-clause-refused : goal.returns-in-Some-clause-refused
returns-in-Some-clause-refused c =
    let found = c.in-Some.ensures.value ∙ ap (λ (zones : ZoneList). value_under zones c.args.name.now) c.self.view_is in
    subst (λ (rows : List ZoneRow).
    IfErr c.push.result (λ e. IfBadCause e (λ cause. (cause ≡ NotRising) × (is_later (last_or None rows) c.args.row ≡ false))))
    (ap (λ o. unwrap_or o []) found) c.push.ensures.refused

pub returns-in-Some-clause-added : goal.returns-in-Some-clause-added
returns-in-Some-clause-added c =
    let name = c.args.name.now in
    let new = c.push.new.self in
    let here = c.in-Some.ensures.value in
    let found = here ∙ ap (λ (zones : ZoneList). value_under zones name) c.self.view_is in
    on_ok c.push.result (λ added other.
    lookup_written name other new c.self.inside.zones (subst IsSome here refl)
    ∙ ap (λ (zones : ZoneList). cond (bytes_eq other name) (Some new) (value_under zones other)) c.self.view_is
    ∙ ap (λ (rows : List ZoneRow). cond (bytes_eq other name) (Some rows) (value_under c.args.self.now other))
    (added ∙ ap (λ o. unwrap_or o [] ++ c.args.row ∷ []) found)) c.push.ensures.added

pub returns-in_ok-start-in-None-clause-later : goal.returns-in_ok-start-in-None-clause-later
returns-in_ok-start-in-None-clause-later c =
    let none = c.in-None.ensures.value ∙ ap (λ (zones : ZoneList). value_under zones c.args.name.now) c.self.view_is in
    sym (ap (λ o. is_later (last_or None (unwrap_or o [])) c.args.row) none)

pub returns-in_ok-start-in-None-clause-added : goal.returns-in_ok-start-in-None-clause-added
returns-in_ok-start-in-None-clause-added c = λ other.
    let name = c.args.name.now in
    let none = c.in-None.ensures.value ∙ ap (λ (zones : ZoneList). value_under zones name) c.self.view_is in
    let row = c.args.row ∷ [] in
    ap (λ (zones : ZoneList). value_under zones other) (c.in_ok-start-in-None.ensures ∙ ap (λ (zones : ZoneList). zones ++ (name, row) ∷ []) c.self.view_is)
    ∙ lookup_pushed c.args.self.now name other row (sym none)
    ∙ ap (λ o. cond (bytes_eq other name) (Some (unwrap_or o [] ++ row)) (value_under c.args.self.now other)) none
