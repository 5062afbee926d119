use Rattle.std.proofs.Common.{◌≡◌, List, Option, None, ◌-◌, length, sym, ap, ◌∙◌}
use Rattle.std.specs.List.{last_or, slice_get}
use Rattle.zone_rules.specs.Zones.{is_later}
use Rattle.zone_rules.specs.declared.rows.ZoneRow.{ZoneRow}
use Rattle.area_tables.proofs.ZoneRows.{last_place}
use Rattle.area_tables.proofs.zones.rows.ZoneRows.ends_before.Goals as goal

-- the last row that the code finds is that of the zone
last_found : (found : Option ZoneRow) (held rows : List ZoneRow) (row : ZoneRow) → found ≡ slice_get held (length held - 1) → held ≡ rows
    → is_later found row ≡ is_later (last_or None rows) row
last_found found held rows row is same =
    ap (λ (o : Option ZoneRow). is_later o row)
    (is ∙ ap (λ (list : List ZoneRow). slice_get list (length list - 1)) same ∙ sym (last_place rows))

pub returns-in-Some : goal.returns-in-Some
returns-in-Some c = last_found _ _ _ c.args.row c.in-Some.ensures.value (c.deref.ensures.value ∙ c.self.view_is)

pub returns-in-None : goal.returns-in-None
returns-in-None c = last_found _ _ _ c.args.row c.in-None.ensures.value (c.deref.ensures.value ∙ c.self.view_is)
