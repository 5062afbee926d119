use Rattle.std.proofs.Common.{◌≡◌, List, None, true, ap, ◌∙◌, rules}
use Rattle.std.specs.List.{last_or}
use Rattle.zone_rules.specs.Zones.{zone_fault_of, is_later}
use Rattle.zone_rules.specs.declared.rows.ZoneRow.{ZoneRow}
use Rattle.zone_rules.proofs.GrowingZones.{faultless_grown}
use Rattle.area_tables.proofs.zones.rows.ZoneRows.push.Goals as goal

pub invariant_of-self-2 : goal.invariant_of-self-2
invariant_of-self-2 c =
    let later : is_later (last_or None c.args.self.now) c.args.row ≡ true = search rules in
    ap zone_fault_of c.in_ok-push.ensures.items
    ∙ faultless_grown c.self.inside.rows.items c.args.row c.self.invariant c.requires
    (ap (λ (rows : List ZoneRow). is_later (last_or None rows) c.args.row) c.self.view_is ∙ later)
