use Rattle.std.proofs.Common.{sym, subst}
use Rattle.zone_rules.specs.Zones.{IsZone}
use Rattle.zone_rules.proofs.SoundZones.{zone_from_faultless}
use Rattle.zone_rules.proofs.zone.Zone.from_rows.Goals as goal

pub invariant_of-result : goal.invariant_of-result
invariant_of-result c = subst IsZone (sym c.in_ok-from_slice.ensures.items) (zone_from_faultless c.args.rows.now c.in_ok-check_rows.ensures.faultless)
