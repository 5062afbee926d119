use Rattle.std.proofs.Common.{ap, ◌∙◌}
use Rattle.zone_rules.specs.Zones.{zone_fault_of}
use Rattle.zone_rules.proofs.GrowingZones.{faultless_one}
use Rattle.area_tables.proofs.zones.rows.ZoneRows.new.Goals as goal

pub invariant_of-result : goal.invariant_of-result
invariant_of-result c = ap zone_fault_of c.in_ok-vec.ensures.items ∙ faultless_one c.args.row c.requires
