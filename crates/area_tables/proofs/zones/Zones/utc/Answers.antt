use Rattle.std.proofs.Common.{ap, ◌∙◌}
use Rattle.std.specs.Prelude.{codes}
use Rattle.std.specs.Option.{is_some}
use Rattle.area_tables.proofs.AreaRows.{place_is_some}
use Rattle.area_tables.proofs.zones.Zones.utc.Goals as goal

pub unwrap-requires : goal.unwrap-requires
unwrap-requires c = ap is_some c.place.ensures.place ∙ place_is_some c.self.inside.rows (codes "UTC") ∙ c.self.invariant
