use Rattle.network_tables.proofs.JobRows.{five}
use Rattle.network_tables.proofs.jobs.five_fields.Goals as goal

pub returns : goal.returns
returns c = five _ _ _ _ _ _ c.requires c.field.ensures c.field-2.ensures c.field-3.ensures c.field-4.ensures c.field-5.ensures
