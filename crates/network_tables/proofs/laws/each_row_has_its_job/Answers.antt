use Rattle.network_tables.proofs.JobOfRow.{job_of_row}
use Rattle.network_tables.proofs.laws.each_row_has_its_job.Goals as goal

pub returns : goal.returns
returns c = job_of_row
