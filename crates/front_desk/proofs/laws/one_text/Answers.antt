use Rattle.std.proofs.Common.{List, ℕ, sym, subst, ◌∙◌}
use Rattle.route_base.proofs.OneAnswer.{one_answer}
use Rattle.table_reader.specs.Records.{rows_of}
use Rattle.network_tables.specs.Jobs.{jobs_in}
use Rattle.network_folder.specs.Files.{bytes_at}
use Rattle.network_folder.specs.ReadingOrder.{jobs_file, network_held}
use Rattle.front_desk.specs.Batch.{IsBatchText, jobs_held, trip_of_job}
use Rattle.front_desk.specs.Plan.{trip_setting}
use Rattle.front_desk.specs.Trips.{failed_check, request_of}
use Rattle.front_desk.proofs.Meanings.{sound}
use Rattle.front_desk.proofs.OneOutcome.{one_due}
use Rattle.front_desk.proofs.OneText.{one_batch, one_trip}
use Rattle.front_desk.proofs.laws.one_text.Goals as goal

pub returns-clause-command : goal.returns-clause-command
returns-clause-command c = λ command held after other x y first second. (sound command).one held after other x y first second

pub returns-clause-words : goal.returns-clause-words
returns-clause-words c = λ words held old new before after status other x y is is_too first second.
    one_due words held old new before after status other x y is is_too first second

pub returns-clause-job : goal.returns-clause-job
returns-clause-job c = λ network job x y first second. one_trip network (trip_of_job job) (failed_check network (trip_of_job job)) x y first second

pub returns-clause-workers : goal.returns-clause-workers
returns-clause-workers c = λ batch other held x y dir jobs first second.
    let by_jobs = subst (λ (name : List ℕ). IsBatchText (network_held held other.dir) (jobs_in (rows_of (bytes_at held other.dir (jobs_file name)))) y)
    (sym jobs) second in
    one_batch (network_held held batch.dir) (jobs_held batch held) x y first
    (subst (λ (folder : List ℕ). IsBatchText (network_held held folder) (jobs_in (rows_of (bytes_at held folder (jobs_file batch.jobs)))) y)
    (sym dir) by_jobs)

pub returns-clause-certificates : goal.returns-clause-certificates
returns-clause-certificates c = λ plan name held after other one two.
    one.certified.certifies.same
    ∙ one_answer (trip_setting (network_held held plan.dir) plan.trip) (request_of plan.trip) one.routes two.routes one.right two.right
    ∙ sym two.certified.certifies.same
