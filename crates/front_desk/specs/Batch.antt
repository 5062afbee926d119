-- The texts of the command that plans a table of jobs (source: own).
use Rattle.std.specs.Prelude.{◌≡◌, ℕ, Option, Some, None, List, length, IfSome, slice_get}
use Rattle.std.specs.Option.{option_or}
use Rattle.route_base.specs.Contents.{Contents}
use Rattle.route_base.specs.Front.{IsRight}
use Rattle.route_base.specs.Setting.{Setting}
use Rattle.route_base.specs.declared.faults.BadInput.{BadInput}
use Rattle.route_base.specs.declared.faults.FileKind.TheVariants.{Jobs as JobsKind}
use Rattle.route_base.specs.declared.faults.RequestFault.{RequestFault}
use Rattle.route_base.specs.declared.types.Form.TheVariants.{Plain}
use Rattle.route_base.specs.declared.types.Route.{Route}
use Rattle.table_reader.specs.Records.{rows_of}
use Rattle.network_tables.specs.Jobs.{jobs_in, jobs_schema}
use Rattle.network_tables.specs.NetworkFiles.{table_fault}
use Rattle.network_tables.specs.NetworkModel.{NetworkModel}
use Rattle.network_tables.specs.declared.jobs.Job.{Job}
use Rattle.plan_report.specs.Batch.{batch_text_of}
use Rattle.plan_report.specs.Refusals.{refusal_text_of}
use Rattle.plan_report.specs.Reports.{report_text}
use Rattle.plan_report.specs.declared.outcomes.Refusal.TheVariants.{Request as RequestRefusal}
use Rattle.front_words.specs.declared.batch.Batch.{Batch}
use Rattle.network_folder.specs.Files.{bytes_at}
use Rattle.front_desk.specs.Plan.{trip_setting}
use Rattle.network_folder.specs.ReadingOrder.{jobs_file, first_fault_with, network_held}
use Rattle.front_desk.specs.Meaning.{Meaning, reads, without_request}
use Rattle.front_desk.specs.Trips.{Trip, failed_check, request_of}

-- the bytes of the table of jobs
abbrev pub jobs_bytes : Batch → Contents → List ℕ
jobs_bytes b held = bytes_at held b.dir (jobs_file b.jobs)

-- the jobs of the folder's table
abbrev pub jobs_held : Batch → Contents → List Job
jobs_held b held = jobs_in (rows_of (jobs_bytes b held))

-- the first fault of a table of jobs
abbrev pub jobs_fault : List ℕ → Option BadInput
jobs_fault bytes = table_fault JobsKind jobs_schema bytes

-- the first fault of a batch's files, of which the table of jobs is read last: it is judged last, too
abbrev pub batch_fault : Batch → Contents → Option BadInput
batch_fault b held = option_or (first_fault_with (jobs_file b.jobs) held b.dir) (jobs_fault (jobs_bytes b held))

-- the trip of a job
abbrev pub trip_of_job : Job → Trip
trip_of_job job = record { vehicle = job.vehicle; origin = job.origin; goal = job.goal; depart = job.depart; until = job.until }

-- the text reports right routes of the trip, the Pareto front with a lawful itinerary for each pair, in plain lines
pub record IsTripReport (s : Setting) (trip : Trip) (text : List ℕ) : Type 0 where
  pub routes : List Route
  pub right : IsRight s (request_of trip) routes
  pub is_text : text ≡ report_text Plain s (request_of trip) routes

-- the text reports a trip that passes all checks, or is the refusal of one that fails a check
abbrev pub IsTripText : NetworkModel → Trip → Option RequestFault → List ℕ → Type 0
IsTripText network trip None text = IsTripReport (trip_setting network trip) trip text
IsTripText network trip (Some fault) text = text ≡ refusal_text_of (RequestRefusal fault)

-- a right text of a job
abbrev pub IsJobText : NetworkModel → Job → List ℕ → Type 0
IsJobText network job text = IsTripText network (trip_of_job job) (failed_check network (trip_of_job job)) text

-- a right text of the job at a place
abbrev pub IsTextAt : NetworkModel → List Job → ℕ → List ℕ → Type 0
IsTextAt network jobs k text = IfSome (slice_get jobs k) (λ job. IsJobText network job text)

-- there is one right text for each job, and the text has them in the order of the jobs
pub record IsBatchText (network : NetworkModel) (jobs : List Job) (text : List ℕ) : Type 0 where
  pub texts : List (List ℕ)
  pub count : length texts ≡ length jobs
  pub each : (k : ℕ) (job_text : List ℕ) → slice_get texts k ≡ Some job_text → IsTextAt network jobs k job_text
  pub is_text : text ≡ batch_text_of texts

-- the text answers the jobs of the folder's table over the folder's network
abbrev pub IsBatchReport : Batch → Contents → List ℕ → Type 0
IsBatchReport b held text = IsBatchText (network_held held b.dir) (jobs_held b held) text

-- the meaning of `batch`: each of its jobs has a request, whose refusal is the text of the job
abbrev pub batch_meaning : Batch → Meaning
batch_meaning b = without_request (reads (batch_fault b) (λ held. None) (IsBatchReport b))
