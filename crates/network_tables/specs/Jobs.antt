-- The table of jobs: the trips of a batch, each of a vehicle (source: own).
use Rattle.std.specs.Prelude.{ℕ, Option, Some, None, List, [], ◌∷◌, codes, if◌then◌else◌}
use Rattle.std.specs.List.{filter_map}
use Rattle.std.specs.Option.{option_map, option_and_then}
use Rattle.route_base.specs.Forms.{is_name, table_number_of}
use Rattle.route_base.specs.Time.{IsInstant}
use Rattle.route_base.specs.declared.faults.Cause.{Cause}
use Rattle.route_base.specs.declared.faults.Cause.TheVariants.{BadField}
use Rattle.calendar_days.specs.Texts.{instant_of}
use Rattle.network_tables.specs.declared.jobs.Job.{Job}
use Rattle.network_tables.specs.declared.limits.TheConstants.{MOST_JOBS}
use Rattle.table_reader.specs.Schema.{Schema}
use Rattle.table_reader.specs.Records.{Record}

-- the job of a vehicle's name, two nodes and two minutes
abbrev pub job_from : List ℕ → ℕ → ℕ → ℕ → ℕ → Job
job_from vehicle origin goal depart until = record {
  vehicle = vehicle;
  origin = origin;
  goal = goal;
  depart = depart;
  until = until;
}

-- a name, two numbers and two instants
abbrev pub job_of : Record → Option Job
job_of (vehicle ∷ from ∷ to ∷ depart ∷ until ∷ []) =
    if is_name vehicle
    then option_and_then (λ origin. option_and_then (λ goal. option_and_then (λ start. option_map (λ last.
    job_from vehicle origin goal start last)
    (instant_of until)) (instant_of depart)) (table_number_of to)) (table_number_of from)
    else None
job_of others = None

-- each field has its form; no vehicle and no node is looked up
abbrev pub cause_of_job : Option Job → Option Cause
cause_of_job None = Some BadField
cause_of_job (Some job) = None

-- a vehicle, the two ends of its trip, the departure and the latest arrival
abbrev pub jobs_schema : Schema
jobs_schema = record {
  headers = (codes "vehicle" ∷ codes "from" ∷ codes "to" ∷ codes "depart" ∷ codes "until" ∷ []) ∷ [];
  limit = MOST_JOBS;
  cause = λ header before row. cause_of_job (job_of row);
}

-- the jobs of these rows in their order
abbrev pub jobs_in : List Record → List Job
jobs_in rows = filter_map job_of rows

-- the departure and the latest arrival are instants
pub record IsTimedJob (job : Job) : Type 0 where
  pub depart : IsInstant job.depart
  pub until : IsInstant job.until
