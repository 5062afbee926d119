-- Each row of a table of jobs without a fault has its job.
use Rattle.std.proofs.Common.{◌≡◌, ℕ, ◌++◌, Bool, true, false, Option, Some, None, List, [], ◌∷◌, length, refl, subst}
use Rattle.std.specs.List.{AllZip, cons_option}
use Rattle.std.specs.Prelude.{◌==◌, nat_lt, if◌then◌else◌}
use Rattle.route_base.specs.declared.faults.Cause.TheVariants.{BadHeader, FieldCount, SizeLimit}
use Rattle.route_base.proofs.Logic.{no_first, no_second, none_mapped}
use Rattle.table_reader.specs.Records.{Record, records_of, rows_in, rows_of}
use Rattle.table_reader.specs.Schema.{cause_after, first_table_fault, is_header, row_fault_from}
use Rattle.network_tables.specs.Jobs.{cause_of_job, job_of, jobs_in, jobs_schema}
use Rattle.network_tables.specs.declared.jobs.Job.{Job}
use Rattle.network_tables.specs.declared.limits.TheConstants.{MOST_JOBS}

-- the row has this job
abbrev HasJob : Record → Job → Type 0
HasJob row job = job_of row ≡ Some job

module _ (header : Record) where
  -- a row without a job has a cause
  without : (fits room : Bool) → (if fits then (if room then cause_of_job None else Some SizeLimit) else Some FieldCount) ≡ None → ⊥
  without true true none = cc
  without true false none = cc
  without false room none = cc

  one_more : (before : List Record) (row : Record) (rows : List Record) (o : Option Job) → job_of row ≡ o
      → cause_after jobs_schema header before row ≡ None → AllZip HasJob rows (jobs_in rows)
      → AllZip HasJob (row ∷ rows) (cons_option o (jobs_in rows))
  one_more before row rows None is none rest =
      absurd (without (length row == length header) (nat_lt (length before) MOST_JOBS)
      (subst (λ (o : Option Job). (if length row == length header then (if nat_lt (length before) MOST_JOBS then cause_of_job o else Some SizeLimit)
      else Some FieldCount) ≡ None) is none))
  one_more before row rows (Some job) is none rest = (is, rest)

  each_row : (before rows : List Record) → row_fault_from jobs_schema header before rows ≡ None → AllZip HasJob rows (jobs_in rows)
  each_row before [] none = tt
  each_row before (row ∷ rows) none =
      let here = no_first _ _ none in
      let later = no_second _ _ none in
      one_more before row rows (job_of row) refl (none_mapped _ _ here) (each_row (before ++ row ∷ []) rows later)

in_records : (records : List Record) → first_table_fault jobs_schema records ≡ None
    → AllZip HasJob (rows_in records) (jobs_in (rows_in records))
unfolding first_table_fault
in_records [] none = tt
in_records (header ∷ rows) none = by (is_header jobs_schema.headers header) none
  where
    by : (known : Bool) → (if known then row_fault_from jobs_schema header [] rows else Some (1, BadHeader)) ≡ None → AllZip HasJob rows (jobs_in rows)
    by true none = each_row header [] rows none
    by false none = absurd (cc)

pub job_of_row : (bytes : List ℕ) → first_table_fault jobs_schema (records_of bytes) ≡ None
    → AllZip (λ row job. job_of row ≡ Some job) (rows_of bytes) (jobs_in (rows_of bytes))
job_of_row bytes none = in_records (records_of bytes) none
