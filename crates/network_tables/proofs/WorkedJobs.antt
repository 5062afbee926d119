-- Worked tables of jobs: what the definitions say of them, by computing.
use Rattle.std.proofs.Common.{◌≡◌, ℕ, List, [], ◌∷◌, Some, None, refl}
use Rattle.std.specs.Prelude.{codes}
use Rattle.route_base.specs.declared.faults.Cause.TheVariants.{BadHeader, FieldCount, SizeLimit, BadField}
use Rattle.calendar_days.specs.Days.{days_of_years, days_of_months}
use Rattle.calendar_days.specs.Texts.{instant_of, day_of_text, clock_of}
use Rattle.table_reader.specs.Records.{Record, rows_in}
use Rattle.table_reader.specs.Schema.{Schema, first_table_fault}
use Rattle.network_tables.specs.Jobs.{job_from, jobs_in, jobs_schema}

abbrev jobs_header : Record
jobs_header = codes "vehicle" ∷ codes "from" ∷ codes "to" ∷ codes "depart" ∷ codes "until" ∷ []

-- a row whose trip is from 2020-07-04T00:00Z to 06:40Z
abbrev job_row : List ℕ → List ℕ → List ℕ → Record
job_row vehicle from to = vehicle ∷ from ∷ to ∷ codes "26563680" ∷ codes "26564080" ∷ []

abbrev three_jobs : List Record
three_jobs = jobs_header ∷ job_row (codes "any") (codes "1") (codes "3") ∷ job_row (codes "x") (codes "01") (codes "3") ∷ job_row (codes "any") (codes "3")
    (codes "1") ∷ []

jobs_faultless : first_table_fault jobs_schema three_jobs ≡ None
unfolding first_table_fault instant_of
jobs_faultless = refl

jobs_stated : jobs_in (rows_in three_jobs) ≡ job_from (codes "any") 1 3 26563680 26564080 ∷ job_from (codes "x") 1 3 26563680 26564080
    ∷ job_from (codes "any") 3 1 26563680 26564080 ∷ []
unfolding instant_of
jobs_stated = refl

-- instants as texts, and the highest number
texts_stated : jobs_in ((codes "x" ∷ codes "0" ∷ codes "4294967295" ∷ codes "2020-07-04T00:00Z" ∷ codes "2020-07-04T06:40:00Z" ∷ []) ∷ [])
    ≡ job_from (codes "x") 0 4294967295 26563680 26564080 ∷ []
unfolding instant_of day_of_text clock_of days_of_years days_of_months
texts_stated = refl

header_of_others : first_table_fault jobs_schema ((codes "vehicle" ∷ codes "from" ∷ codes "to" ∷ []) ∷ []) ≡ Some (1, BadHeader)
unfolding first_table_fault
header_of_others = refl

no_vehicle : first_table_fault jobs_schema (jobs_header ∷ job_row (codes "any") (codes "1") (codes "3") ∷ job_row [] (codes "1") (codes "3") ∷ []) ≡ Some
    (3, BadField)
unfolding first_table_fault instant_of
no_vehicle = refl

number_too_large : first_table_fault jobs_schema (jobs_header ∷ job_row (codes "any") (codes "1") (codes "4294967296") ∷ []) ≡ Some (2, BadField)
unfolding first_table_fault instant_of
number_too_large = refl

number_too_long : first_table_fault jobs_schema (jobs_header ∷ job_row (codes "any") (codes "00000000001") (codes "3") ∷ []) ≡ Some (2, BadField)
unfolding first_table_fault instant_of
number_too_long = refl

no_instant : first_table_fault jobs_schema
    (jobs_header ∷ (codes "any" ∷ codes "1" ∷ codes "3" ∷ codes "525600" ∷ codes "0525600" ∷ []) ∷ []) ≡ Some (2, BadField)
unfolding first_table_fault instant_of day_of_text
no_instant = refl

-- a law with room for one row: the number of fields comes before the number of rows, and that before a field's form
abbrev one_job : Schema
one_job = record jobs_schema { limit = 1 }

job_too_many : first_table_fault one_job (jobs_header ∷ job_row (codes "x") (codes "1") (codes "3") ∷ job_row [] [] [] ∷ []) ≡ Some (3, SizeLimit)
unfolding first_table_fault instant_of
job_too_many = refl

job_too_short : first_table_fault one_job (jobs_header ∷ job_row (codes "x") (codes "1") (codes "3") ∷ (codes "x" ∷ []) ∷ []) ≡ Some (3, FieldCount)
unfolding first_table_fault instant_of
job_too_short = refl
