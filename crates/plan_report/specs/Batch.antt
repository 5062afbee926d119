-- The report of a batch (source: own).
use Rattle.std.specs.Prelude.{ℕ, List, ◌++◌, codes, decimal}
use Rattle.plan_report.specs.Stages.{numbered_text}

-- the line of job n, and then its text
abbrev pub job_text : ℕ → List ℕ → List ℕ
job_text n text = codes "job " ++ decimal n ++ codes "\n" ++ text

-- the jobs' texts, numbered from 1
abbrev pub batch_text_of : List (List ℕ) → List ℕ
batch_text_of texts = numbered_text job_text 1 texts
