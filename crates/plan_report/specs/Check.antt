-- The report of a verdict on a certificate (source: own).
use Rattle.std.specs.Prelude.{ℕ, List, ◌++◌, codes, decimal}
use Rattle.plan_report.specs.declared.outcomes.Verdict3.{Verdict3}
use Rattle.plan_report.specs.declared.outcomes.Verdict3.TheVariants.{Accepted, Rejected}

-- a certificate is accepted, with its number of pairs; or rejected, with the number of the first condition that fails
abbrev pub check_text_of : Verdict3 → ℕ → List ℕ
check_text_of Accepted pairs = codes "accepted " ++ decimal pairs ++ codes "\n"
check_text_of (Rejected number) pairs = codes "rejected " ++ decimal number ++ codes "\n"
