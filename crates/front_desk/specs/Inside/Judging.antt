-- The report on a certificate's file (source: own).
use Rattle.std.specs.Prelude.{◌≡◌, ℕ, true, false, List, length}
use Rattle.route_base.specs.Setting.{Setting}
use Rattle.route_base.specs.declared.types.Request.{Request}
use Rattle.certificate.specs.declared.Certificate.{Certificate}
use Rattle.certificate_check.specs.declared.checker.Verdict.{Verdict}
use Rattle.certificate_check.specs.declared.checker.Verdict.TheVariants.{Accepted, Rejected}
use Rattle.plan_report.specs.Check.{check_text_of}
use Rattle.plan_report.specs.declared.outcomes.Verdict3.TheVariants.{Accepted as Accepted3, Rejected as Rejected3}
use Rattle.front_desk.specs.Check.{IsAccepted, IsRejected}
use Rattle.front_desk.specs.declared.outcome.Report.{Report}

-- the report tells the verdict on a certificate
abbrev pub Tells : Certificate → Verdict → Report → Type 0
Tells certificate Accepted report = (report.rejects ≡ false) × (report.text.items ≡ check_text_of Accepted3 (length certificate.routes))
Tells certificate (Rejected number) report = (report.rejects ≡ true) × (report.text.items ≡ check_text_of (Rejected3 number) 0)

-- the report accepts the bytes, or rejects them
pub record IsJudged (s : Setting) (request : Request) (bytes : List ℕ) (report : Report) : Type 0 where
  pub accepted : report.rejects ≡ false → IsAccepted s request bytes report.text.items
  pub rejected : report.rejects ≡ true → IsRejected s request bytes report.text.items
