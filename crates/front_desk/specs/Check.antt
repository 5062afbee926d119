-- The judgement of the command that checks a certificate (source: own).
use Rattle.std.specs.Prelude.{◌≡◌, ℕ, ⊤, Option, None, List, length}
use Rattle.route_base.specs.Contents.{Contents}
use Rattle.route_base.specs.Front.{IsFront, pairs_of}
use Rattle.route_base.specs.Setting.{Setting}
use Rattle.route_base.specs.declared.faults.BadInput.{BadInput}
use Rattle.route_base.specs.declared.faults.RequestFault.{RequestFault}
use Rattle.route_base.specs.declared.types.Request.{Request}
use Rattle.certificate.specs.Writable.{IsCertificateText, IsNoCertificateText}
use Rattle.certificate.specs.declared.Certificate.{Certificate}
use Rattle.certificate_check.specs.Verdicts.{IsGood, FailsFirst}
use Rattle.plan_report.specs.Check.{check_text_of}
use Rattle.plan_report.specs.declared.outcomes.Verdict3.TheVariants.{Accepted, Rejected}
use Rattle.front_words.specs.declared.check.Check.{Check}
use Rattle.front_words.specs.declared.plan.Plan.{Plan}
use Rattle.network_folder.specs.Files.{bytes_at}
use Rattle.front_desk.specs.Plan.{trip_setting}
use Rattle.network_folder.specs.ReadingOrder.{certificate_file, first_fault_with, network_held}
use Rattle.front_desk.specs.Meaning.{Meaning, reads}
use Rattle.front_desk.specs.Trips.{failed_check, request_of}

-- the first fault of a check's files, of which the certificate is read last
abbrev pub check_fault : Check → Contents → Option BadInput
check_fault c held = first_fault_with (certificate_file c.name) held c.dir

-- the first check that the trip fails
abbrev pub check_check : Check → Contents → Option RequestFault
check_check c held = failed_check (network_held held c.dir) c.trip

-- the bytes of the certificate's file
abbrev pub certificate_held : Check → Contents → List ℕ
certificate_held c held = bytes_at held c.dir (certificate_file c.name)

-- the setting of a check: the roads of the folder's network for the trip's vehicle
abbrev pub check_setting : Check → Contents → Setting
check_setting c held = trip_setting (network_held held c.dir) c.trip

-- the bytes are the text of a good certificate
pub record IsGoodText (s : Setting) (request : Request) (bytes : List ℕ) : Type 0 where
  pub certificate : Certificate
  pub read : IsCertificateText bytes certificate
  pub good : IsGood s request certificate

-- the bytes are the text of a good certificate, whose pairs are the Pareto front of the trip; the text tells their number
pub record IsAccepted (s : Setting) (request : Request) (bytes text : List ℕ) : Type 0 where
  pub certificate : Certificate
  pub read : IsCertificateText bytes certificate
  pub good : IsGood s request certificate
  pub front : IsFront s request (pairs_of certificate.routes)
  pub is_text : text ≡ check_text_of Accepted (length certificate.routes)

-- why bytes are rejected: 0 for bytes that are no certificate's text, else the number of the first condition that fails
pub data FailsWith (s : Setting) (request : Request) (bytes : List ℕ) : ℕ → Type 0 where
  no_certificate : IsNoCertificateText bytes → FailsWith s request bytes 0
  condition_fails : (certificate : Certificate) (k : ℕ) → IsCertificateText bytes certificate → FailsFirst s request certificate k
      → FailsWith s request bytes k

-- the text tells why the bytes are rejected, and no number of pairs
pub record IsRejected (s : Setting) (request : Request) (bytes text : List ℕ) : Type 0 where
  pub number : ℕ
  pub fails : FailsWith s request bytes number
  pub is_text : text ≡ check_text_of (Rejected number) 0

-- the text accepts the file's certificate
abbrev pub AcceptsCertificate : Check → Contents → List ℕ → Type 0
AcceptsCertificate c held text = IsAccepted (check_setting c held) (request_of c.trip) (certificate_held c held) text

-- the text rejects the file
abbrev pub RejectsCertificate : Check → Contents → List ℕ → Type 0
RejectsCertificate c held text = IsRejected (check_setting c held) (request_of c.trip) (certificate_held c held) text

-- the check of the certificate that the plan writes under this name
abbrev pub check_of_plan : Plan → List ℕ → Check
check_of_plan p name = record { dir = p.dir; trip = p.trip; name = name }

-- the files of the check have no fault, its trip passes all checks, and its certificate is a good one
pub record HasGoodCertificate (c : Check) (held : Contents) : Type 0 where
  pub faultless : check_fault c held ≡ None
  pub passed : check_check c held ≡ None
  pub good : IsGoodText (check_setting c held) (request_of c.trip) (certificate_held c held)

-- the meaning of `check`, which may reject the certificate
abbrev pub check_meaning : Check → Meaning
check_meaning c = record (reads (check_fault c) (check_check c) (AcceptsCertificate c)) {
  judges = ⊤;
  rejects = RejectsCertificate c;
}
