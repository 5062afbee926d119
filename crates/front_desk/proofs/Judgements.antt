-- The report on a certificate's file judges it.
use Rattle.std.proofs.Common.{◌≡◌, ℕ, true, None, List, Ok, refl, ap, sym, subst, ◌∙◌}
use Rattle.std.proofs.lemmas.Bool.{both_ways}
use Rattle.route_base.specs.Front.{IsFront, pairs_of}
use Rattle.route_base.specs.Setting.{Setting}
use Rattle.route_base.specs.declared.types.Pair.{Pair}
use Rattle.route_base.specs.declared.types.Request.{Request}
use Rattle.certificate.specs.Writable.{IsCertificateText, IsNoCertificateText}
use Rattle.certificate.specs.declared.Certificate.{Certificate}
use Rattle.certificate_check.specs.Verdicts.{IsVerdict}
use Rattle.certificate_check.specs.declared.checker.Verdict.{Verdict}
use Rattle.certificate_check.specs.declared.checker.Verdict.TheVariants.{Accepted, Rejected}
use Rattle.route_base.specs.FolderState.{FolderState, KeepsFiles}
use Rattle.network_tables.specs.NetworkModel.{NetworkModel}
use Rattle.plan_report.specs.Check.{check_text_of}
use Rattle.plan_report.specs.declared.outcomes.Verdict3.TheVariants.{Rejected as Rejected3}
use Rattle.front_desk.specs.Check.{no_certificate, condition_fails, check_check, check_fault, check_setting, certificate_held}
use Rattle.front_desk.specs.Check.{FailsWith, IsAccepted, IsRejected}
use Rattle.front_words.specs.declared.check.Check.{Check}
use Rattle.front_desk.specs.Check.{check_meaning}
use Rattle.network_folder.specs.Files.{IfTold}
use Rattle.front_desk.specs.Inside.Ending.{Ends, ReportsOn}
use Rattle.front_desk.proofs.Ending.{kept_rises}
use Rattle.front_desk.specs.Inside.Judging.{Tells, IsJudged}
use Rattle.front_desk.specs.Plan.{trip_setting}
use Rattle.network_folder.specs.ReadingOrder.{network_held}
use Rattle.front_desk.specs.Trips.{failed_check, request_of}
use Rattle.front_desk.specs.declared.outcome.Report.{Report}
use Rattle.front_desk.specs.Inside.Sound.{IsSound}
use Rattle.front_desk.specs.Check.{AcceptsCertificate}
use Rattle.front_desk.proofs.OneText.{one_check}
use Rattle.front_desk.proofs.OneVerdict.{never_rejected, one_rejection}
use Rattle.front_desk.proofs.Sound.{reads_sound}

module _ (s : Setting) (request : Request) (bytes : List ℕ) (report : Report) where
  pub judged_by : (certificate : Certificate) → IsCertificateText bytes certificate → (verdict : Verdict) → IsVerdict s request certificate verdict
      → (verdict ≡ Accepted → IsFront s request (pairs_of certificate.routes)) → Tells certificate verdict report
      → IsJudged s request bytes report
  judged_by certificate read Accepted good sound tells = record {
    accepted = λ _. record { certificate = certificate; read = read; good = good; front = sound refl; is_text = tells.1 };
    rejected = λ rejects. absurd (both_ways report.rejects tells.0 rejects);
  }
  judged_by certificate read (Rejected k) fails sound tells = record {
    accepted = λ accepts. absurd (both_ways report.rejects accepts tells.0);
    rejected = λ _. record { number = k; fails = condition_fails certificate k read fails; is_text = tells.1 };
  }

  -- no certificate has the bytes as its text
  pub judged_unread : IsNoCertificateText bytes → report.rejects ≡ true → report.text.items ≡ check_text_of (Rejected3 0) 0
      → IsJudged s request bytes report
  judged_unread none rejects is_text = record {
    accepted = λ accepts. absurd (both_ways report.rejects accepts rejects);
    rejected = λ _. record { number = 0; fails = no_certificate none; is_text = is_text };
  }

-- a report that judges bytes in one setting judges them in each that has the same verdicts and fronts
module _ (s z : Setting) (request : Request)
    (verdicts : (c : Certificate) (v : Verdict) → IsVerdict s request c v → IsVerdict z request c v)
    (fronts : (pairs : List Pair) → IsFront s request pairs → IsFront z request pairs) where
  fails_there : (bytes : List ℕ) (k : ℕ) → FailsWith s request bytes k → FailsWith z request bytes k
  fails_there bytes _ (no_certificate none) = no_certificate none
  fails_there bytes _ (condition_fails certificate k read fails) =
      condition_fails certificate k read (verdicts certificate (Rejected k) fails)

  pub judged_there : (bytes : List ℕ) (report : Report) → IsJudged s request bytes report → IsJudged z request bytes report
  judged_there bytes report judged = record {
    accepted = λ accepts. let a = judged.accepted accepts in record {
      certificate = a.certificate;
      read = a.read;
      good = verdicts a.certificate Accepted a.good;
      front = fronts (pairs_of a.certificate.routes) a.front;
      is_text = a.is_text;
    };
    rejected = λ rejects. let r = judged.rejected rejects in record {
      number = r.number;
      fails = fails_there bytes r.number r.fails;
      is_text = r.is_text;
    };
  }

module _ (k : Check) (old new : FolderState) (network : NetworkModel) (bytes : List ℕ) (report : Report)
    (faultless : IfTold old (λ held. check_fault k held ≡ None)) (found : IfTold old (λ held. network ≡ network_held held k.dir))
    (certificate : IfTold old (λ held. bytes ≡ certificate_held k held)) (passed : failed_check network k.trip ≡ None) where
  passes : IfTold old (λ held. check_check k held ≡ None)
  passes held is = ap (λ (n : NetworkModel). failed_check n k.trip) (sym (found held is)) ∙ passed

  -- what holds of the bytes over the network holds of the folder's
  held_there : (P : Setting → List ℕ → Type 0) → P (trip_setting network k.trip) bytes → IfTold old (λ held. P (check_setting k held) (certificate_held k held))
  held_there P here held is =
      subst (λ (n : NetworkModel). P (trip_setting n k.trip) (certificate_held k held)) (found held is)
      (subst (λ (bs : List ℕ). P (trip_setting network k.trip) bs) (certificate held is) here)

  reports_judged : IsJudged (trip_setting network k.trip) (request_of k.trip) bytes report → ReportsOn (check_meaning k) old new report
  reports_judged judged = record {
    answered = λ accepts held is. record {
      faultless = faultless held is;
      good = passes held is;
      answer = held_there (λ s bs. IsAccepted s (request_of k.trip) bs report.text.items) (judged.accepted accepts) held is;
    };
    judges = λ _. tt;
    rejected = λ rejects held is. record {
      faultless = faultless held is;
      good = passes held is;
      rejects = held_there (λ s bs. IsRejected s (request_of k.trip) bs report.text.items) (judged.rejected rejects) held is;
    };
  }

  -- a report that judges the bytes of the check's certificate is that of the check
  pub ends_judged : IsJudged (trip_setting network k.trip) (request_of k.trip) bytes report → KeepsFiles old new
      → Ends (check_meaning k) old new (Ok report)
  ends_judged judged kept = record { concludes = reports_judged judged; left = kept; counts = kept_rises old new kept }

-- the meaning of the command is sound
pub check_sound : (c : Check) → IsSound (check_meaning c)
check_sound c =
    let judging = reads_sound (check_fault c) (check_check c) (AcceptsCertificate c) (λ held x y. one_check _ _ _ x y) in
    record {
      never_both = judging.never_both;
      stays = judging.stays;
      short = judging.short;
      unread = judging.unread;
      one = judging.one;
      one_fault = judging.one_fault;
      one_rejection = λ held x y. one_rejection _ _ _ x y;
      never_rejects = λ held after x y. never_rejected _ _ _ x y;
    }
