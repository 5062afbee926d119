-- The judgement of a certificate follows from its bytes: they are accepted, or rejected for one reason.
use Rattle.std.proofs.Common.{◌≡◌, ℕ, List, refl, sym, ◌∙◌, ap, subst}
use Rattle.route_base.specs.Setting.{Setting}
use Rattle.route_base.specs.declared.types.Request.{Request}
use Rattle.certificate.specs.declared.Certificate.{Certificate}
use Rattle.certificate.proofs.Whole.{one_certificate}
use Rattle.certificate_check.specs.Verdicts.{FailsFirst, IsGood}
use Rattle.certificate_check.proofs.Failing.{good_never_fails, one_condition}
use Rattle.plan_report.specs.Check.{check_text_of}
use Rattle.plan_report.specs.declared.outcomes.Verdict3.TheVariants as verdict
use Rattle.front_desk.specs.Check.{FailsWith, IsAccepted, IsRejected, condition_fails, no_certificate}

module _ (s : Setting) (r : Request) (bytes : List ℕ) where
  one_reason : (j k : ℕ) → FailsWith s r bytes j → FailsWith s r bytes k → j ≡ k
  one_reason _ _ (no_certificate none) (no_certificate other) = refl
  one_reason _ _ (no_certificate none) (condition_fails c k read fails) = absurd (none c read)
  one_reason _ _ (condition_fails c k read fails) (no_certificate none) = absurd (none c read)
  one_reason _ _ (condition_fails c j read fails) (condition_fails d k other fails_too) =
      one_condition s r d j k (subst (λ (w : Certificate). FailsFirst s r w j) (one_certificate bytes c d read other) fails) fails_too

  -- bytes are rejected by one text
  pub one_rejection : (x y : List ℕ) → IsRejected s r bytes x → IsRejected s r bytes y → x ≡ y
  one_rejection x y first second =
      first.is_text
      ∙ ap (λ (k : ℕ). check_text_of (verdict.Rejected k) 0) (one_reason first.number second.number first.fails second.fails)
      ∙ sym second.is_text

  -- bytes that are accepted aren't rejected
  pub never_rejected : (x y : List ℕ) → IsAccepted s r bytes x → IsRejected s r bytes y → ⊥
  never_rejected x y accepted rejected = by rejected.number rejected.fails
    where
      by : (k : ℕ) → FailsWith s r bytes k → ⊥
      by _ (no_certificate none) = none accepted.certificate accepted.read
      by _ (condition_fails c k read fails) = good_never_fails s r c k
          (subst (λ (w : Certificate). IsGood s r w) (one_certificate bytes accepted.certificate c accepted.read read) accepted.good) fails
