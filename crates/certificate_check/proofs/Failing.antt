-- A good certificate fails no condition, and of any other just one condition is the first that fails.
use Rattle.std.proofs.Common.{◌≡◌, ℕ, refl}
use Rattle.route_base.specs.Setting.{Setting}
use Rattle.route_base.specs.declared.types.Request.{Request}
use Rattle.certificate.specs.declared.Certificate.{Certificate}
use Rattle.certificate_check.specs.Verdicts.{IsGood, FailsFirst, first_fails, second_fails, third_fails, fourth_fails, fifth_fails, sixth_fails}

pub good_never_fails : (s : Setting) (r : Request) (c : Certificate) (k : ℕ) → IsGood s r c → FailsFirst s r c k → ⊥
good_never_fails s r c _ good (first_fails not) = not good.pairs
good_never_fails s r c _ good (second_fails a not) = not good.achieved
good_never_fails s r c _ good (third_fails a b not) = not good.bounds
good_never_fails s r c _ good (fourth_fails a b d not) = not good.start
good_never_fails s r c _ good (fifth_fails a b d e not) = not good.goes_on
good_never_fails s r c _ good (sixth_fails a b d e f not) = not good.end

-- just one condition is the first that fails
pub one_condition : (s : Setting) (r : Request) (c : Certificate) (j k : ℕ) → FailsFirst s r c j → FailsFirst s r c k → j ≡ k
one_condition s r c _ _ (first_fails not) (first_fails nor) = refl
one_condition s r c _ _ (first_fails not) (second_fails b0 nor) = absurd (not b0)
one_condition s r c _ _ (first_fails not) (third_fails b0 b1 nor) = absurd (not b0)
one_condition s r c _ _ (first_fails not) (fourth_fails b0 b1 b2 nor) = absurd (not b0)
one_condition s r c _ _ (first_fails not) (fifth_fails b0 b1 b2 b3 nor) = absurd (not b0)
one_condition s r c _ _ (first_fails not) (sixth_fails b0 b1 b2 b3 b4 nor) = absurd (not b0)
one_condition s r c _ _ (second_fails a0 not) (first_fails nor) = absurd (nor a0)
one_condition s r c _ _ (second_fails a0 not) (second_fails b0 nor) = refl
one_condition s r c _ _ (second_fails a0 not) (third_fails b0 b1 nor) = absurd (not b1)
one_condition s r c _ _ (second_fails a0 not) (fourth_fails b0 b1 b2 nor) = absurd (not b1)
one_condition s r c _ _ (second_fails a0 not) (fifth_fails b0 b1 b2 b3 nor) = absurd (not b1)
one_condition s r c _ _ (second_fails a0 not) (sixth_fails b0 b1 b2 b3 b4 nor) = absurd (not b1)
one_condition s r c _ _ (third_fails a0 a1 not) (first_fails nor) = absurd (nor a0)
one_condition s r c _ _ (third_fails a0 a1 not) (second_fails b0 nor) = absurd (nor a1)
one_condition s r c _ _ (third_fails a0 a1 not) (third_fails b0 b1 nor) = refl
one_condition s r c _ _ (third_fails a0 a1 not) (fourth_fails b0 b1 b2 nor) = absurd (not b2)
one_condition s r c _ _ (third_fails a0 a1 not) (fifth_fails b0 b1 b2 b3 nor) = absurd (not b2)
one_condition s r c _ _ (third_fails a0 a1 not) (sixth_fails b0 b1 b2 b3 b4 nor) = absurd (not b2)
one_condition s r c _ _ (fourth_fails a0 a1 a2 not) (first_fails nor) = absurd (nor a0)
one_condition s r c _ _ (fourth_fails a0 a1 a2 not) (second_fails b0 nor) = absurd (nor a1)
one_condition s r c _ _ (fourth_fails a0 a1 a2 not) (third_fails b0 b1 nor) = absurd (nor a2)
one_condition s r c _ _ (fourth_fails a0 a1 a2 not) (fourth_fails b0 b1 b2 nor) = refl
one_condition s r c _ _ (fourth_fails a0 a1 a2 not) (fifth_fails b0 b1 b2 b3 nor) = absurd (not b3)
one_condition s r c _ _ (fourth_fails a0 a1 a2 not) (sixth_fails b0 b1 b2 b3 b4 nor) = absurd (not b3)
one_condition s r c _ _ (fifth_fails a0 a1 a2 a3 not) (first_fails nor) = absurd (nor a0)
one_condition s r c _ _ (fifth_fails a0 a1 a2 a3 not) (second_fails b0 nor) = absurd (nor a1)
one_condition s r c _ _ (fifth_fails a0 a1 a2 a3 not) (third_fails b0 b1 nor) = absurd (nor a2)
one_condition s r c _ _ (fifth_fails a0 a1 a2 a3 not) (fourth_fails b0 b1 b2 nor) = absurd (nor a3)
one_condition s r c _ _ (fifth_fails a0 a1 a2 a3 not) (fifth_fails b0 b1 b2 b3 nor) = refl
one_condition s r c _ _ (fifth_fails a0 a1 a2 a3 not) (sixth_fails b0 b1 b2 b3 b4 nor) = absurd (not b4)
one_condition s r c _ _ (sixth_fails a0 a1 a2 a3 a4 not) (first_fails nor) = absurd (nor a0)
one_condition s r c _ _ (sixth_fails a0 a1 a2 a3 a4 not) (second_fails b0 nor) = absurd (nor a1)
one_condition s r c _ _ (sixth_fails a0 a1 a2 a3 a4 not) (third_fails b0 b1 nor) = absurd (nor a2)
one_condition s r c _ _ (sixth_fails a0 a1 a2 a3 a4 not) (fourth_fails b0 b1 b2 nor) = absurd (nor a3)
one_condition s r c _ _ (sixth_fails a0 a1 a2 a3 a4 not) (fifth_fails b0 b1 b2 b3 nor) = absurd (nor a4)
one_condition s r c _ _ (sixth_fails a0 a1 a2 a3 a4 not) (sixth_fails b0 b1 b2 b3 b4 nor) = refl
