use Rattle.std.proofs.Common.{⊎_elim, ◌<◌, ◌≤◌, arith, rules}
use Rattle.std.proofs.lemmas.Bool.{cases_lt}
use Rattle.certificate_check.proofs.sweep.piece_passes.Goals as goal

pub sweep-preserved : goal.sweep-preserved
sweep-preserved c =
    let e = c.in-Some.ensures in
    let inv = c.sweep.invariant in
    record {
      from = omega (arith, inv.from, e.some);
      passed = λ t late early upto. ⊎_elim
          (λ (before : t < c.sweep.from). inv.passed t late before upto)
          (λ (here : c.sweep.from ≤ t). e.passes t here early upto)
          (cases_lt t c.sweep.from);
    }

pub returns-in-None : goal.returns-in-None
returns-in-None c =
    let e = c.in-None.ensures in
    ((λ h. search rules), (λ all. absurd (e.none (search rules) (all c.sweep.from c.sweep.invariant.from (omega (arith, c.sweep-test.true))))))

pub returns : goal.returns
returns c = ((λ _ t late upto. c.sweep.invariant.passed t late (omega (arith, upto, c.sweep-test.false)) upto), (λ _. search rules))
