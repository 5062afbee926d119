use Rattle.std.proofs.Common.{◌∙◌, ◌+◌, sym, ap, arith, rules}
use Rattle.certificate_check.specs.Inside.Steps.{AreWaitsRelaxedIn, setting_in}
use Rattle.certificate_check.proofs.Arcs.{weight_within}
use Rattle.certificate_check.proofs.PieceValues.{next_too}
use Rattle.certificate_check.proofs.steps.are_waits_relaxed.Goals as goal

pub returns-then-not-are_waits_at_relaxed : goal.returns-then-not-are_waits_at_relaxed
returns-then-not-are_waits_at_relaxed c = ((λ h. search rules), (λ all. c.if-not-are_waits_at_relaxed.ensures.1 (all (c.loop-k.k + 1))))

pub loop-k-preserved : goal.loop-k-preserved
loop-k-preserved c = next_too (AreWaitsRelaxedIn c.args.trial) c.loop-k.k c.loop-k.invariant (c.if-not-are_waits_at_relaxed.ensures.0 (search rules))

pub returns : goal.returns
returns c = (
  (λ _ v p q at stands waits.
      (let within = weight_within c.args.trial.net.now.parks v waits.weight (ap (setting_in c.args.trial).weight (sym at) ∙ waits.rated) in
      let count = c.node_count-k-end.ensures in
      c.loop-k.invariant v within.0 (omega (arith, within.1, c.loop-k-test.false, count.value, count.good.parks)) p q at stands waits)),
  (λ _. search rules),
)
