use Rattle.std.proofs.Common.{◌+◌, arith, rules}
use Rattle.certificate_check.specs.Inside.Steps.{AreDrivesRelaxedIn}
use Rattle.certificate_check.proofs.Arcs.{road_within}
use Rattle.certificate_check.proofs.PieceValues.{next_too}
use Rattle.certificate_check.proofs.steps.are_drives_relaxed.Goals as goal

pub returns-then-not-are_drives_over_relaxed : goal.returns-then-not-are_drives_over_relaxed
returns-then-not-are_drives_over_relaxed c = ((λ h. search rules), (λ all. c.if-not-are_drives_over_relaxed.ensures.1 (all (c.loop-k.k + 1))))

pub loop-k-preserved : goal.loop-k-preserved
loop-k-preserved c = next_too (AreDrivesRelaxedIn c.args.trial) c.loop-k.k c.loop-k.invariant (c.if-not-are_drives_over_relaxed.ensures.0 (search rules))

pub returns : goal.returns
returns c = (
  (λ _ a p q stands drives.
      (let within = road_within c.args.trial.net.now.arcs a drives.road drives.is in
      c.loop-k.invariant a within.0 (omega (arith, within.1, c.loop-k-test.false, c.arc_count-k-end.ensures.value)) p q stands drives)),
  (λ _. search rules),
)
