use Rattle.std.proofs.Common.{sym, rules}
use Rattle.route_base.specs.Net.{setting_of}
use Rattle.certificate.specs.ByNode.{item_at}
use Rattle.certificate_check.specs.Conditions.{value_of}
use Rattle.certificate_check.proofs.RelaxedSteps.{all_steps, steps_drives, steps_waits}
use Rattle.certificate_check.proofs.SameValues.{steps_too}
use Rattle.certificate_check.proofs.steps.are_functions_relaxed.Goals as goal

pub returns-then-not-are_drives_relaxed : goal.returns-then-not-are_drives_relaxed
returns-then-not-are_drives_relaxed c =
    let s = setting_of c.args.net.now in
    let bounds = item_at c.args.certificate.now.bounds in
    let given = value_of c.args.certificate.now.functions in
    let value = value_of c.args.reduced.now in (
      (λ h. search rules),
      (λ all. c.if-not-are_drives_relaxed.ensures.1 (steps_drives s c.args.request.until c.args.pairs.now bounds value
          (steps_too s c.args.request.until c.args.pairs.now bounds given value (λ v t. sym (c.requires.reduced.values v t)) all.steps))),
    )

pub returns : goal.returns
returns c =
    let s = setting_of c.args.net.now in
    let bounds = item_at c.args.certificate.now.bounds in
    let given = value_of c.args.certificate.now.functions in
    let value = value_of c.args.reduced.now in (
      (λ h. record {
        ranges = c.if-not-are_in_range.ensures.0 (search rules);
        steps = steps_too s c.args.request.until c.args.pairs.now bounds value given c.requires.reduced.values
            (all_steps s c.args.request.until c.args.pairs.now bounds value
            (c.if-not-are_drives_relaxed.ensures.0 (search rules)) (c.are_waits_relaxed.ensures.0 h));
      }),
      (λ all. c.are_waits_relaxed.ensures.1 (steps_waits s c.args.request.until c.args.pairs.now bounds value
          (steps_too s c.args.request.until c.args.pairs.now bounds given value (λ v t. sym (c.requires.reduced.values v t)) all.steps))),
    )
