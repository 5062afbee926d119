use Rattle.std.proofs.Common.{◌≡◌, ℕ, Some, refl, ap, sym}
use Rattle.route_base.specs.Runs.{any_has}
use Rattle.certificate_check.specs.Inside.Passing.{Link}
use Rattle.certificate_check.specs.Inside.Steps.{setting_in, bounds_in, values_in}
use Rattle.certificate_check.proofs.RelaxedSteps.{waits_relaxed, waits_pass}
use Rattle.certificate_check.proofs.steps.are_waits_at_relaxed.Goals as goal

pub returns : goal.returns
returns c =
    let k = c.args.trial in
    let s = setting_in k in
    let weight = c.in-Some.weight in
    let bound = c.bound_of-bound in
    let pieces = c.pieces_in-pieces in
    let shut = c.shut_runs in
    let link : Link = record { minutes = 1; cost = weight; closed = shut.result.now; from = bound.result; to = bound.result; values = pieces.result.now } in
    let rated : s.weight c.args.v.0 ≡ Some weight = sym c.in-Some.ensures.value in
    let closed : (t : ℕ) → any_has shut.result.now t ≡ s.wait_shut c.args.v.0 t = λ t. ap (λ runs. any_has runs t) shut.ensures.value in (
      (λ h. waits_relaxed s k.until k.pairs.now (bounds_in k) (values_in k) link pieces.result.now c.args.v.0 weight rated refl refl
          closed bound.ensures.value bound.ensures.value pieces.ensures.values pieces.ensures.values (c.pieces_pass.ensures.0 h)),
      (λ all. c.pieces_pass.ensures.1 (waits_pass s k.until k.pairs.now (bounds_in k) (values_in k) link pieces.result.now c.args.v.0 weight rated refl refl
          closed bound.ensures.value bound.ensures.value pieces.ensures.values pieces.ensures.values all)),
    )
