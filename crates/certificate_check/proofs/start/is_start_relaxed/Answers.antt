use Rattle.std.proofs.Common.{inl, inr, ⊎_elim, ◌∙◌, sym, rules}
use Rattle.route_base.specs.Relaxing.{HasWithin, IsDominatedOrLate}
use Rattle.route_base.specs.Legs.{start_of}
use Rattle.certificate.specs.ByNode.{item_at}
use Rattle.certificate_check.specs.Conditions.{value_of}
use Rattle.certificate_check.proofs.RelaxedSteps.{at_node, at_point}
use Rattle.certificate_check.proofs.start.is_start_relaxed.Goals as goal

pub returns-then-is_dominated_or_late : goal.returns-then-is_dominated_or_late
returns-then-is_dominated_or_late c =
    let r = c.args.request in
    let bounds = item_at c.args.certificate.now.bounds in
    let value = value_of c.args.certificate.now.functions in (
      (λ _. inr (at_node r.until c.args.pairs.now bounds value c.bound_of-bound.result (start_of r) c.bound_of-bound.ensures.value
          (c.if-is_dominated_or_late.ensures.0 (search rules)))),
      (λ _. search rules),
    )

pub returns : goal.returns
returns c =
    let r = c.args.request in
    let bounds = item_at c.args.certificate.now.bounds in
    let value = value_of c.args.certificate.now.functions in (
      (λ h. let w = c.has_value_within.ensures.0 h in
          inl (record { least = w.least; is = sym (c.pieces_of-pieces.ensures.values r.depart) ∙ w.is; within = w.within })),
      (λ relaxed. ⊎_elim
          (λ (h : HasWithin value (start_of r)). c.has_value_within.ensures.1
          (record { least = h.least; is = c.pieces_of-pieces.ensures.values r.depart ∙ h.is; within = h.within }))
          (λ (e : IsDominatedOrLate r.until c.args.pairs.now (bounds r.origin.0) (start_of r)).
          (let bad = c.if-is_dominated_or_late.ensures.1 (at_point r.until c.args.pairs.now bounds value c.bound_of-bound.result (start_of r)
          c.bound_of-bound.ensures.value e) in search rules))
          relaxed),
    )
