use Rattle.std.proofs.Common.{leb, arith, rules}
use Rattle.std.proofs.lemmas.List.Sorted.{IsPartitionedBy-leb, IsPartitionPoint-from_clause}
use Rattle.std.proofs.lemmas.Bool.{leb-true, le-leb}
use Rattle.route_base.specs.declared.types.Pair.{Pair}
use Rattle.route_base.proofs.ByArrival.{arrivals_rise, is_before, last_has, last_is_least}
use Rattle.certificate_check.proofs.domination.has_pair.Goals as goal

pub returns-then-later-eq0 : goal.returns-then-later-eq0
returns-then-later-eq0 c =
    let ps = c.args.pairs.now in
    let t = c.args.t in
    let i = c.partition_point-later.result in
    let parts = IsPartitionPoint-from_clause (λ p. leb p.arrival t) ps i c.partition_point-later.ensures.partitioned
    (IsPartitionedBy-leb (λ p. p.arrival) ps t (arrivals_rise ps c.requires)) (λ a r f called. search rules) in (
      (λ h. search rules),
      (λ h. (let early = is_before ps c.requires t i parts.0 parts.1 c.args.x h in absurd (omega (arith, early, c.if-later-eq0.true)))),
    )

pub returns : goal.returns
returns c =
    let ps = c.args.pairs.now in
    let t = c.args.t in
    let x = c.args.x in
    let i = c.partition_point-later.result in
    let bound = c.partition_point-later.ensures.bound in
    let parts = IsPartitionPoint-from_clause (λ p. leb p.arrival t) ps i c.partition_point-later.ensures.partitioned
    (IsPartitionedBy-leb (λ p. p.arrival) ps t (arrivals_rise ps c.requires)) (λ a r f called. search rules) in
    let d : Pair = record { arrival = 0; cost = 0 } in (
      (λ h. last_has ps c.requires t i parts.0 parts.1 d x (omega (arith, c.if-later-eq0.false)) bound (leb-true _ _ h)),
      (λ h. le-leb _ _ (last_is_least ps c.requires t i parts.0 parts.1 d x (omega (arith, c.if-later-eq0.false)) bound h)),
    )
