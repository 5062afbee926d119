use Rattle.std.proofs.Common.{leb, arith, rules}
use Rattle.std.proofs.lemmas.List.Sorted.{IsPartitionedBy-leb, IsPartitionPoint-from_clause}
use Rattle.std.proofs.lemmas.Bool.{leb-true, le-leb}
use Rattle.route_base.specs.declared.types.Pair.{Pair}
use Rattle.route_base.proofs.ByArrival.{arrivals_rise, is_before, last_has, last_is_least}
use Rattle.propagation.proofs.pairs.has_as_good.Goals as goal

pub returns-then-count-eq0 : goal.returns-then-count-eq0
returns-then-count-eq0 c =
    let ps = c.args.pairs.now in
    let i = c.partition_point-count.result in
    let parts = IsPartitionPoint-from_clause (λ p. leb p.arrival c.args.pair.arrival) ps i c.partition_point-count.ensures.partitioned
    (IsPartitionedBy-leb (λ p. p.arrival) ps c.args.pair.arrival (arrivals_rise ps c.requires.trade)) (λ a r f called. search rules) in (
      (λ h. search rules),
      (λ h. (let early = is_before ps c.requires.trade c.args.pair.arrival i parts.0 parts.1 c.args.pair.cost h
          in absurd (omega (arith, early, c.if-count-eq0.true)))),
    )

pub returns : goal.returns
returns c =
    let ps = c.args.pairs.now in
    let i = c.partition_point-count.result in
    let parts = IsPartitionPoint-from_clause (λ p. leb p.arrival c.args.pair.arrival) ps i c.partition_point-count.ensures.partitioned
    (IsPartitionedBy-leb (λ p. p.arrival) ps c.args.pair.arrival (arrivals_rise ps c.requires.trade)) (λ a r f called. search rules) in
    let d : Pair = record { arrival = 0; cost = 0 } in (
      (λ h. last_has ps c.requires.trade c.args.pair.arrival i parts.0 parts.1 d c.args.pair.cost
          (omega (arith, c.if-count-eq0.false)) c.partition_point-count.ensures.bound (leb-true _ _ h)),
      (λ h. le-leb _ _ (last_is_least ps c.requires.trade c.args.pair.arrival i parts.0 parts.1 d c.args.pair.cost
          (omega (arith, c.if-count-eq0.false)) c.partition_point-count.ensures.bound h)),
    )
