use Rattle.std.proofs.Common.{ltb, arith, rules}
use Rattle.std.proofs.lemmas.List.Sorted.{IsPartitionedBy-ltb, IsPartitionPoint-from_clause}
use Rattle.std.proofs.lemmas.Bool.{ltb-true, ltb-false}
use Rattle.route_base.proofs.ByArrival.{arrivals_rise}
use Rattle.propagation.proofs.pairs.first_from.Goals as goal

pub returns-clause-before : goal.returns-clause-before
returns-clause-before c k d early =
    let ps = c.args.pairs.now in
    let parts = IsPartitionPoint-from_clause (λ p. ltb p.arrival c.args.arrival) ps c.partition_point.result c.partition_point.ensures.partitioned
    (IsPartitionedBy-ltb (λ p. p.arrival) ps c.args.arrival (arrivals_rise ps c.requires.trade)) (λ a r f called. search rules) in
    ltb-true _ _ (parts.0 k d (omega arith) early)

pub returns-clause-after : goal.returns-clause-after
returns-clause-after c k d late within =
    let ps = c.args.pairs.now in
    let parts = IsPartitionPoint-from_clause (λ p. ltb p.arrival c.args.arrival) ps c.partition_point.result c.partition_point.ensures.partitioned
    (IsPartitionedBy-ltb (λ p. p.arrival) ps c.args.arrival (arrivals_rise ps c.requires.trade)) (λ a r f called. search rules) in
    ltb-false _ _ (parts.1 k d late within)
