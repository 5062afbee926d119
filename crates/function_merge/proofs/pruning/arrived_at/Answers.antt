use Rattle.std.proofs.Common.{leb, arith, rules}
use Rattle.std.proofs.lemmas.List.Sorted.{IsPartitionedBy-leb, IsPartitionPoint-from_clause}
use Rattle.std.proofs.lemmas.Bool.{leb-true}
use Rattle.route_base.proofs.ByArrival.{arrivals_rise}
use Rattle.function_merge.proofs.pruning.arrived_at.Goals as goal

pub returns-clause-before : goal.returns-clause-before
returns-clause-before c k d from early =
    let ps = c.args.pairs.now in
    let last = c.saturating_add-last.result in
    let parts = IsPartitionPoint-from_clause (λ p. leb p.arrival last) ps c.partition_point.result c.partition_point.ensures.partitioned
    (IsPartitionedBy-leb (λ p. p.arrival) ps last (arrivals_rise ps c.requires)) (λ a r f called. search rules) in
    let upto = leb-true _ _ (parts.0 k d (omega arith) early) in
    omega (arith, upto, c.saturating_add-last.ensures)
