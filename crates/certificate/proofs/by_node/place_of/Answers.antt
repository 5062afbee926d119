use Rattle.std.proofs.Common.{ltb, rules}
use Rattle.std.proofs.lemmas.Bool.{ltb-true, ltb-false}
use Rattle.std.proofs.lemmas.List.Sorted.{IsPartitionedBy-ltb, IsPartitionPoint-from_clause}
use Rattle.certificate.proofs.Entries.{nodes_rise}
use Rattle.certificate.proofs.by_node.place_of.Goals as goal

pub returns-else-is_place_of-clause-before : goal.returns-else-is_place_of-clause-before
returns-else-is_place_of-clause-before g c = λ k d low early.
    let es = c.args.entries.now in
    let v = c.args.node.0 in
    let parts = IsPartitionPoint-from_clause (λ e. ltb e.0.0 v) es c.partition_point.result c.partition_point.ensures.partitioned
    (IsPartitionedBy-ltb (λ e. e.0.0) es v (nodes_rise es c.requires)) (λ a r f called. search rules) in
    ltb-true _ _ (parts.0 k d low early)

pub returns-else-is_place_of-clause-after : goal.returns-else-is_place_of-clause-after
returns-else-is_place_of-clause-after g c = λ k d low within.
    let es = c.args.entries.now in
    let v = c.args.node.0 in
    let parts = IsPartitionPoint-from_clause (λ e. ltb e.0.0 v) es c.partition_point.result c.partition_point.ensures.partitioned
    (IsPartitionedBy-ltb (λ e. e.0.0) es v (nodes_rise es c.requires)) (λ a r f called. search rules) in
    ltb-false _ _ (parts.1 k d low within)

pub returns-then-is_place_of-clause-before : goal.returns-then-is_place_of-clause-before
returns-then-is_place_of-clause-before g c = c.if-is_place_of.ensures.before (search rules)

pub returns-then-is_place_of-clause-after : goal.returns-then-is_place_of-clause-after
returns-then-is_place_of-clause-after g c = c.if-is_place_of.ensures.after (search rules)
