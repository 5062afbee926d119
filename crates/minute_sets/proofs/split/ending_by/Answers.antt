use Rattle.std.proofs.Common.{◌≡◌, true, false, leb, rules, arith}
use Rattle.std.specs.List.Sorted.{IsPartitionPoint}
use Rattle.std.proofs.lemmas.Bool.{leb-true, leb-false}
use Rattle.std.proofs.lemmas.List.Sorted.{IsPartitionedBy-leb, IsPartitionPoint-from_clause}
use Rattle.route_base.specs.declared.types.Run.{Run}
use Rattle.route_base.proofs.FreeRuns.{ends_rise}
use Rattle.minute_sets.proofs.split.ending_by.Goals.{After-partition_point}
use Rattle.minute_sets.proofs.split.ending_by.Goals as goal

-- the runs that end by the minute are those before the place
parts : (c : After-partition_point)
    → IsPartitionPoint (λ (r : Run). leb r.hi c.args.minute ≡ true) (λ r. leb r.hi c.args.minute ≡ false) c.args.runs.now c.partition_point.result
parts c = IsPartitionPoint-from_clause (λ r. leb r.hi c.args.minute) c.args.runs.now c.partition_point.result c.partition_point.ensures.partitioned
    (IsPartitionedBy-leb (λ r. r.hi) c.args.runs.now c.args.minute (ends_rise c.args.runs.now c.requires)) (λ a r f called. search rules)

pub returns-clause-early : goal.returns-clause-early
returns-clause-early c = λ k d from upto. leb-true _ _ ((parts (goal.at.returns-clause-early c).After-partition_point).0 k d from upto)

pub returns-clause-late : goal.returns-clause-late
returns-clause-late c = λ d within. leb-false _ _ ((parts (goal.at.returns-clause-late c).After-partition_point).1 c.partition_point.result d
    (omega arith) within)
