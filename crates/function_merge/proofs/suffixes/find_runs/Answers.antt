use Rattle.std.proofs.Common.{leb, ◌≡◌, ◌+◌, length, get_or, ◌∙◌, ap, arith, rules}
use Rattle.std.specs.List.{AllWithin}
use Rattle.std.specs.Prelude.{false, true}
use Rattle.std.proofs.lemmas.Bool.{leb-true, leb-false}
use Rattle.std.proofs.lemmas.List.{take_rest, get_or-drop, length-drop}
use Rattle.std.proofs.lemmas.List.Sorted.{IsPartitionedBy-leb, IsPartitionPoint-from_clause}
use Rattle.route_base.specs.Runs.{any_has}
use Rattle.route_base.proofs.FreeRuns.{ends_rise}
use Rattle.minute_sets.proofs.RunSuffixes.{any_drop}
use Rattle.function_merge.proofs.suffixes.find_runs.Goals.{After-result-1}
use Rattle.function_merge.proofs.suffixes.find_runs.Goals as goal

-- the runs before the place end by the minute, and the others end later
parted : (c : After-result-1) → AllWithin (λ r. leb r.hi c.args.from ≡ true) c.args.runs.now 0 c.partition_point.result
    × AllWithin (λ r. leb r.hi c.args.from ≡ false) c.args.runs.now c.partition_point.result (length c.args.runs.now)
parted c = IsPartitionPoint-from_clause (λ r. leb r.hi c.args.from) c.args.runs.now c.partition_point.result c.partition_point.ensures.partitioned
    (IsPartitionedBy-leb (λ r. r.hi) c.args.runs.now c.args.from (ends_rise c.args.runs.now c.requires)) (λ a r f called. search rules)

pub returns-clause-minutes : goal.returns-clause-minutes
returns-clause-minutes c = λ t late.
    let rs = c.args.runs.now in
    let k = c.partition_point.result in
    ap (λ xs. any_has xs t) (take_rest rs k) ∙ any_drop rs k t c.partition_point.ensures.bound
    (λ j d from upto. (let end = leb-true _ _ ((parted c).0 j d from upto) in omega (arith, end, late)))

pub returns-clause-reach : goal.returns-clause-reach
returns-clause-reach c = λ j d within.
    let rs = c.args.runs.now in
    let k = c.partition_point.result in
    let rest = take_rest rs k in
    let size = ap (λ xs. length xs) rest in
    let long = length-drop k rs in
    let same = ap (λ xs. (get_or xs j d).hi) rest ∙ ap (λ r. r.hi) (get_or-drop k rs j d) in
    let end = leb-false _ _ ((parted c).1 (k + j) d (omega arith) (omega (arith, within, size, long, c.partition_point.ensures.bound))) in
    omega (arith, end, same)
