use Rattle.std.proofs.Common.{leb, ◌+◌, ◌≤◌, refl, arith, rules}
use Rattle.std.proofs.lemmas.List.Sorted.{IsPartitionedBy-leb, IsPartitionPoint-from_clause}
use Rattle.std.proofs.lemmas.Bool.{leb-true, le-leb}
use Rattle.route_base.proofs.FreeRuns.{ends_rise, free_before, free_behind, runs_later}
use Rattle.route_base.proofs.runs.is_free.Goals as goal

pub returns-in-Some : goal.returns-in-Some
returns-in-Some c =
    let parts = IsPartitionPoint-from_clause (λ r. leb r.hi c.args.t) c.args.runs.now c.partition_point-later.result
    c.partition_point-later.ensures.partitioned (IsPartitionedBy-leb (λ r. r.hi) c.args.runs.now c.args.t
    (ends_rise c.args.runs.now c.requires.rising)) (λ a r f called. search rules) in (
      (λ yes. free_before c.args.runs.now c.requires.rising c.args.t c.args.minutes c.partition_point-later.result c.requires.some parts.0
          parts.1 c.in-Some.run'.now c.in-Some.ensures.lookup.3.0 c.in-Some.ensures.lookup.1 (let gap = leb-true _ _ yes in omega (arith, gap))),
      (λ free. let later : c.args.t + c.args.minutes ≤ c.in-Some.run'.now.lo = runs_later c.args.runs.now c.requires.rising c.args.t
          c.args.minutes c.partition_point-later.result c.requires.some parts.0 parts.1 c.in-Some.run'.now c.in-Some.ensures.lookup.3.0
          c.in-Some.ensures.lookup.1 free in le-leb _ _ (omega (arith, later))),
    )

pub returns-in-None : goal.returns-in-None
returns-in-None c =
    let parts = IsPartitionPoint-from_clause (λ r. leb r.hi c.args.t) c.args.runs.now c.partition_point-later.result
    c.partition_point-later.ensures.partitioned (IsPartitionedBy-leb (λ r. r.hi) c.args.runs.now c.args.t
    (ends_rise c.args.runs.now c.requires.rising)) (λ a r f called. search rules) in (
      (λ _. free_behind c.args.runs.now c.requires.rising c.args.t c.args.minutes c.partition_point-later.result c.requires.some parts.0
          parts.1 c.in-None.ensures.lookup.3),
      (λ _. refl),
    )
