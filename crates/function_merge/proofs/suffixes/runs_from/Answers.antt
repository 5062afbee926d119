use Rattle.std.proofs.Common.{◌-◌, length, get_or, take, drop, subst}
use Rattle.route_base.specs.Runs.{AreRuns}
use Rattle.route_base.specs.declared.types.Run.{Run}
use Rattle.route_base.proofs.Lists.{first_and_rest}
use Rattle.route_base.proofs.FirstRuns.{runs_tail}
use Rattle.function_merge.proofs.suffixes.runs_from.Goals as goal

pub returns-in-len1-up-clause-runs : goal.returns-in-len1-up-clause-runs
returns-in-len1-up-clause-runs c =
    let xs = c.args.runs.now in
    let d : Run = record { lo = 0; hi = 0 } in
    runs_tail (get_or xs 0 d) (take (length xs - 1) (drop 1 xs)) (subst AreRuns (first_and_rest xs d c.in-len1-up.len_at_least) c.requires)
