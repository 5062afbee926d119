use Rattle.std.proofs.Common.{◌≡◌, ◌++◌, flat_map, take}
use Rattle.plan_report.specs.Bans.{closed_text}
use Rattle.plan_report.proofs.bans.push_closures.Given as goal

abbrev pub invariant-loop-run : goal.invariant-loop-run
invariant-loop-run l = l.out.items ≡ l.initial.out.items ++ flat_map closed_text (take l.run-index l.runs)
