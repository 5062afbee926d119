use Rattle.std.proofs.Common.{◌≡◌, ◌++◌, drop}
use Rattle.stop_tour.specs.Inside.Layers.{runs_and_rest}
use Rattle.stop_tour.proofs.layers.runs_with_rest.Given as goal

abbrev pub invariant-loop-i : goal.invariant-loop-i
invariant-loop-i l = l.out.items ++ runs_and_rest l.late l.until (drop l.i l.runs) ≡ runs_and_rest l.late l.until l.runs
