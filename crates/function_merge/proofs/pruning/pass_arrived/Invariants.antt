use Rattle.std.proofs.Common.{◌-◌, ◌≤◌, length}
use Rattle.function_merge.specs.Inside.Prefixes.{HaveArrived}
use Rattle.function_merge.proofs.pruning.pass_arrived.Given as goal

abbrev pub invariant-pass : goal.invariant-pass
invariant-pass l = record {
  within : l.count ≤ length l.pairs;
  before : HaveArrived l.bound l.minute l.pairs l.count;
}

abbrev pub decreases-pass : goal.decreases-pass
decreases-pass l = length l.pairs - l.count
