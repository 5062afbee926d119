use Rattle.std.proofs.Common.{◌≡◌, ◌≤◌, drop}
use Rattle.std.specs.Prelude.{unwrap_or}
use Rattle.latest_departure.specs.Inside.Mirror.{behind_last, own_legs_of}
use Rattle.latest_departure.proofs.routes.first_own.Given as goal

abbrev pub invariant-loop-i : goal.invariant-loop-i
invariant-loop-i l = record {
  within : l.own ≤ l.i;
  here : l.node.0 ≡ l.goal.0 → l.own ≡ l.i;
  same : own_legs_of l.net l.goal l.legs ≡ unwrap_or (behind_last l.net l.goal.0 l.node (drop l.i l.legs)) (drop l.own l.legs);
}
