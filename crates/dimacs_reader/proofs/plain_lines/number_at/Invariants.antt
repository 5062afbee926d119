use Rattle.std.proofs.Common.{◌≡◌, ◌<◌, ◌≤◌, ◌-◌, ◌^◌, Some, take, drop}
use Rattle.route_base.specs.Digits.{digits_from}
use Rattle.dimacs_reader.proofs.plain_lines.number_at.Given as goal

abbrev pub invariant-loop-at : goal.invariant-loop-at
invariant-loop-at l = record {
  begun : l.from ≤ l.at;
  within : l.at ≤ l.end;
  small : l.n < 10 ^ (l.at - l.from);
  read : digits_from 0 (take (l.at - l.from) (drop l.from l.bytes)) ≡ Some l.n;
}

abbrev pub decreases-loop-at : goal.decreases-loop-at
decreases-loop-at l = l.end - l.at
