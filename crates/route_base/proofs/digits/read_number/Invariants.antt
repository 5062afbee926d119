use Rattle.std.proofs.Common.{◌≡◌, ◌<◌, ◌^◌, drop}
use Rattle.route_base.specs.Digits.{digits_from}
use Rattle.route_base.proofs.digits.read_number.Given as goal

abbrev pub invariant-loop-b : goal.invariant-loop-b
invariant-loop-b l = record {
  small : l.n < 10 ^ l.b-index;
  rest : digits_from l.n (drop l.b-index l.digits) ≡ digits_from 0 l.digits;
}
