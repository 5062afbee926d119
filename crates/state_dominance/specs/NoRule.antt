-- The ruler without a rule: it has one state, each drive is allowed, and no rest matters (source: own).
use Rattle.std.specs.Prelude.{nat_le, true, Some, None, []}
use Rattle.state_dominance.specs.Inside.Product.{Ruler}

abbrev pub no_rule : Ruler
no_rule = record {
  first = 0;
  drive = λ k minutes. Some 0;
  rest = λ k minutes. 0;
  rests = [];
  no_worse = λ j k. nat_le j k;
  fits = λ k n. true;
  services = [];
  serve = λ k i. None;
  ends = λ k. true;
  last = 0;
  unserve = λ n i. None;
  stage = λ k. 0;
  best = λ i. 0;
}
