-- The ruler of one break rule: its states are the minutes driven since the last break (source: Regulation (EC) 561/2006, Article 7, one rule
-- of it; the form is own).
use Rattle.std.specs.Prelude.{ℕ, ◌+◌, ◌||◌, nat_eq, nat_le, if◌then◌else◌, true, Some, None, [], ◌∷◌}
use Rattle.state_dominance.specs.Inside.Product.{Ruler}

abbrev pub one_rule : ℕ → ℕ → Ruler
one_rule drive rest = record {
  first = 0;
  drive = λ k minutes. if nat_le (k + minutes) drive then Some (k + minutes) else None;
  rest = λ k minutes. if nat_le rest minutes then 0 else k;
  rests = rest ∷ [];
  no_worse = λ j k. nat_le j k;
  fits = λ k n. nat_eq n 0 || nat_le (k + n) drive;
  services = [];
  serve = λ k i. None;
  ends = λ k. true;
  last = 0;
  unserve = λ n i. None;
  stage = λ k. 0;
  best = λ i. 0;
}
