-- The ruler without a rule simulates and fits, and has one stage.
use Rattle.std.proofs.Common.{◌≡◌, Some, None, refl, arith}
use Rattle.std.proofs.lemmas.Bool.{leb-true, le-leb}
use Rattle.std.proofs.lemmas.Option.{same_Some}
use Rattle.state_dominance.specs.Inside.Product.{IsSimulating, IsFitting, IsStaged, HasBest}
use Rattle.state_dominance.specs.NoRule.{no_rule}
use Rattle.state_dominance.specs.Serving.{IsFirstBest, HasSmallStates}

pub simulates : IsSimulating no_rule
simulates = record {
  same = λ k. le-leb k k (omega arith);
  on = λ i j k one two. le-leb i k (omega (arith, leb-true i j one, leb-true j k two));
  low = λ j k is. leb-true j k is;
  drive = λ j k minutes next better is. (0, refl, le-leb 0 next (omega arith));
  rest = λ j k minutes better. refl;
  serve = λ j k i next better is. (let bad : None ≡ Some next = is in cc);
  ends = λ j k better is. refl;
}

pub fitting : IsFitting no_rule
fitting = record {
  last = λ k n ends is. refl;
  falls = λ j k n better fits. refl;
  lowers = λ k n o better fits. refl;
  drive = λ k next minutes n is fits. (0, refl, λ o le. refl);
  rest = λ k minutes n o fits le. refl;
  serve = λ k i next n is fits. (let bad : None ≡ Some next = is in cc);
}

pub staged : IsStaged no_rule
staged = record {
  drive = λ k minutes next is. refl;
  rest = λ k minutes. refl;
  serve = λ k i next is. (let bad : None ≡ Some next = is in cc);
  ends = λ k ends. refl;
  falls = λ j k better. refl;
  fits = λ k n fits. refl;
}

pub has_best : HasBest no_rule
has_best = record { best = λ k. le-leb 0 k (omega arith) }

pub first_best : IsFirstBest no_rule
first_best = record { first = λ k. le-leb 0 k (omega arith) }

-- its state is small
pub small_states : HasSmallStates no_rule
small_states = record {
  first = omega arith;
  last = omega arith;
  drives = λ k minutes next is. let same = same_Some 0 next is in omega (arith, same);
  rests = λ k minutes small. omega arith;
}
