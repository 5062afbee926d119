-- Whatever can be achieved alike has the same Pareto fronts.
use Rattle.std.proofs.Common.{List}
use Rattle.front_transport.specs.ParetoFronts.{IsParetoFront}

pub same_front : {A : Type 0} (NoWorse Before : A → A → Type 0) (Can Can' : A → Type 0) → ((a : A) → Can a → Can' a) → ((a : A) → Can' a → Can a)
    → (items : List A) → IsParetoFront NoWorse Before Can items → IsParetoFront NoWorse Before Can' items
same_front NoWorse Before Can Can' there back items front = record {
  ordered = front.ordered;
  each = λ p. (
    (λ one. let here = (front.each p).0 one in (there p here.0, λ q can. here.1 q (back q can))),
    (λ best. (front.each p).1 (back p best.0, λ q can. best.1 q (there q can))),
  );
}
