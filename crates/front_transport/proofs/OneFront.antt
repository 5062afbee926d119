-- There is one Pareto front, where of two items at most one comes before the other.
use Rattle.std.proofs.Common.{◌≡◌, List}
use Rattle.route_base.proofs.OrderedLists.{one_list}
use Rattle.front_transport.specs.ParetoFronts.{IsParetoFront}

-- two fronts are one
pub one_front : {A : Type 0} (Before : A → A → Type 0) → ((p q : A) → Before p q → Before q p → ⊥) → (NoWorse : A → A → Type 0) (CanBe : A → Type 0)
    → (ps qs : List A) → IsParetoFront NoWorse Before CanBe ps → IsParetoFront NoWorse Before CanBe qs → ps ≡ qs
one_front Before never NoWorse CanBe ps qs front_p front_q =
    one_list Before never ps qs front_p.ordered front_q.ordered (λ p one. (front_q.each p).1 ((front_p.each p).0 one))
    (λ p one. (front_p.each p).1 ((front_q.each p).0 one))
