-- The order of pairs.
use Rattle.std.proofs.Common.{◌≡◌, ◌⊎◌, inl, inr, ⊎_elim, ap, arith}
use Rattle.std.specs.Prelude.{◌≢◌}
use Rattle.std.proofs.lemmas.Bool.{cases_eq}
use Rattle.route_base.specs.Front.{IsNoWorse}
use Rattle.route_base.specs.declared.types.Pair.{Pair}
use Rattle.route_base.proofs.Fronts.{same_pair}
use Rattle.front_transport.specs.Inside.Carrying.{IsPartialOrder}

either : (p q : Pair) → (p ≡ q) ⊎ (p ≢ q)
either p q = ⊎_elim
    (λ (a : p.arrival ≡ q.arrival). ⊎_elim
    (λ (c : p.cost ≡ q.cost). inl (same_pair p q a c))
    (λ (c : p.cost ≡ q.cost → ⊥). inr (λ is. c (ap (λ (w : Pair). w.cost) is)))
    (cases_eq p.cost q.cost))
    (λ (a : p.arrival ≡ q.arrival → ⊥). inr (λ is. a (ap (λ (w : Pair). w.arrival) is)))
    (cases_eq p.arrival q.arrival)

pub no_worse_order : IsPartialOrder IsNoWorse
no_worse_order = record {
  itself = λ p. (omega arith, omega arith);
  joined = λ p q r first second. (omega (arith, first.0, second.0), omega (arith, first.1, second.1));
  one = λ p q first second. same_pair p q (omega (arith, first.0, second.0)) (omega (arith, first.1, second.1));
  same = either;
}
