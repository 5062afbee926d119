-- A pair that no pair of the Pareto front dominates is undominated.
use Rattle.std.proofs.Common.{◌≡◌, ◌↔◌, ◌<◌, ◌+◌, ℕ, zero, suc, Bool, true, false, Option, Some, None, List, [], ◌∷◌, inl, inr, refl, sym, ◌∙◌, ap}
use Rattle.std.proofs.Common.{arith, if◌then◌else◌}
use Rattle.std.specs.Prelude.{Contains}
use Rattle.route_base.specs.Front.{Dominates, IsAchieved, IsFront, IsNoWorse, IsUndominated}
use Rattle.route_base.specs.Setting.{Setting}
use Rattle.route_base.specs.declared.types.Pair.{Pair}
use Rattle.route_base.specs.declared.types.Request.{Request}
use Rattle.trip_explain.specs.Dominators.{dominates, first_dominator}
use Rattle.trip_explain.proofs.Dominating.{dominates_is, less_cases, less_one}

found_in : (b : Bool) (x : Pair) (ps : List Pair) (q p : Pair) → dominates x q ≡ b
    → (first_dominator ps q ≡ Some p → Contains ps p × (dominates p q ≡ true))
    → (if b then Some x else first_dominator ps q) ≡ Some p → Contains (x ∷ ps) p × (dominates p q ≡ true)
found_in true x ps q p does rest is =
    let same : x ≡ p = cc in
    ((0, omega arith, same), ap (λ (w : Pair). dominates w q) (sym same) ∙ does)
found_in false x ps q p does rest is =
    let later = rest is in
    ((suc later.0.0, omega (arith, later.0.1), later.0.2), later.1)

pub first_found : (ps : List Pair) (q p : Pair) → first_dominator ps q ≡ Some p → Contains ps p × (dominates p q ≡ true)
first_found [] q p is = absurd (cc)
first_found (x ∷ ps) q p is = found_in (dominates x q) x ps q p refl (first_found ps q p) is

none_in : (b : Bool) (x : Pair) (ps : List Pair) (q p : Pair) → dominates x q ≡ b
    → (first_dominator ps q ≡ None → Contains ps p → dominates p q ≡ true → ⊥)
    → (if b then Some x else first_dominator ps q) ≡ None → Contains (x ∷ ps) p → dominates p q ≡ true → ⊥
none_in true x ps q p does rest is has now = cc
none_in false x ps q p does rest is (zero, within, same) now =
    let bad : true ≡ false = sym now ∙ ap (λ (w : Pair). dominates w q) (sym same) ∙ does in cc
none_in false x ps q p does rest is (suc k, within, same) now = rest is (k, omega (arith, within), same) now

pub none_found : (ps : List Pair) (q p : Pair) → first_dominator ps q ≡ None → Contains ps p → dominates p q ≡ true → ⊥
none_found [] q p is has now = omega (arith, has.1)
none_found (x ∷ ps) q p is has now = none_in (dominates x q) x ps q p refl (none_found ps q p) is has now

none_or : (o : Option Pair) → ((p : Pair) → o ≡ Some p → ⊥) → o ≡ None
none_or None never = refl
none_or (Some p) never = absurd (never p refl)

sum_less : (p q : Pair) → Dominates p q → p.arrival + p.cost < q.arrival + q.cost
sum_less p q d =
    elim (less_cases p q (less_one p q d)) [
      | inl less ↦ omega (arith, less, d.0.1)
      | inr less ↦ omega (arith, less, d.0.0)
    ]

module _ (s : Setting) (r : Request) (pairs : List Pair) (front : IsFront s r pairs) where
  -- below an achieved pair there is one of the Pareto front
  below : (n : ℕ) (p : Pair) → IsAchieved s r p → p.arrival + p.cost < n → ((f : Pair) → Contains pairs f → IsNoWorse f p → ⊥) → ⊥
  below zero p achieved less nothing = omega (arith, less)
  below (suc n) p achieved less nothing =
      let undominated : IsUndominated s r p = λ q is_q d.
      let smaller = sum_less q p d in
      below n q is_q (omega (arith, less, smaller))
      (λ f has le. nothing f has (omega (arith, le.0, d.0.0), omega (arith, le.1, d.0.1))) in
      nothing p ((front.each p).1 (achieved, undominated)) (omega arith, omega arith)

  pub undominated_by : (pair : Pair) → IsAchieved s r pair → (first_dominator pairs pair ≡ None) ↔ IsUndominated s r pair
  undominated_by pair achieved = (
    (λ none q is_q d.
        let smaller = sum_less q pair d in
        below (q.arrival + q.cost + 1) q is_q (omega arith)
        (λ f has le.
        none_found pairs pair f none has
        ((dominates_is f pair).1 (
          (omega (arith, le.0, d.0.0), omega (arith, le.1, d.0.1)),
          (λ same.
              let at : f.arrival ≡ pair.arrival = ap (λ (w : Pair). w.arrival) same in
              let for : f.cost ≡ pair.cost = ap (λ (w : Pair). w.cost) same in
              omega (arith, le.0, le.1, smaller, at, for)),
        )))),
    (λ undominated.
        none_or (first_dominator pairs pair) (λ p is.
        let found = first_found pairs pair p is in
        undominated p ((front.each p).0 found.0).0 ((dominates_is p pair).0 found.1))),
  )
