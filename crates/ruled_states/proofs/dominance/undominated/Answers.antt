use Rattle.std.proofs.Common.{◌≡◌, inl, inr, ⊎_elim, ℕ, ◌<◌, ◌≤◌, Some, length, get_or, sym, ◌∙◌, ap, subst, arith}
use Rattle.std.proofs.lemmas.Bool.{cases_lt}
use Rattle.std.proofs.lemmas.List.{get_or_default}
use Rattle.cost_functions.specs.Pieces.{value_at}
use Rattle.ruled_states.specs.Inside.Cuts.{IsCutAt}
use Rattle.ruled_states.specs.declared.table.Place.{Place}
use Rattle.ruled_states.proofs.dominance.undominated.Goals as goal

pub loop-place-preserved : goal.loop-place-preserved
loop-place-preserved g c =
    let r = g.R.Ruler.ruling c.args.ruler.now in
    let inv = c.loop-place.invariant in
    let i = c.loop-place.place-index in
    let places = c.args.places.now in
    let functions = c.args.functions.now in
    let none : Place = record { state = 0; number = 0 } in
    let cut = c.in_ok-left.ensures.values in
    let within : i < length places = c.loop-place-test.true in
    record {
      small = c.in_ok-left.ensures.small;
      kept = λ t x is. inv.kept t x (cut.kept t x is);
      clear = λ k d below t x is at. ⊎_elim
          (λ (before : k < i). inv.clear k d before t x (cut.kept t x is) at)
          (λ (here : i ≤ k). let same : k ≡ i = omega (arith, below, here) in
          cut.clear t x is (subst (λ w. IsCutAt r functions c.args.state w t x) (ap (λ n. get_or places n d) same ∙ get_or_default places i d none within) at))
          (cases_lt k i);
      rest = λ t x is. ⊎_elim
          (λ (stays : value_at c.loop-place.left t ≡ Some x). ⊎_elim
          (λ (now : value_at c.in_ok-left.left t ≡ Some x). inl now)
          (λ (at : IsCutAt r functions c.args.state (get_or places i none) t x).
          inr (get_or places i none, (i, omega arith, get_or_default places i (get_or places i none) none within), at))
          (cut.left t x stays))
          (λ (before : (p : Place) × ((k : ℕ) × (k < i) × (get_or places k p ≡ p)) × IsCutAt r functions c.args.state p t x).
          inr (before.0, (before.1.0, omega (arith, before.1.1), before.1.2), before.2))
          (inv.rest t x is);
    }

pub returns-clause-values : goal.returns-clause-values
returns-clause-values g c =
    let r = g.R.Ruler.ruling c.args.ruler.now in
    let inv = c.loop-place.invariant in
    let i = c.loop-place.place-index in
    let places = c.args.places.now in
    let functions = c.args.functions.now in
    let over = c.loop-place-test.false in
    record {
      kept = inv.kept;
      clear = λ p one t x is at. inv.clear one.0 p (omega (arith, one.1, over)) t x is
          (subst (λ w. IsCutAt r functions c.args.state w t x) (sym one.2) at);
      left = λ t x is. ⊎_elim
          (λ (stays : value_at c.loop-place.left t ≡ Some x). inl stays)
          (λ (before : (p : Place) × ((k : ℕ) × (k < i) × (get_or places k p ≡ p)) × IsCutAt r functions c.args.state p t x).
          (let most = c.loop-place.auto.place-index-end in
          inr (before.0, (before.1.0, omega (arith, before.1.1, most), before.1.2), before.2)))
          (inv.rest t x is);
    }
