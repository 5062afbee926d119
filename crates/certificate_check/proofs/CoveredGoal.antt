-- The last condition over another list of pairs and other values of the goal, and a test that can't be passed.
use Rattle.std.proofs.Common.{◌≡◌, ℕ, Option, Some, List, IsTrue, false, sym, ◌∙◌, subst, rules}
use Rattle.route_base.specs.Relaxing.{HasPair}
use Rattle.route_base.specs.declared.types.Pair.{Pair}

pub refused : IsTrue false → ⊥
refused h = search rules

-- where lists and values are the same, what covers the goal over the one covers it over the other
pub covered_over : {ps qs : List Pair} {found value : ℕ → Option ℕ} → ps ≡ qs → ((t : ℕ) → value t ≡ found t)
    → ((t x : ℕ) → found t ≡ Some x → HasPair ps t x) → (t x : ℕ) → value t ≡ Some x → HasPair qs t x
covered_over same values all t x is = subst (λ (rs : List Pair). HasPair rs t x) same (all t x (sym (values t) ∙ is))
