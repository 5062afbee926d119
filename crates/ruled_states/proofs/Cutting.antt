-- What a better function leaves of another.
use Rattle.std.proofs.Common.{◌≡◌, ◌⊎◌, inl, inr, ℕ, ◌≤◌, ◌<◌, Bool, true, false, Option, Some, None, List, refl, sym, ◌∙◌, ap, arith}
use Rattle.std.specs.Prelude.{if◌then◌else◌}
use Rattle.std.proofs.lemmas.Bool.{ltb-true, ltb-false}
use Rattle.std.proofs.lemmas.Option.{same_Some}
use Rattle.route_base.proofs.Logic.{behind_test}
use Rattle.cost_functions.specs.Pieces.{value_at}
use Rattle.cost_functions.specs.declared.pieces.Piece.{Piece}
use Rattle.function_merge.specs.Least.{is_better, better_at, better_part_at}
use Rattle.propagation.specs.Found.{cost_at}
use Rattle.state_dominance.specs.Inside.Product.{Ruler}
use Rattle.ruled_states.specs.Inside.Cuts.{IsCutAt, IsCut}
use Rattle.ruled_states.specs.declared.table.Place.{Place}

-- a better value is less than one that is there
less_than : (a : Option ℕ) (x y : ℕ) → is_better a (Some x) ≡ true → a ≡ Some y → x < y
less_than None x y is there = let bad : None ≡ Some y = there in cc
less_than (Some z) x y is there = let same = same_Some z y there in let low = ltb-true x z is in omega (arith, same, low)

-- a value that is no better has one at most as large
no_less : (a : Option ℕ) (x : ℕ) → is_better a (Some x) ≡ false → (y : ℕ) × (a ≡ Some y) × (y ≤ x)
no_less None x is = let bad : true ≡ false = is in cc
no_less (Some y) x is = (y, refl, ltb-false x y is)

module _ (r : Ruler) (functions : List (List Piece)) (state : ℕ) (p : Place) (f g h : List Piece)
    (own : (t : ℕ) → cost_at functions p.number t ≡ value_at f t) (values : (t : ℕ) → value_at h t ≡ better_part_at f g t) where
  kept : (t x : ℕ) → value_at h t ≡ Some x → (better_at f g t ≡ true) × (value_at g t ≡ Some x)
  kept t x is = behind_test (better_at f g t) (value_at g t) x (sym (values t) ∙ is)

  pub cut_better : (p.state ≡ state → ⊥) → r.no_worse p.state state ≡ true → IsCut r functions state p (value_at g) (value_at h)
  cut_better other better = record {
    kept = λ t x is. (kept t x is).1;
    clear = λ t x is cut.
        let k = kept t x is in
        let low = less_than (value_at f t) x cut.cost (ap (λ o. is_better (value_at f t) o) (sym k.1) ∙ k.0) (sym (own t) ∙ cut.known) in
        omega (arith, low, cut.within);
    left = λ t x is. by t x is (better_at f g t) refl;
  }
    where
      by : (t x : ℕ) → value_at g t ≡ Some x → (b : Bool) → better_at f g t ≡ b → (value_at h t ≡ Some x) ⊎ IsCutAt r functions state p t x
      by t x is true less = inl (values t ∙ ap (λ b. if b then value_at g t else None) less ∙ is)
      by t x is false never =
          let y = no_less (value_at f t) x (ap (λ o. is_better (value_at f t) o) (sym is) ∙ never) in
          inr (record { other = other; better = better; cost = y.0; known = own t ∙ y.1; within = y.2 })

-- what is no better state cuts nothing
pub cut_nothing : (r : Ruler) (functions : List (List Piece)) (state : ℕ) (p : Place) (f : ℕ → Option ℕ)
    → ((p.state ≡ state → ⊥) → r.no_worse p.state state ≡ true → ⊥) → IsCut r functions state p f f
cut_nothing r functions state p f never = record {
  kept = λ t x is. is;
  clear = λ t x is cut. never cut.other cut.better;
  left = λ t x is. inl is;
}
