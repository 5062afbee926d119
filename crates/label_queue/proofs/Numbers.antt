-- Numbers that stand for keys.
use Rattle.std.proofs.Common.{◌≡◌, ℕ, zero, suc, ◌∷◌, ◌-◌, ◌^◌, ◌≤◌, ◌<◌, Bool, true, false, Option, Some, None, List, length, get_or, set, replicate, refl}
use Rattle.std.proofs.Common.{sym, ◌∙◌, ap, subst, arith}
use Rattle.std.proofs.Common.{eq-eqb, map}
use Rattle.std.specs.Prelude.{IsTrue, nat_eq, ltb}
use Rattle.std.proofs.lemmas.Bool.{lt-ltb, le-ltb, ltb-true, eqb-true}
use Rattle.std.proofs.lemmas.List.{get_or-map, length-map, map-set}
use Rattle.label_queue.specs.Keys.{key_at, IsSet}
use Rattle.label_queue.specs.Inside.Rings.{key_by, key_of_number}
use Rattle.label_queue.proofs.Places.{key_read, key_zero, key_none, is_set}

pub some_number : (n : ℕ) → n < 2 ^ 64 - 1 → key_of_number n ≡ Some n
unfolding key_of_number
some_number n real = ap (λ b. key_by b n) (lt-ltb n (2 ^ 64 - 1) real)

pub no_number : (n : ℕ) → 2 ^ 64 - 1 ≤ n → key_of_number n ≡ None
unfolding key_of_number
no_number n past = ap (λ b. key_by b n) (le-ltb n (2 ^ 64 - 1) past)

pub last_number : key_of_number (2 ^ 64 - 1) ≡ None
unfolding key_of_number
last_number = refl

by_test : (b : Bool) (n key : ℕ) → key_by b n ≡ Some key → (b ≡ true) × (n ≡ key)
by_test true n key is = (refl, cc)
by_test false n key is = absurd (cc)

-- a key is the number that stands for it, and not the last
pub number_of : (n key : ℕ) → key_of_number n ≡ Some key → (n < 2 ^ 64 - 1) × (n ≡ key)
unfolding key_of_number
number_of n key is = let b = by_test (ltb n (2 ^ 64 - 1)) n key is in (ltb-true n (2 ^ 64 - 1) b.0, b.1)

module _ (numbers : List ℕ) (keys : List (Option ℕ)) (view : map key_of_number numbers ≡ keys) where
  pub room_same : length numbers ≡ length keys
  room_same = sym (length-map numbers key_of_number) ∙ ap (λ (w : List (Option ℕ)). length w) view

  pub number_read : (v n : ℕ) → 1 ≤ v → v ≤ length numbers → n ≡ get_or numbers (v - 1) n → key_at keys v ≡ key_of_number n
  number_read v n low high is = ap (λ w. key_at w v) (sym view)
      ∙ (key_read (map key_of_number numbers) v (key_of_number n) low (omega (arith, high, length-map numbers key_of_number))
      ∙ (get_or-map key_of_number numbers (v - 1) n (key_of_number n) (omega (arith, low, high)) ∙ ap key_of_number (sym is)))

  pub number_set : (v n : ℕ) (key : Option ℕ) → key_of_number n ≡ key → 1 ≤ v → v ≤ length keys
      → IsSet keys (map key_of_number (set numbers (v - 1) n)) v key
  number_set v n key is low high =
      subst (λ (w : List (Option ℕ)). IsSet keys w v key)
      (ap (λ (w : List (Option ℕ)). set w (v - 1) key) (sym view)
      ∙ (ap (λ o. set (map key_of_number numbers) (v - 1) o) (sym is) ∙ sym (map-set key_of_number numbers (v - 1) n)))
      (is_set keys v key low high)

-- a node without a place has no key
pub no_place_key : (keys : List (Option ℕ)) (v : ℕ) → v ≡ 0 → key_at keys v ≡ None
no_place_key keys v none = ap (key_at keys) none ∙ key_zero keys

pub is_number : (n key : ℕ) (o : Option ℕ) → key < 2 ^ 64 - 1 → o ≡ key_of_number n
    → (IsTrue (nat_eq n key) → o ≡ Some key) × (o ≡ Some key → IsTrue (nat_eq n key))
is_number n key o real is = (
  λ same. let e : n ≡ key = eqb-true n key same in is ∙ (ap key_of_number e ∙ some_number key real),
  λ has. eq-eqb n key (number_of n key (sym is ∙ has)).1,
)

-- a node that has no key has not this one
pub no_key_is : (key : ℕ) (o : Option ℕ) → o ≡ None → (IsTrue false → o ≡ Some key) × (o ≡ Some key → IsTrue false)
no_key_is key o none = (λ h. cc, λ has. let bad : None ≡ Some key = sym none ∙ has in cc)

pub no_numbers : (n v : ℕ) (numbers : List ℕ) → numbers ≡ replicate n (2 ^ 64 - 1) → key_at (map key_of_number numbers) v ≡ None
no_numbers n v numbers is = ap (λ (w : List ℕ). key_at (map key_of_number w) v) is ∙ (ap (λ w. key_at w v) (none n) ∙ key_none n v)
  where
    none : (n : ℕ) → map key_of_number (replicate n (2 ^ 64 - 1)) ≡ replicate n None
    none zero = refl
    none (suc n) = ap (λ o. o ∷ map key_of_number (replicate n (2 ^ 64 - 1))) last_number ∙ ap (λ w. None ∷ w) (none n)
