-- A write of a sum and of a key reaches a node.
use Rattle.std.proofs.Common.{◌≡◌, inl, inr, ℕ, ◌-◌, ◌≤◌, ◌<◌, Option, Some, None, List, length, set, refl, sym, ◌∙◌, arith}
use Rattle.std.specs.Option.{IsSomeAnd}
use Rattle.label_queue.specs.Keys.{key_at, IsSet}
use Rattle.label_queue.proofs.Places.{is_set}
use Rattle.potentials.specs.Inside.Summing.{HasSum, GetsSum}

pub sum_of : (known : List (Option ℕ)) (u sum : ℕ) (o : Option ℕ) → key_at known u ≡ o → IsSomeAnd o (λ least. least ≤ sum) → HasSum (key_at known) u sum
sum_of known u sum None is some = absurd some
sum_of known u sum (Some x) is le = record { least = x; is = is; within = le }

pub some_at : (o : Option ℕ) (x sum : ℕ) → o ≡ Some x → sum ≤ x → IsSomeAnd o (λ before. sum ≤ before)
some_at None x sum is le = cc
some_at (Some y) x sum is le = let e : y ≡ x = cc in omega (arith, e, le)

pub reached_same : (known keys : List (Option ℕ)) (u sum : ℕ) (o : Option ℕ) → key_at known u ≡ o → IsSomeAnd o (λ least. least ≤ sum)
    → GetsSum u sum (key_at known) (key_at known) (key_at keys) (key_at keys)
reached_same known keys u sum o is some = record { others = λ w ne. (refl, refl); here = inl (sum_of known u sum o is some, refl, refl) }

pub reached_new : (known old_keys new_keys : List (Option ℕ)) (u sum : ℕ) (o : Option ℕ) → 1 ≤ u → u ≤ length known → key_at known u ≡ o
    → ((x : ℕ) → o ≡ Some x → sum < x) → IsSet old_keys new_keys u (Some sum)
    → GetsSum u sum (key_at known) (key_at (set known (u - 1) (Some sum))) (key_at old_keys) (key_at new_keys)
reached_new known old_keys new_keys u sum o low high is none put =
    let s = is_set known u (Some sum) low high in
    record {
      others = λ w ne. (s.others w ne, put.others w ne);
      here = inr ((λ h. omega (arith, h.within, none h.least (sym is ∙ h.is))), s.here, put.here);
    }

-- a node without a sum has no key
pub no_key : (known keys : List (Option ℕ)) (u : ℕ) → ((v x : ℕ) → key_at keys v ≡ Some x → key_at known v ≡ Some x) → key_at known u ≡ None
    → key_at keys u ≡ None
no_key known keys u waits none = by (key_at keys u) refl
  where
    by : (o : Option ℕ) → key_at keys u ≡ o → key_at keys u ≡ None
    by None is = is
    by (Some x) is = let bad : None ≡ Some x = sym none ∙ waits u x is in cc

-- a node with a larger sum has it as its key
pub larger_key : (known keys : List (Option ℕ)) (u sum y : ℕ) → ((v x : ℕ) → key_at keys v ≡ Some x → key_at known v ≡ Some x)
    → ((x : ℕ) → key_at known u ≡ Some x → key_at keys u ≡ None → x ≤ sum) → key_at known u ≡ Some y → sum < y
    → IsSomeAnd (key_at keys u) (λ before. sum ≤ before)
larger_key known keys u sum y waits settled here less = by (key_at keys u) refl
  where
    by : (o : Option ℕ) → key_at keys u ≡ o → IsSomeAnd (key_at keys u) (λ before. sum ≤ before)
    by None is = absurd (omega (arith, settled y here is, less))
    by (Some x) is = let e : Some y ≡ Some x = sym here ∙ waits u x is in let f : y ≡ x = cc in some_at (key_at keys u) x sum is (omega (arith, f, less))
