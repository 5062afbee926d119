-- Keys by place: a write to a place sets the key of one node.
use Rattle.std.proofs.Common.{◌≡◌, ⊎_elim, ℕ, zero, suc, ◌-◌, ◌≤◌, ◌<◌, Option, Some, None, List, length, get_or, set, replicate, refl, sym, ◌∙◌, ap, arith}
use Rattle.std.proofs.Common.{get_or-set_other, get_or-set_same, length-set}
use Rattle.std.proofs.lemmas.Bool.{cases_lt}
use Rattle.std.proofs.lemmas.Option.{slice_get-get_or, slice_get_past}
use Rattle.std.specs.Option.{option_flatten}
use Rattle.label_queue.specs.Keys.{key_at, IsSet}

pub key_read : (keys : List (Option ℕ)) (v : ℕ) (d : Option ℕ) → 1 ≤ v → v ≤ length keys → key_at keys v ≡ get_or keys (v - 1) d
unfolding key_at
key_read keys zero d low high = absurd (omega (arith, low))
key_read keys (suc i) d low high = let e : suc i - 1 ≡ i = omega arith in rw e (ap option_flatten (slice_get-get_or keys i d (omega (arith, high))))

pub key_past : (keys : List (Option ℕ)) (v : ℕ) → length keys < v → key_at keys v ≡ None
unfolding key_at
key_past keys zero past = refl
key_past keys (suc i) past = ap option_flatten (slice_get_past keys i (omega (arith, past)))

pub key_zero : (keys : List (Option ℕ)) → key_at keys 0 ≡ None
unfolding key_at
key_zero keys = refl

-- a node with a key has a place
pub key_within : (keys : List (Option ℕ)) (v key : ℕ) → key_at keys v ≡ Some key → (1 ≤ v) × (v ≤ length keys)
key_within keys zero key is = let bad : None ≡ Some key = sym (key_zero keys) ∙ is in cc
key_within keys (suc v) key is = ⊎_elim
    (λ (past : length keys < suc v). let bad : None ≡ Some key = sym (key_past keys (suc v) past) ∙ is in cc)
    (λ (within : suc v ≤ length keys). (omega arith, within))
    (cases_lt (length keys) (suc v))

pub is_set : (keys : List (Option ℕ)) (v : ℕ) (key : Option ℕ) → 1 ≤ v → v ≤ length keys → IsSet keys (set keys (v - 1) key) v key
is_set keys v key low high = record {
  room = length-set keys (v - 1) key;
  here = key_read (set keys (v - 1) key) v None low (omega (arith, high, length-set keys (v - 1) key))
      ∙ get_or-set_same keys (v - 1) key None (omega (arith, low, high));
  others = λ w ne. ⊎_elim
      (λ (some : 0 < w). ⊎_elim
      (λ (past : length keys < w). key_past (set keys (v - 1) key) w (omega (arith, past, length-set keys (v - 1) key)) ∙ sym (key_past keys w past))
      (λ (within : w ≤ length keys).
      let apart : w - 1 ≡ v - 1 → ⊥ = λ same. ne (omega (arith, same, low, some)) in
      key_read (set keys (v - 1) key) w None (omega (arith, some)) (omega (arith, within, length-set keys (v - 1) key))
      ∙ get_or-set_other keys (v - 1) (w - 1) key None apart
      ∙ sym (key_read keys w None (omega (arith, some)) within))
      (cases_lt (length keys) w))
      (λ (none : w ≤ 0). let e : w ≡ 0 = omega (arith, none) in rw e (key_zero (set keys (v - 1) key) ∙ sym (key_zero keys)))
      (cases_lt 0 w);
}

pub key_none : (n v : ℕ) → key_at (replicate n None) v ≡ None
unfolding key_at
key_none n zero = refl
key_none zero (suc i) = refl
key_none (suc n) (suc zero) = refl
key_none (suc n) (suc (suc i)) = key_none n (suc i)
