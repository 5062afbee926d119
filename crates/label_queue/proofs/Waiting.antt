-- The number of nodes with keys.
use Rattle.std.proofs.Common.{◌≡◌, ⊎_elim, ℕ, suc, ◌-◌, ◌≤◌, ◌<◌, Option, Some, None, List, [], ◌∷◌, length, get_or, refl, sym, ◌∙◌, ap, arith}
use Rattle.std.specs.Prelude.{slice_get}
use Rattle.std.specs.Option.{option_flatten}
use Rattle.std.specs.List.{sum_by}
use Rattle.std.proofs.lemmas.Bool.{cases_lt}
use Rattle.std.proofs.lemmas.List.Sums.{sum_by-cons, get_or-le-sum_by}
use Rattle.label_queue.specs.Keys.{key_at}
use Rattle.label_queue.specs.Inside.Rings.{one_key, first_key}
use Rattle.label_queue.proofs.Places.{key_within, key_read}

-- where some node has a key, one has the first of the list
pub has_first : (keys : List (Option ℕ)) → 1 ≤ sum_by one_key keys → (v : ℕ) × (key_at keys v ≡ Some (first_key keys))
unfolding key_at
has_first keys some = let at = first_at keys some in (suc at.0, is_at at.0 at.1)
  where
    first_at : (keys : List (Option ℕ)) → 1 ≤ sum_by one_key keys → (k : ℕ) × (slice_get keys k ≡ Some (Some (first_key keys)))
    first_at [] some = absurd (omega (arith, some))
    first_at (None ∷ keys) some = let at = first_at keys (omega (arith, some)) in (suc at.0, at.1)
    first_at (Some x ∷ keys) some = (0, refl)

    is_at : (k : ℕ) → slice_get keys k ≡ Some (Some (first_key keys)) → key_at keys (suc k) ≡ Some (first_key keys)
    is_at k is = ap option_flatten is

-- where no key is counted, no node has one
pub none_waits : (keys : List (Option ℕ)) → sum_by one_key keys ≡ 0 → (v : ℕ) → key_at keys v ≡ None
none_waits keys none v = by (key_at keys v) refl
  where
    by : (o : Option ℕ) → key_at keys v ≡ o → key_at keys v ≡ None
    by None is = is
    by (Some key) is =
        let at = key_within keys v key is in
        let read : get_or keys (v - 1) None ≡ Some key = sym (key_read keys v None at.0 at.1) ∙ is in
        absurd (omega (arith, none, get_or-le-sum_by one_key keys (v - 1) None (omega (arith, at)), ap one_key read))

pub no_more : (keys : List (Option ℕ)) → sum_by one_key keys ≤ length keys
no_more [] = omega arith
no_more (None ∷ keys) = omega (arith, no_more keys)
no_more (Some x ∷ keys) = omega (arith, sum_by-cons one_key (Some x) keys, no_more keys)

-- where no node has a key, none is counted
pub none_counted : (keys : List (Option ℕ)) → ((v : ℕ) → key_at keys v ≡ None) → sum_by one_key keys ≡ 0
none_counted keys none = ⊎_elim
    (λ (some : 0 < sum_by one_key keys). let first = has_first keys (omega (arith, some)) in
    let bad : None ≡ Some (first_key keys) = sym (none first.0) ∙ first.1 in cc)
    (λ (zero : sum_by one_key keys ≤ 0). omega (arith, zero))
    (cases_lt 0 (sum_by one_key keys))
