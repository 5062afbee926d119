-- What a queue of buckets keeps as a key changes.
use Rattle.std.proofs.Common.{◌≡◌, ◌⊎◌, inl, inr, ⊎_elim, ℕ, ◌+◌, ◌-◌, ◌^◌, ◌≤◌, ◌<◌, Option, Some, None, List, length, get_or, set, refl, sym, ◌∙◌}
use Rattle.std.proofs.Common.{ap, subst, arith, length-set}
use Rattle.std.specs.Option.{IsSomeAnd}
use Rattle.std.specs.List.{sum_by}
use Rattle.std.proofs.lemmas.Bool.{cases_eq}
use Rattle.std.proofs.lemmas.List.{ext_get_or}
use Rattle.std.proofs.lemmas.List.Sums.{sum_by-set}
use Rattle.label_queue.specs.Keys.{key_at, IsSet, IsOneOfLeastTaken}
use Rattle.label_queue.specs.Inside.Rings.{one_key, span_of, HasEntry, KeepsEntries, IsAhead, HoldsKeys, LeavesLeast, IsBucketed}
use Rattle.label_queue.specs.declared.ring.Ring.{Ring}
use Rattle.label_queue.proofs.Places.{key_read, is_set}
use Rattle.label_queue.proofs.Places.{key_within}
use Rattle.label_queue.proofs.Waiting.{no_more}

-- a list in which one key is set is the list with that item set
set_is : (old new : List (Option ℕ)) (v : ℕ) (key : Option ℕ) → 1 ≤ v → v ≤ length old → IsSet old new v key → new ≡ set old (v - 1) key
set_is old new v key low high is = ext_get_or None new (set old (v - 1) key) long each
  where
    long : length new ≡ length (set old (v - 1) key)
    long = is.room ∙ sym (length-set old (v - 1) key)

    each : (i : ℕ) → i < length new → get_or new i None ≡ get_or (set old (v - 1) key) i None
    each i below =
        let own = is_set old v key low high in
        let e : i + 1 - 1 ≡ i = omega arith in
        let same : key_at new (i + 1) ≡ key_at (set old (v - 1) key) (i + 1) = ⊎_elim
        (λ (here : i + 1 ≡ v). ap (key_at new) here ∙ (is.here ∙ (sym own.here ∙ ap (key_at (set old (v - 1) key)) (sym here))))
        (λ (other : i + 1 ≡ v → ⊥). is.others (i + 1) other ∙ sym (own.others (i + 1) other))
        (cases_eq (i + 1) v) in
        subst (λ n. get_or new n None ≡ get_or (set old (v - 1) key) n None) e
        (sym (key_read new (i + 1) None (omega arith) (omega (arith, below)))
        ∙ (same ∙ key_read (set old (v - 1) key) (i + 1) None (omega arith) (omega (arith, below, long))))

-- how many have keys
count_set : (old new : List (Option ℕ)) (v : ℕ) (key : Option ℕ) → 1 ≤ v → v ≤ length old → IsSet old new v key
    → sum_by one_key new + one_key (key_at old v) ≡ sum_by one_key old + one_key key
count_set old new v key low high is =
    ap (λ (w : List (Option ℕ)). sum_by one_key w + one_key (key_at old v)) (set_is old new v key low high is)
    ∙ (ap (λ o. sum_by one_key (set old (v - 1) key) + one_key o) (key_read old v None low high)
    ∙ sum_by-set one_key old (v - 1) key None (omega (arith, low, high)))

-- no more than have places
pub count_small : (ring : Ring) (keys : List (Option ℕ)) (waiting : ℕ) → IsBucketed ring keys waiting → waiting < 2 ^ 32
count_small ring keys waiting whole = omega (arith, whole.count, whole.small, no_more keys)

-- a key is set, and the node has an entry for it
holds_set : (old new : Ring) (keys new_keys : List (Option ℕ)) (v key : ℕ) → HoldsKeys old keys → KeepsEntries old new → HasEntry new v key → IsAhead old key
    → key < 2 ^ 64 - 1 → IsSet keys new_keys v (Some key) → HoldsKeys new new_keys
holds_set old new keys new_keys v key holds kept entry ahead real is = record {
  place = omega (arith, holds.place, kept.place, kept.span);
  ahead = λ w k there. ⊎_elim
      (λ (here : k ≡ key). (omega (arith, here, ahead, kept.floor), omega (arith, here, ahead, kept.floor, kept.span)))
      (λ (was : key_at keys w ≡ Some k). let at = holds.ahead w k was in (omega (arith, at, kept.floor), omega (arith, at, kept.floor, kept.span)))
      (key_cases w k there).0;
  real = λ w k there. ⊎_elim
      (λ (here : k ≡ key). omega (arith, here, real))
      (λ (was : key_at keys w ≡ Some k). holds.real w k was)
      (key_cases w k there).0;
  entries = λ w k there. (key_cases w k there).1;
}
  where
    key_cases : (w k : ℕ) → key_at new_keys w ≡ Some k → ((k ≡ key) ⊎ (key_at keys w ≡ Some k)) × HasEntry new w k
    key_cases w k there = ⊎_elim
        (λ (here : w ≡ v).
        let e : Some k ≡ Some key = sym there ∙ (ap (key_at new_keys) here ∙ is.here) in
        let same : k ≡ key = cc in
        (inl same, subst (λ n. HasEntry new n k) (sym here) (subst (λ n. HasEntry new v n) (sym same) entry)))
        (λ (other : w ≡ v → ⊥).
        let was : key_at keys w ≡ Some k = sym (is.others w other) ∙ there in
        (inr was, kept.entries w k (holds.entries w k was)))
        (cases_eq w v)

-- a node without a key gets one
pub bucketed_put : (old new : Ring) (keys new_keys : List (Option ℕ)) (waiting v key : ℕ) → IsBucketed old keys waiting → KeepsEntries old new
    → HasEntry new v key → IsAhead old key → key < 2 ^ 64 - 1 → 1 ≤ v → v ≤ length keys → key_at keys v ≡ None → IsSet keys new_keys v (Some key)
    → IsBucketed new new_keys (waiting + 1)
bucketed_put old new keys new_keys waiting v key whole kept entry ahead real low high none is = record {
  holds = holds_set old new keys new_keys v key whole.holds kept entry ahead real is;
  count = omega (arith, count_set keys new_keys v (Some key) low high is, ap one_key none, whole.count);
  small = omega (arith, whole.small, is.room);
}

-- the key that is no smaller
pub key_before : (keys : List (Option ℕ)) (v key : ℕ) → IsSomeAnd (key_at keys v) (λ before. key ≤ before) → (x : ℕ) × (key_at keys v ≡ Some x) × (key ≤ x)
key_before keys v key larger = by (key_at keys v) refl larger
  where
    by : (o : Option ℕ) → key_at keys v ≡ o → IsSomeAnd o (λ before. key ≤ before) → (x : ℕ) × (key_at keys v ≡ Some x) × (key ≤ x)
    by None is larger = absurd larger
    by (Some x) is larger = (x, is, larger)

-- a node with a key gets a smaller one
pub bucketed_lower : (old new : Ring) (keys new_keys : List (Option ℕ)) (waiting v key : ℕ) → IsBucketed old keys waiting → KeepsEntries old new
    → HasEntry new v key → old.floor ≤ key → 1 ≤ v → v ≤ length keys → IsSomeAnd (key_at keys v) (λ before. key ≤ before) → IsSet keys new_keys v (Some key)
    → IsBucketed new new_keys waiting
bucketed_lower old new keys new_keys waiting v key whole kept entry ahead low high larger is =
    let was = key_before keys v key larger in
    let at = whole.holds.ahead v was.0 was.1 in
    record {
      holds = holds_set old new keys new_keys v key whole.holds kept entry (ahead, omega (arith, at, was.2))
          (omega (arith, whole.holds.real v was.0 was.1, was.2)) is;
      count = omega (arith, count_set keys new_keys v (Some key) low high is, ap one_key was.1, whole.count);
      small = omega (arith, whole.small, is.room);
    }

-- the node with the least key loses it
pub bucketed_taken : (old new : Ring) (keys new_keys : List (Option ℕ)) (waiting v : ℕ) → IsBucketed old keys waiting → LeavesLeast old new keys v
    → IsSet keys new_keys v None → IsBucketed new new_keys (waiting - 1)
bucketed_taken old new keys new_keys waiting v whole left is =
    let at = key_within keys v new.floor left.was in
    record {
      holds = record {
        place = left.place;
        ahead = λ w key there. left.ahead w key (was w key there).0;
        real = λ w key there. whole.holds.real w key (was w key there).0;
        entries = λ w key there. let own = was w key there in left.entries w key own.0 own.1;
      };
      count = omega (arith, count_set keys new_keys v None at.0 at.1 is, ap one_key left.was, whole.count);
      small = omega (arith, whole.small, is.room);
    }
  where
    was : (w key : ℕ) → key_at new_keys w ≡ Some key → (key_at keys w ≡ Some key) × (w ≡ v → ⊥)
    was w key there = ⊎_elim
        (λ (here : w ≡ v). let bad : None ≡ Some key = sym is.here ∙ (ap (key_at new_keys) (sym here) ∙ there) in cc)
        (λ (other : w ≡ v → ⊥). (sym (is.others w other) ∙ there, other))
        (cases_eq w v)

-- it is one of those with the least key
pub least_taken : (old new : Ring) (keys new_keys : List (Option ℕ)) (v : ℕ) → LeavesLeast old new keys v → IsSet keys new_keys v None
    → IsOneOfLeastTaken keys new_keys v new.floor
least_taken old new keys new_keys v left is = record {
  node = key_within keys v new.floor left.was;
  was = left.was;
  least = λ w other there. (left.ahead w other there).0;
  now = is;
}

-- a ring that holds no keys
pub bucketed_new : (ring : Ring) (keys : List (Option ℕ)) (n : ℕ) → ring.place < span_of ring → ((v : ℕ) → key_at keys v ≡ None) → length keys ≡ n → n < 2 ^ 32
    → sum_by one_key keys ≡ 0 → IsBucketed ring keys 0
bucketed_new ring keys n place none long small count = record {
  holds = record {
    place = place;
    ahead = λ v key is. absurd (no_key v key is);
    real = λ v key is. absurd (no_key v key is);
    entries = λ v key is. absurd (no_key v key is);
  };
  count = sym count;
  small = omega (arith, long, small);
}
  where
    no_key : (v key : ℕ) → key_at keys v ≡ Some key → ⊥
    no_key v key is = let bad : None ≡ Some key = sym (none v) ∙ is in cc
