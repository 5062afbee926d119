-- Entries of a circular list of buckets, as one bucket changes or the floor rises.
use Rattle.std.proofs.Common.{◌≡◌, inl, inr, ◌⊎◌, ⊎_elim, ℕ, ◌+◌, ◌<◌, Option, Some, None, List, [], length, get_or, set, sym}
use Rattle.std.proofs.Common.{◌∙◌, ap, subst, arith, length-set, get_or-set_same, get_or-set_other, map}
use Rattle.std.specs.Prelude.{Vec}
use Rattle.std.specs.List.{Contains}
use Rattle.std.specs.declared.alloc.Global.{Global}
use Rattle.std.proofs.lemmas.Bool.{cases_eq}
use Rattle.std.proofs.lemmas.List.{get_or-map, length-map, map-set}
use Rattle.label_queue.specs.Keys.{key_at}
use Rattle.label_queue.specs.Inside.Rings.{span_of, bucket_at, IsSlot, HasEntry, KeepsEntries, PassesFloor, IsAhead, TakesEntry}
use Rattle.label_queue.specs.declared.ring.Ring.{Ring}

-- the bucket that is read at a place
pub bucket_read : (ring : Ring) (slot : ℕ) (bucket : Vec ℕ Global) → slot < span_of ring → bucket ≡ get_or ring.buckets.items slot bucket
    → bucket_at ring slot ≡ bucket.items
bucket_read ring slot bucket below is =
    get_or-map (λ (b : Vec ℕ Global). b.items) ring.buckets.items slot bucket [] below ∙ ap (λ (b : Vec ℕ Global). b.items) (sym is)

-- one bucket is another now
module _ (old new : Ring) (slot : ℕ) (bucket : Vec ℕ Global) (below : slot < span_of old) (place : new.place ≡ old.place) (floor : new.floor ≡ old.floor)
    (set_to : new.buckets.items ≡ set old.buckets.items slot bucket) where
  pub span_same : span_of new ≡ span_of old
  span_same = ap (λ (w : List (Vec ℕ Global)). length w) set_to ∙ length-set old.buckets.items slot bucket

  lists : map (λ (b : Vec ℕ Global). b.items) new.buckets.items ≡ set (map (λ (b : Vec ℕ Global). b.items) old.buckets.items) slot bucket.items
  lists = ap (λ (w : List (Vec ℕ Global)). map (λ (b : Vec ℕ Global). b.items) w) set_to
      ∙ map-set (λ (b : Vec ℕ Global). b.items) old.buckets.items slot bucket

  pub bucket_here : bucket_at new slot ≡ bucket.items
  bucket_here = ap (λ (w : List (List ℕ)). get_or w slot []) lists
      ∙ get_or-set_same (map (λ (b : Vec ℕ Global). b.items) old.buckets.items) slot bucket.items []
      (omega (arith, below, length-map old.buckets.items (λ (b : Vec ℕ Global). b.items)))

  pub bucket_other : (i : ℕ) → (i ≡ slot → ⊥) → bucket_at new i ≡ bucket_at old i
  bucket_other i ne = ap (λ (w : List (List ℕ)). get_or w i []) lists
      ∙ get_or-set_other (map (λ (b : Vec ℕ Global). b.items) old.buckets.items) slot i bucket.items [] ne

  -- an entry stays where the bucket keeps it
  pub entry_kept : (v key : ℕ) → (entry : HasEntry old v key) → (entry.slot ≡ slot → Contains bucket.items v) → HasEntry new v key
  entry_kept v key entry here = record {
    slot = entry.slot;
    within = omega (arith, entry.within, span_same);
    is = ⊎_elim
        (λ (near : entry.slot + old.floor ≡ old.place + key). inl (omega (arith, near, place, floor)))
        (λ (far : entry.slot + span_of old + old.floor ≡ old.place + key). inr (omega (arith, far, place, floor, span_same)))
        entry.is;
    has = ⊎_elim
        (λ (same : entry.slot ≡ slot). subst (λ (w : List ℕ). Contains w v) (sym bucket_here ∙ ap (bucket_at new) (sym same)) (here same))
        (λ (other : entry.slot ≡ slot → ⊥). subst (λ (w : List ℕ). Contains w v) (sym (bucket_other entry.slot other)) entry.has)
        (cases_eq entry.slot slot);
  }

  -- all entries stay where the bucket keeps its nodes
  pub entries_kept : ((v : ℕ) → Contains (bucket_at old slot) v → Contains bucket.items v) → KeepsEntries old new
  entries_kept more = record {
    place = place;
    floor = floor;
    span = span_same;
    entries = λ v key entry. entry_kept v key entry (λ same. more v (subst (λ i. Contains (bucket_at old i) v) same entry.has));
  }

  -- a node of the bucket has an entry for the key of the bucket
  pub entry_here : (v key : ℕ) → IsSlot old key slot → Contains bucket.items v → HasEntry new v key
  entry_here v key is has = record {
    slot = slot;
    within = omega (arith, below, span_same);
    is = ⊎_elim
        (λ (near : slot + old.floor ≡ old.place + key). inl (omega (arith, near, place, floor)))
        (λ (far : slot + span_of old + old.floor ≡ old.place + key). inr (omega (arith, far, place, floor, span_same)))
        is;
    has = subst (λ (w : List ℕ). Contains w v) (sym bucket_here) has;
  }

-- a key that is ahead and whose bucket is that of the floor is the floor
at_floor : (ring : Ring) (v key : ℕ) → ring.place < span_of ring → IsAhead ring key → (entry : HasEntry ring v key) → entry.slot ≡ ring.place → key ≡ ring.floor
at_floor ring v key place ahead entry same = ⊎_elim
    (λ (near : entry.slot + ring.floor ≡ ring.place + key). omega (arith, near, same))
    (λ (far : entry.slot + span_of ring + ring.floor ≡ ring.place + key). absurd (omega (arith, far, same, ahead)))
    entry.is

-- the bucket of the floor is at its place
pub floor_slot : (ring : Ring) (v : ℕ) → ring.place < span_of ring → (entry : HasEntry ring v ring.floor) → entry.slot ≡ ring.place
floor_slot ring v place entry = ⊎_elim
    (λ (near : entry.slot + ring.floor ≡ ring.place + ring.floor). omega (arith, near))
    (λ (far : entry.slot + span_of ring + ring.floor ≡ ring.place + ring.floor). absurd (omega (arith, far, place)))
    entry.is

no_item : (v : ℕ) (xs : List ℕ) → xs ≡ [] → Contains xs v → ⊥
no_item v xs none has = omega (arith, has.1, ap (λ (w : List ℕ). length w) none)

-- an entry that counts is taken out of the bucket of the floor
pub takes_entry : (old new : Ring) (bucket after : Vec ℕ Global) (keys : List (Option ℕ)) (taken : Option ℕ) → old.place < span_of old
    → bucket ≡ get_or old.buckets.items old.place bucket → new.place ≡ old.place → new.floor ≡ old.floor
    → new.buckets.items ≡ set old.buckets.items old.place after → ((v : ℕ) → taken ≡ Some v → key_at keys v ≡ Some old.floor)
    → (taken ≡ None → after.items ≡ [])
    → ((v : ℕ) → key_at keys v ≡ Some old.floor → Contains bucket.items v → Contains after.items v ⊎ (taken ≡ Some v))
    → TakesEntry old new keys taken
takes_entry old new bucket after keys taken below is place floor set_to counts none kept = record {
  place = place;
  floor = floor;
  span = span_same old new old.place after below place floor set_to;
  counts = counts;
  none = λ empty v key entry.
      let here = floor_slot old v below entry in
      ⊎_elim
      (λ (has : Contains after.items v). no_item v after.items (none empty) has)
      (λ (some : taken ≡ Some v). let bad : None ≡ Some v = sym empty ∙ some in cc)
      (kept v key (in_bucket v entry.slot here entry.has));
  entries = λ v key ahead has other entry. entry_kept old new old.place after below place floor set_to v key entry
      (λ same. ⊎_elim
      (λ (stays : Contains after.items v). stays)
      (λ (some : taken ≡ Some v). absurd (other some))
      (kept v (has ∙ ap (λ n. Some n) (at_floor old v key below ahead entry same)) (in_bucket v entry.slot same entry.has)));
}
  where
    in_bucket : (v slot : ℕ) → slot ≡ old.place → Contains (bucket_at old slot) v → Contains bucket.items v
    in_bucket v slot same has = subst (λ (w : List ℕ). Contains w v) (ap (bucket_at old) same ∙ bucket_read old old.place bucket below is) has

-- the floor rises by one, with its place
pub passes_floor : (old new : Ring) → old.place < span_of old → new.buckets.items ≡ old.buckets.items → new.floor ≡ old.floor + 1
    → ((new.place ≡ old.place + 1) × (old.place + 1 < span_of old)) ⊎ ((new.place ≡ 0) × (old.place + 1 ≡ span_of old)) → PassesFloor old new
passes_floor old new below same floor place = record {
  place = ⊎_elim
      (λ (next : (new.place ≡ old.place + 1) × (old.place + 1 < span_of old)). omega (arith, next.0, next.1, span))
      (λ (first : (new.place ≡ 0) × (old.place + 1 ≡ span_of old)). omega (arith, first.0, first.1, span))
      place;
  floor = floor;
  span = span;
  entries = λ v key above entry. record {
    slot = entry.slot;
    within = omega (arith, entry.within, span);
    is = ⊎_elim
        (λ (next : (new.place ≡ old.place + 1) × (old.place + 1 < span_of old)). ⊎_elim
        (λ (near : entry.slot + old.floor ≡ old.place + key). inl (omega (arith, near, next.0, floor)))
        (λ (far : entry.slot + span_of old + old.floor ≡ old.place + key). inr (omega (arith, far, next.0, floor, span)))
        entry.is)
        (λ (first : (new.place ≡ 0) × (old.place + 1 ≡ span_of old)). ⊎_elim
        (λ (near : entry.slot + old.floor ≡ old.place + key). absurd (omega (arith, near, first.1, above, entry.within)))
        (λ (far : entry.slot + span_of old + old.floor ≡ old.place + key). inl (omega (arith, far, first.0, first.1, floor)))
        entry.is)
        place;
    has = subst (λ (w : List ℕ). Contains w v)
        (ap (λ (w : List (Vec ℕ Global)). get_or (map (λ (b : Vec ℕ Global). b.items) w) entry.slot []) (sym same)) entry.has;
  };
}
  where
    span : span_of new ≡ span_of old
    span = ap (λ (w : List (Vec ℕ Global)). length w) same
