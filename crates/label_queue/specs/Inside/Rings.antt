-- A circular list of buckets: each node with a key has an entry in the bucket of its key (source: Dial 1969).
use Rattle.std.specs.Prelude.{◌≡◌, ◌⊎◌, ℕ, ◌+◌, ◌-◌, ◌^◌, ◌≤◌, ◌<◌, Bool, true, false, ltb, Option, Some, None, List, [], ◌∷◌, length, get_or, map}
use Rattle.std.specs.List.{Contains, sum_by}
use Rattle.label_queue.specs.Keys.{key_at}
use Rattle.label_queue.specs.declared.ring.Ring.{Ring}

-- a number as a key, if it is one
abbrev pub key_by : Bool → ℕ → Option ℕ
key_by true n = Some n
key_by false n = None

-- the key that a number stands for: all but the last
unfoldable pub key_of_number : ℕ → Option ℕ
key_of_number n = key_by (ltb n (2 ^ 64 - 1)) n

-- 1 for a key, 0 for none
abbrev pub one_key : Option ℕ → ℕ
one_key None = 0
one_key (Some x) = 1

-- the first key of a list
abbrev pub first_key : List (Option ℕ) → ℕ
first_key [] = 0
first_key (None ∷ keys) = first_key keys
first_key (Some x ∷ keys) = x

-- the number of buckets
abbrev pub span_of : Ring → ℕ
span_of ring = length ring.buckets.items

-- the nodes of the bucket at a place
abbrev pub bucket_at : Ring → ℕ → List ℕ
bucket_at ring slot = get_or (map (λ b. b.items) ring.buckets.items) slot []

-- the bucket at this place is that of the key: as far behind the place of the floor as the key is above the floor, around the end
abbrev pub IsSlot : Ring → ℕ → ℕ → Type 0
IsSlot ring key slot = (slot + ring.floor ≡ ring.place + key) ⊎ (slot + span_of ring + ring.floor ≡ ring.place + key)

-- node v has an entry in the bucket of the key
pub record HasEntry (ring : Ring) (v key : ℕ) : Type 0 where
  pub slot : ℕ
  pub within : slot < span_of ring
  pub is : IsSlot ring key slot
  pub has : Contains (bucket_at ring slot) v

-- the floor stays at its place, and all entries stay
pub record KeepsEntries (old new : Ring) : Type 0 where
  pub place : new.place ≡ old.place
  pub floor : new.floor ≡ old.floor
  pub span : span_of new ≡ span_of old
  pub entries : (v key : ℕ) → HasEntry old v key → HasEntry new v key

-- the floor rises by one, and the entries above it stay
pub record PassesFloor (old new : Ring) : Type 0 where
  pub place : new.place < span_of new
  pub floor : new.floor ≡ old.floor + 1
  pub span : span_of new ≡ span_of old
  pub entries : (v key : ℕ) → old.floor < key → HasEntry old v key → HasEntry new v key

-- the key is one from the floor to the floor + span - 1
abbrev pub IsAhead : Ring → ℕ → Type 0
IsAhead ring key = (ring.floor ≤ key) × (key < ring.floor + span_of ring)

-- an entry that counts at the floor is taken out, or there is none; the others that count stay
pub record TakesEntry (old new : Ring) (keys : List (Option ℕ)) (taken : Option ℕ) : Type 0 where
  pub place : new.place ≡ old.place
  pub floor : new.floor ≡ old.floor
  pub span : span_of new ≡ span_of old
  pub counts : (v : ℕ) → taken ≡ Some v → key_at keys v ≡ Some old.floor
  pub none : taken ≡ None → (v : ℕ) → key_at keys v ≡ Some old.floor → HasEntry old v old.floor → ⊥
  pub entries : (v key : ℕ) → IsAhead old key → key_at keys v ≡ Some key → (taken ≡ Some v → ⊥) → HasEntry old v key → HasEntry new v key

-- each key is ahead, and its node has an entry
pub record HoldsKeys (ring : Ring) (keys : List (Option ℕ)) : Type 0 where
  pub place : ring.place < span_of ring
  pub ahead : (v key : ℕ) → key_at keys v ≡ Some key → IsAhead ring key
  pub real : (v key : ℕ) → key_at keys v ≡ Some key → key < 2 ^ 64 - 1
  pub entries : (v key : ℕ) → key_at keys v ≡ Some key → HasEntry ring v key

-- the floor is the least key, that of node v, and the other nodes keep their entries
pub record LeavesLeast (old new : Ring) (keys : List (Option ℕ)) (v : ℕ) : Type 0 where
  pub place : new.place < span_of new
  pub span : span_of new ≡ span_of old
  pub was : key_at keys v ≡ Some new.floor
  pub ahead : (w key : ℕ) → key_at keys w ≡ Some key → IsAhead new key
  pub entries : (w key : ℕ) → key_at keys w ≡ Some key → (w ≡ v → ⊥) → HasEntry new w key

-- the ring holds the keys, and `waiting` is their number
pub record IsBucketed (ring : Ring) (keys : List (Option ℕ)) (waiting : ℕ) : Type 0 where
  pub holds : HoldsKeys ring keys
  pub count : waiting ≡ sum_by one_key keys
  pub small : length keys < 2 ^ 32
