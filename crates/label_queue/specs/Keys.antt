-- Keys of nodes, at most one each (source: the priority queue of Dijkstra 1959).
use Rattle.std.specs.Prelude.{◌≡◌, ◌⊎◌, ℕ, ◌≤◌, ◌<◌, Option, Some, None, List, length}
use Rattle.std.specs.Option.{option_flatten}
use Rattle.route_base.specs.Net.{at_number}

-- the key of the node, where it has one; the list has a place for each node from 1 on
unfoldable pub key_at : List (Option ℕ) → ℕ → Option ℕ
key_at keys v = option_flatten (at_number keys v)

-- node v has this key now, or none, and no other node's key changes
pub record IsSet (old new : List (Option ℕ)) (v : ℕ) (key : Option ℕ) : Type 0 where
  pub room : length new ≡ length old
  pub here : key_at new v ≡ key
  pub others : (w : ℕ) → (w ≡ v → ⊥) → key_at new w ≡ key_at old w

-- no key is smaller than this one, and no smaller node has an equal key
abbrev pub IsLeastKey : List (Option ℕ) → ℕ → ℕ → Type 0
IsLeastKey keys v key = (w other : ℕ) → key_at keys w ≡ Some other → (key < other) ⊎ ((key ≡ other) × (v ≤ w))

-- node v had the least key, and has none now
pub record IsLeastTaken (old new : List (Option ℕ)) (v key : ℕ) : Type 0 where
  pub node : (1 ≤ v) × (v ≤ length old)
  pub was : key_at old v ≡ Some key
  pub least : IsLeastKey old v key
  pub now : IsSet old new v None

-- node v had a key than which none is smaller, and has none now
pub record IsOneOfLeastTaken (old new : List (Option ℕ)) (v key : ℕ) : Type 0 where
  pub node : (1 ≤ v) × (v ≤ length old)
  pub was : key_at old v ≡ Some key
  pub least : (w other : ℕ) → key_at old w ≡ Some other → key ≤ other
  pub now : IsSet old new v None
