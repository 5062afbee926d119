-- States by number, the places of each node, and their codes (source: own; no law).
use Rattle.std.specs.Prelude.{◌≡◌, ℕ, zero, suc, ◌^◌, nat_eq, if◌then◌else◌, Some, List, [], ◌∷◌, map, Contains, slice_get, unwrap_or, Vec}
use Rattle.std.specs.declared.alloc.Global.{Global}
use Rattle.route_base.specs.Net.{at_number}
use Rattle.state_dominance.specs.Inside.Product.{code}
use Rattle.ruled_states.specs.declared.table.Info.{Info}
use Rattle.ruled_states.specs.declared.table.Place.{Place}

-- the states by number, and the number of rows
pub record TableView : Type 0 where
  pub infos : List Info
  pub rows : ℕ

abbrev pub rows_of : List (Vec Place Global) → List (List Place)
rows_of rows = map (λ v. v.items) rows

-- the places of a node
abbrev pub row_at : List (List Place) → ℕ → List Place
row_at rows v = unwrap_or (slice_get rows v) []

-- the number is that of a state of a node
pub record IsStateOf (infos : List Info) (v k n : ℕ) : Type 0 where
  pub info : Info
  pub at : at_number infos n ≡ Some info
  pub node : info.node.0 ≡ v
  pub state : info.state ≡ k

-- the places are those of all states of the node
pub record ArePlacesOf (infos : List Info) (v : ℕ) (row : List Place) : Type 0 where
  pub sound : (p : Place) → Contains row p → IsStateOf infos v p.state p.number
  pub full : (k n : ℕ) → IsStateOf infos v k n → (p : Place) × Contains row p × (p.state ≡ k) × (p.number ≡ n)

-- each row has the places of all states of its node, and no two states are one
pub record IsTable (infos : List Info) (rows : List (List Place)) : Type 0 where
  pub places : (v : ℕ) → ArePlacesOf infos v (row_at rows v)
  pub distinct : (v k n m : ℕ) → IsStateOf infos v k n → IsStateOf infos v k m → n ≡ m

-- the code of a state
abbrev pub code_of : Info → ℕ
code_of i = code (2 ^ 64) i.node.0 i.state

abbrev pub next_number : ℕ → ℕ
next_number zero = 0
next_number (suc n) = suc (suc n)

-- the number of the first state with this code, or 0
abbrev pub number_in : List Info → ℕ → ℕ
number_in [] c = 0
number_in (i ∷ is) c = if nat_eq (code_of i) c then 1 else next_number (number_in is c)
