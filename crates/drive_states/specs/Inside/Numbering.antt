-- Numbers by row and place, and states that are numbered by them (source: own; no law).
use Rattle.std.specs.Prelude.{◌≡◌, ℕ, suc, ◌<◌, Some, List, [], length, slice_index_or}
use Rattle.route_base.specs.Net.{at_number}
use Rattle.drive_states.specs.declared.rule.State.{State}

-- the number at a place of a row, or 0
abbrev pub number_at : List (List ℕ) → ℕ → ℕ → ℕ
number_at rows v k = slice_index_or (slice_index_or rows v []) k 0

-- the row has this place
abbrev pub HasPlace : List (List ℕ) → ℕ → ℕ → Type 0
HasPlace rows v k = k < length (slice_index_or rows v [])

-- the number at one place changes
pub record IsNumberSet (old new : List (List ℕ)) (v k number : ℕ) : Type 0 where
  pub here : number_at new v k ≡ number
  pub others : (w j : ℕ) → ((w ≡ v) × (j ≡ k) → ⊥) → number_at new w j ≡ number_at old w j

-- at a state's node and minutes is its number, and 0 where the state isn't among these
pub record AreNumbered (rows : List (List ℕ)) (states : List State) : Type 0 where
  pub each : (i : ℕ) (st : State) → at_number states i ≡ Some st → number_at rows st.node.0 st.driven ≡ i
  pub only : (i : ℕ) (st : State) → number_at rows st.node.0 st.driven ≡ suc i → at_number states (suc i) ≡ Some st
