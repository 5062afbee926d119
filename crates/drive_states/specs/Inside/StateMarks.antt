-- The states as bits, where they are counted without a list of them (source: own; no law).
use Rattle.std.specs.Prelude.{◌≡◌, ◌≢◌, ◌⊎◌, ℕ, suc, ◌+◌, ◌-◌, ◌≤◌, ◌<◌, Option, Some, None, List, [], ◌∷◌, ◌++◌, length, Contains}
use Rattle.route_base.specs.Setting.{Setting, Road}
use Rattle.route_base.specs.declared.types.Leg.{Leg}
use Rattle.drive_states.specs.StateSize.{IsState, IsDeparture}
use Rattle.drive_states.specs.Inside.BitRows.{HasLater, HasMinute, TakesLater, bit_of, row_of, sum_below}
use Rattle.drive_states.specs.declared.rule.BreakRule.{BreakRule}
use Rattle.drive_states.specs.declared.rule.State.{State}
use Rattle.drive_states.specs.declared.marks.Marks.{Marks}

abbrev pub HasState : List (List ℕ) → State → Type 0
HasState rows st = HasMinute (row_of rows st.node.0) st.driven

-- the marked states of the nodes from 0 to the last
abbrev pub states_in : List (List ℕ) → ℕ → ℕ → ℕ
states_in rows limit nodes = sum_below (λ v. sum_below (bit_of (row_of rows v)) (limit + 1)) (nodes + 1)

-- the marked states from which a road is within the limit
abbrev pub drives_by : List (List ℕ) → ℕ → Option Road → ℕ
drives_by rows limit None = 0
drives_by rows limit (Some road) = sum_below (bit_of (row_of rows road.tail)) (limit + 1 - road.minutes)

abbrev pub drives_in : Setting → List (List ℕ) → ℕ → ℕ
drives_in s rows limit = sum_below (λ a. drives_by rows limit (s.road a)) (s.arcs + 1)

-- the marked states of a rated node at which some minutes were driven
abbrev pub rests_by : List (List ℕ) → ℕ → ℕ → Option ℕ → ℕ
rests_by rows limit v None = 0
rests_by rows limit v (Some weight) = sum_below (λ r. bit_of (row_of rows v) (suc r)) limit

abbrev pub rests_in : Setting → List (List ℕ) → ℕ → ℕ
rests_in s rows limit = sum_below (λ v. rests_by rows limit v (s.weight v)) (s.nodes + 1)

-- a row takes minutes, which are counted, and its node is queued where some are new
pub record IsMarked (old new : Marks) (v : ℕ) (from : List ℕ) (by most : ℕ) : Type 0 where
  pub fresh : ℕ
  pub takes : TakesLater (row_of old.rows v) (row_of new.rows v) from by most fresh
  pub others : (u : ℕ) → u ≢ v → row_of new.rows u ≡ row_of old.rows u
  pub done : new.done ≡ old.done
  pub count : new.count ≡ old.count + fresh
  pub queued : (u : ℕ) → Contains old.queue u → Contains new.queue u
  pub pushed : 0 < fresh → Contains new.queue v
  pub only : (u : ℕ) → Contains new.queue u → Contains old.queue u ⊎ ((u ≡ v) × (0 < fresh))
  pub short : length new.queue ≤ length old.queue + fresh

-- each mark is a state, the first state is marked, and the marks are counted
pub record AreMarks (s : Setting) (origin : ℕ) (rule : BreakRule) (marks : Marks) : Type 0 where
  pub each : (v r : ℕ) → HasMinute (row_of marks.rows v) r → IsState s origin rule.drive v r
  pub first : HasMinute (row_of marks.rows origin) 0
  pub count : marks.count ≡ states_in marks.rows rule.drive s.nodes
  pub some : (v : ℕ) → Contains marks.queue v → (r : ℕ) × HasMinute (row_of marks.rows v) r

-- where the leg leads from a marked state of the node, the state is marked too
abbrev pub IsLegMarked : Setting → BreakRule → List (List ℕ) → ℕ → Leg → Type 0
IsLegMarked s rule rows v leg = (from to : State) → from.node.0 ≡ v → HasState rows from → IsDeparture s rule from leg to → HasState rows to

abbrev pub IsSettled : Setting → BreakRule → List (List ℕ) → ℕ → Type 0
IsSettled s rule rows v = (leg : Leg) → IsLegMarked s rule rows v leg

-- where any leg leads from the state, if it is marked, the state is marked too
abbrev pub IsStateSettled : Setting → BreakRule → List (List ℕ) → State → Type 0
IsStateSettled s rule rows from = (leg : Leg) (to : State) → IsDeparture s rule from leg to → HasState rows to

-- each node is queued, or all its marks are done with, and marks that are done with are settled
pub record AreQueued (s : Setting) (origin : ℕ) (rule : BreakRule) (marks : Marks) : Type 0 where
  pub facts : AreMarks s origin rule marks
  pub waits : (v : ℕ) → Contains marks.queue v ⊎ ((r : ℕ) → HasMinute (row_of marks.rows v) r → HasMinute (row_of marks.done v) r)
  pub settled : (from : State) → HasState marks.done from → IsStateSettled s rule marks.rows from

-- a node has left the queue
pub record IsOpened (s : Setting) (origin : ℕ) (rule : BreakRule) (v : ℕ) (marks : Marks) : Type 0 where
  pub facts : AreMarks s origin rule marks
  pub waits : (u : ℕ) → u ≢ v → Contains marks.queue u ⊎ ((r : ℕ) → HasMinute (row_of marks.rows u) r → HasMinute (row_of marks.done u) r)
  pub settled : (from : State) → HasState marks.done from → IsStateSettled s rule marks.rows from
  pub some : (r : ℕ) × HasMinute (row_of marks.rows v) r

-- a node is at work, whose visit takes the minutes of this row, all later, and these of its legs were taken
pub record IsVisiting (s : Setting) (origin : ℕ) (rule : BreakRule) (v : ℕ) (row : List ℕ) (first : ℕ) (seen : List Leg) (marks : Marks) : Type 0 where
  pub facts : AreMarks s origin rule marks
  pub waits : (u : ℕ) → Contains marks.queue u ⊎ ((r : ℕ) → HasMinute (row_of marks.rows u) r → HasMinute (row_of marks.done u) r)
  pub settled : (from : State) → HasState marks.done from → IsStateSettled s rule marks.rows from ⊎ ((from.node.0 ≡ v) × HasLater row first from.driven)
  pub here : (from : State) (leg : Leg) (to : State) → from.node.0 ≡ v → HasLater row first from.driven → Contains seen leg → IsDeparture s rule from leg to
      → HasState marks.rows to
  pub within : (r : ℕ) → HasLater row first r → HasMinute (row_of marks.rows v) r
  pub some : (r : ℕ) × HasMinute (row_of marks.rows v) r

-- so many more are queued at most as there are more marks
abbrev pub IsPaid : Marks → Marks → Type 0
IsPaid old new = length new.queue + old.count ≤ length old.queue + new.count

-- one more leg is taken
pub record TakesMarks (s : Setting) (origin : ℕ) (rule : BreakRule) (v : ℕ) (row : List ℕ) (first : ℕ) (leg : Leg) (old new : Marks) : Type 0 where
  pub keeps : (seen : List Leg) → IsVisiting s origin rule v row first seen old → IsVisiting s origin rule v row first (seen ++ leg ∷ []) new
  pub paid : IsPaid old new

-- a queued node is visited
pub record IsVisited (s : Setting) (origin : ℕ) (rule : BreakRule) (old new : Marks) : Type 0 where
  pub queued : AreQueued s origin rule new
  pub paid : IsPaid old new

-- all states are marked, or more than the most
pub record AreAllMarked (s : Setting) (origin : ℕ) (rule : BreakRule) (most : ℕ) (marks : Marks) : Type 0 where
  pub facts : AreMarks s origin rule marks
  pub all : (most < marks.count) ⊎ ((v : ℕ) → IsSettled s rule marks.rows v)
