-- The states of a trip under a break rule, and when there are too many (source: own).
use Rattle.std.specs.Prelude.{◌≡◌, ◌≢◌, ℕ, ◌+◌, ◌≤◌, ◌<◌, Some, List, length, All, AllPairs}
use Rattle.route_base.specs.Setting.{Setting, Road}
use Rattle.route_base.specs.declared.types.Leg.{Leg}
use Rattle.route_base.specs.declared.types.Leg.TheVariants.{Drive, Wait}
use Rattle.front_transport.specs.declared.limits.TheConstants.{MOST_STATES}
use Rattle.drive_states.specs.declared.rule.BreakRule.{BreakRule}
use Rattle.drive_states.specs.declared.rule.State.{State}

-- a node and the minutes driven since the last break: from the origin on, whatever drives within the limit and breaks lead to
pub data IsState (s : Setting) (origin limit : ℕ) : ℕ → ℕ → Type 0 where
  first : IsState s origin limit origin 0
  by_drive : (a r : ℕ) (road : Road) → s.road a ≡ Some road → IsState s origin limit road.tail r → r + road.minutes ≤ limit
      → IsState s origin limit road.head (r + road.minutes)
  by_break : (v r weight : ℕ) → s.weight v ≡ Some weight → IsState s origin limit v r → IsState s origin limit v 0

-- a drive within the limit leads from one state to another, or a break, where waiting is allowed and some minutes were driven
abbrev pub IsDeparture : Setting → BreakRule → State → Leg → State → Type 0
IsDeparture s rule from (Drive a) to = (over : Road) × (s.road a.0 ≡ Some over) × (over.tail ≡ from.node.0) × (from.driven + over.minutes ≤ rule.drive)
    × (to.node.0 ≡ over.head) × (to.driven ≡ from.driven + over.minutes)
IsDeparture s rule from (Wait k) to = (k ≡ rule.rest) × ((weight : ℕ) × (s.weight from.node.0 ≡ Some weight)) × (from.driven ≡ 0 → ⊥)
    × (to.node.0 ≡ from.node.0) × (to.driven ≡ 0)

-- a leg that leaves a state
pub record Departure : Type 0 where
  pub from : State
  pub leg : Leg

-- the states, and the drives and breaks that leave them, are more than the most: so many differ from each other
pub record HasTooManyStates (s : Setting) (origin : ℕ) (rule : BreakRule) : Type 0 where
  pub states : List State
  pub distinct : AllPairs (λ x y. x ≢ y) states
  pub each : All (λ st. IsState s origin rule.drive st.node.0 st.driven) states
  pub departures : List Departure
  pub apart : AllPairs (λ x y. x ≢ y) departures
  pub each_departure : All (λ d. IsState s origin rule.drive d.from.node.0 d.from.driven × ((to : State) × IsDeparture s rule d.from d.leg to)) departures
  pub many : MOST_STATES < length states + length departures
