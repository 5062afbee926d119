-- The search for all states (source: own; no law).
use Rattle.std.specs.Prelude.{◌≡◌, ◌≢◌, ◌⊎◌, ℕ, ◌+◌, ◌≤◌, ◌<◌, ⊤, Some, List, [], ◌∷◌, ◌++◌, length, map, All, AllPairs, Contains}
use Rattle.route_base.specs.Setting.{Setting}
use Rattle.route_base.specs.Net.{at_number}
use Rattle.route_base.specs.declared.types.ArcId.{ArcId}
use Rattle.route_base.specs.declared.types.Leg.{Leg}
use Rattle.route_base.specs.declared.types.Leg.TheVariants.{Drive, Wait}
use Rattle.front_transport.specs.declared.limits.TheConstants.{MOST_STATES}
use Rattle.drive_states.specs.StateSize.{IsState, IsDeparture}
use Rattle.drive_states.specs.declared.rule.BreakRule.{BreakRule}
use Rattle.drive_states.specs.declared.rule.State.{State}
use Rattle.drive_states.specs.declared.rule.Way.{Way}

-- the states stay, with this one behind them or among them
abbrev pub Grows : List State → List State → State → Type 0
Grows old new state = (new ≡ old) ⊎ (new ≡ old ++ state ∷ [])

-- drives by rising arc, and then a break
abbrev pub IsLegBefore : Leg → Leg → Type 0
IsLegBefore (Drive a) (Drive b) = a.0 < b.0
IsLegBefore (Drive a) (Wait k) = ⊤
IsLegBefore (Wait k) leg = ⊥

abbrev pub ComesBefore : Way → Way → Type 0
ComesBefore w v = (w.from < v.from) ⊎ ((w.from ≡ v.from) × IsLegBefore w.leg v.leg)

-- among the ways is one from the state of this number by this leg
pub record HasWay (states : List State) (ways : List Way) (n : ℕ) (leg : Leg) (to : State) : Type 0 where
  pub way : Way
  pub is_one : Contains ways way
  pub from : way.from ≡ n
  pub by : way.leg ≡ leg
  pub at : at_number states way.to ≡ Some to

-- a way between states
pub record IsSoundWay (s : Setting) (rule : BreakRule) (states : List State) (way : Way) : Type 0 where
  pub from : State
  pub at_from : at_number states way.from ≡ Some from
  pub to : State
  pub at_to : at_number states way.to ≡ Some to
  pub departs : IsDeparture s rule from way.leg to

-- the states before number n have all their ways, and state n has those by the legs that were seen
pub record IsExploring (s : Setting) (origin : ℕ) (rule : BreakRule) (n : ℕ) (seen : List Leg) (states : List State) (ways : List Way) : Type 0 where
  pub first : State
  pub at_first : at_number states 1 ≡ Some first
  pub first_node : first.node.0 ≡ origin
  pub first_driven : first.driven ≡ 0
  pub few : length states ≤ length ways + 1
  pub each_state : All (λ st. IsState s origin rule.drive st.node.0 st.driven) states
  pub each_way : All (IsSoundWay s rule states) ways
  pub order : AllPairs ComesBefore ways
  pub upto : All (λ w. (w.from < n) ⊎ ((w.from ≡ n) × Contains seen w.leg)) ways
  pub done : (i : ℕ) (from : State) (leg : Leg) (to : State) → i < n → at_number states i ≡ Some from → IsDeparture s rule from leg to
      → HasWay states ways i leg to
  pub now : (from : State) (leg : Leg) (to : State) → Contains seen leg → at_number states n ≡ Some from → IsDeparture s rule from leg to
      → HasWay states ways n leg to

-- a state was added, if it is new, and a way to it
pub record Reaches (old new : List State) (before after : List Way) (from : ℕ) (to : State) (leg : Leg) : Type 0 where
  pub grows : Grows old new to
  pub number : ℕ
  pub at : at_number new number ≡ Some to
  pub ways : after ≡ before ++ record { from = from; to = number; leg = leg } ∷ []

-- the leg is taken, where it is within the rule
abbrev pub TakesLeg : Setting → BreakRule → List State → List State → List Way → List Way → ℕ → State → Leg → Type 0
TakesLeg s rule old new before after n from leg = ((to : State) × IsDeparture s rule from leg to × Reaches old new before after n to leg)
    ⊎ ((new ≡ old) × (after ≡ before) × ((to : State) → IsDeparture s rule from leg to → ⊥))

-- the leg is taken, and is one too many
abbrev pub OverflowsAt : Setting → BreakRule → List State → List State → List Way → List Way → ℕ → State → Leg → Type 0
OverflowsAt s rule old new before after n from leg = ((to : State) × IsDeparture s rule from leg to × Reaches old new before after n to leg)
    × (MOST_STATES < length new + length after) × AllPairs (λ x y. x ≢ y) new

abbrev pub drives_over : List ArcId → List Leg
drives_over arcs = map (λ a. Drive a) arcs

-- all states and all ways between them, and not too many
pub record IsExplored (s : Setting) (origin : ℕ) (rule : BreakRule) (states : List State) (ways : List Way) : Type 0 where
  pub facts : IsExploring s origin rule (length states + 1) [] states ways
  pub distinct : AllPairs (λ x y. x ≢ y) states
  pub small : length states + length ways ≤ MOST_STATES

-- the one state is the origin, where nothing was driven
pub record IsStart (origin : ℕ) (states : List State) : Type 0 where
  pub number : ℕ
  pub state : State
  pub grows : Grows [] states state
  pub at : at_number states number ≡ Some state
  pub node : state.node.0 ≡ origin
  pub none : state.driven ≡ 0
