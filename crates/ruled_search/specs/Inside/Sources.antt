-- Where a known cost comes from, and which of its sources is first (source: own; no law).
use Rattle.std.specs.Prelude.{◌≡◌, ◌⊎◌, ℕ, ◌<◌, ◌≤◌, ◌/◌, ◌%◌, ⊤, true, false, Option, Some, None, IfSome, IsNone, List, [], ◌∷◌, length, reverse}
use Rattle.node_arcs.specs.Stars.{Star, AreIncoming}
use Rattle.route_base.specs.Itinerary.{Position, Step, drive, wait, Moves, Walks}
use Rattle.route_base.specs.Net.{at_number}
use Rattle.route_base.specs.declared.types.Pair.{Pair}
use Rattle.propagation.specs.Inside.Invariants.{point}
use Rattle.state_dominance.specs.Inside.Dominance.{Task, IsResting, Reaches}
use Rattle.state_dominance.specs.Inside.Product.{Ruler, code}
use Rattle.ruled_states.specs.Inside.Codes.{base, HaveSmallNodes}
use Rattle.ruled_states.specs.Inside.Tables.{code_of, number_in}
use Rattle.ruled_states.specs.declared.table.Info.{Info}
use Rattle.ruled_search.specs.Routes.{TellsLeg, TellsSteps, IsAlikeStep, IsRuledStepBefore}
use Rattle.ruled_search.specs.Inside.Tasks.{task_of, progress_of, IsGoodTask, IsShapedFor}
use Rattle.ruled_search.specs.declared.progress.Progress.{Progress as ProgressHeld}
use Rattle.ruled_search.specs.declared.routes.RuledLeg.{RuledLeg}
use Rattle.ruled_search.specs.declared.routes.RuledLeg.TheVariants.{Drive, Rest, Wait, Serve}
use Rattle.ruled_search.specs.declared.sources.Source.{Source}
use Rattle.ruled_search.specs.declared.sources.Spot.{Spot}
use Rattle.ruled_search.specs.declared.task.Task.{Task as TaskHeld}
use Rattle.ruled_search.specs.declared.ways.Kind.{Kind}
use Rattle.ruled_search.specs.declared.ways.Kind.TheVariants.{Drive as DriveKind, Rest as RestKind, Serve as ServeKind}

-- a step over states leads to the position from a cost that is known, exactly
pub record ComesOver (k : Task) (cost : ℕ → ℕ → Option ℕ) (step : Step) (source p : Position) : Type 0 where
  pub known : cost source.node source.minute ≡ Some source.cost
  pub move : Moves k.setting k.until step source p

-- of two last steps, made at the codes u and v, the first is not after the second: it comes before; or it is alike and its state isn't larger
abbrev pub IsNotAfter : Step → ℕ → Step → ℕ → Type 0
IsNotAfter x u y v = IsRuledStepBefore base x y ⊎ (IsAlikeStep base x y × (u / base ≤ v / base))

-- the last step is first among those that lead to the position exactly
pub record IsFirstSource (k : Task) (cost : ℕ → ℕ → Option ℕ) (step : Step) (source p : Position) : Type 0 where
  pub comes : ComesOver k cost step source p
  pub first : (y : Step) (other : Position) → ComesOver k cost y other p → IsNotAfter step source.node y other.node

-- these steps lead from one position to another, each first of those that could be last there
abbrev pub AreFirstSteps : Task → (ℕ → ℕ → Option ℕ) → List Step → Position → Position → Type 0
AreFirstSteps k cost [] p q = p ≡ q
AreFirstSteps k cost (x ∷ xs) p q = (r : Position) × IsFirstSource k cost x p r × AreFirstSteps k cost xs r q

-- no state that is no worse is reached at the minute at no higher a cost, but this one at this cost
abbrev pub IsBest : Task → Position → Type 0
IsBest k q = (u x : ℕ) → k.no_worse u q.node ≡ true → x ≤ q.cost → Reaches k (point u q.minute x) → (u ≡ q.node) × (x ≡ q.cost)

-- the search has ended over these arcs: its facts, and nothing is pending
pub record IsSolved (R : Type 0) (ruling : R → Ruler) (task : TaskHeld R) (incoming : Star) (progress : ProgressHeld) : Type 0 where
  pub asked : IsGoodTask R ruling task
  pub shape : IsShapedFor R ruling task 0 progress
  pub arcs : AreIncoming task.net.now incoming
  pub facts : IsResting (task_of R ruling task) (progress_of progress)
  pub done : (c t : ℕ) → (progress_of progress).pending c t ≡ false

-- the position of a spot
abbrev pub place_of : Spot → Position
place_of spot = point (code_of spot.info) spot.minute spot.cost

-- the spot is that of a state in the table, at this minute, and its cost is known
pub record IsKnownSpot (infos : List Info) (cost : ℕ → ℕ → Option ℕ) (number minute x : ℕ) (spot : Spot) : Type 0 where
  pub same : spot.number ≡ number
  pub at : spot.minute ≡ minute
  pub paid : spot.cost ≡ x
  pub info : at_number infos number ≡ Some spot.info
  pub known : cost (code_of spot.info) minute ≡ Some x

-- the state after a way of this kind and length, if it is allowed
abbrev pub led_to : Ruler → Kind → ℕ → ℕ → Option ℕ
led_to r (DriveKind a) minutes k = r.drive k minutes
led_to r (RestKind place) minutes k = Some (r.rest k minutes)
led_to r (ServeKind place) minutes k = r.serve k place

-- each state has a function, and the number of its code
pub record AreNumbered (progress : ProgressHeld) : Type 0 where
  pub functions : length progress.functions.items ≡ length progress.table.infos
  pub small : HaveSmallNodes progress.table.infos
  pub own : (n : ℕ) (i : Info) → at_number progress.table.infos n ≡ Some i → number_in progress.table.infos (code_of i) ≡ n

-- the spot of a state at a minute, where this is said and it has exactly this cost
pub record IsSpotIf (infos : List Info) (cost : ℕ → ℕ → Option ℕ) (number minute x : ℕ) (said : Type 0) (found : Option Spot) : Type 0 where
  pub some : IfSome found (λ spot. IsKnownSpot infos cost number minute x spot × said)
  pub none : IsNone found → said → (info : Info) → at_number infos number ≡ Some info → cost (code_of info) minute ≡ Some x → ⊥

-- one of two spots that may be missing; the state of neither is smaller
pub record IsLesser (one other found : Option Spot) : Type 0 where
  pub either : (found ≡ one) ⊎ (found ≡ other)
  pub none : IsNone found → (one ≡ None) × (other ≡ None)
  pub least : IfSome found (λ a. IfSome one (λ b. a.info.state ≤ b.info.state) × IfSome other (λ b. a.info.state ≤ b.info.state))

-- the spot of the least state of node v, among those of which this is said, that has exactly this cost at the minute; none where there is none
pub record IsLeastAt (infos : List Info) (cost : ℕ → ℕ → Option ℕ) (v minute x : ℕ) (is : ℕ → Type 0) (found : Option Spot) : Type 0 where
  pub some : IfSome found (λ from. IsKnownSpot infos cost from.number minute x from × (from.info.node.0 ≡ v) × is from.info.state)
  pub least : IfSome found (λ from. (k : ℕ) → is k → cost (code base v k) minute ≡ Some x → from.info.state ≤ k)
  pub none : IsNone found → (k : ℕ) → is k → cost (code base v k) minute ≡ Some x → ⊥

-- exactly the cost of the spot comes by some step from a cost that is known
pub record HasSource (k : Task) (cost : ℕ → ℕ → Option ℕ) (spot : Spot) : Type 0 where
  pub step : Step
  pub source : Position
  pub comes : ComesOver k cost step source (place_of spot)

-- it comes by no wait, and by no road of this kind over this arc, rest or service
abbrev pub HasNoWait : Task → (ℕ → ℕ → Option ℕ) → Spot → Type 0
HasNoWait k cost spot = (source : Position) → ComesOver k cost wait source (place_of spot) → ⊥

abbrev pub HasNoRoad : Task → (ℕ → ℕ → Option ℕ) → Spot → ℕ → ℕ → Type 0
HasNoRoad k cost spot kind a = (x : ℕ) (source : Position) → x % 3 ≡ kind → x / 3 % base ≡ a → ComesOver k cost (drive x) source (place_of spot) → ⊥

-- of the sources over roads of this kind and this arc, rest or service none has a smaller state
abbrev pub IsLeastOver : Task → (ℕ → ℕ → Option ℕ) → Spot → ℕ → ℕ → Spot → Type 0
IsLeastOver k cost spot kind a from = (x : ℕ) (source : Position) → x % 3 ≡ kind → x / 3 % base ≡ a → ComesOver k cost (drive x) source (place_of spot)
    → from.info.state ≤ source.node / base

-- the leg is over a road whose number has its place, from the least state; or it is a wait
abbrev pub IsLeastLeg : Task → (ℕ → ℕ → Option ℕ) → Spot → RuledLeg → Spot → Type 0
IsLeastLeg k cost spot (Drive a) from = (a.0 < base) × IsLeastOver k cost spot 0 a.0 from
IsLeastLeg k cost spot (Rest place) from = (place < base) × IsLeastOver k cost spot 1 place from
IsLeastLeg k cost spot (Serve place) from = (place < base) × IsLeastOver k cost spot 2 place from
IsLeastLeg k cost spot (Wait minutes) from = ⊤

-- a leg leads from the known cost of another spot, at an earlier minute, to the spot
pub record ComesFrom (k : Task) (infos : List Info) (cost : ℕ → ℕ → Option ℕ) (spot : Spot) (source : Source) : Type 0 where
  pub is_one : IsKnownSpot infos cost source.from.number source.from.minute source.from.cost source.from
  pub earlier : source.from.minute < spot.minute
  pub steps : List Step
  pub tells : TellsLeg base source.leg steps
  pub walk : Walks k.setting k.until steps (place_of source.from) (place_of spot)
  pub least : IsLeastLeg k cost spot source.leg source.from

-- the cost of the spot comes by no road of this kind over an arc, a rest or a service of a smaller number
abbrev pub HasNoRoadBefore : Task → (ℕ → ℕ → Option ℕ) → Spot → ℕ → ℕ → Type 0
HasNoRoadBefore k cost spot kind a = (i : ℕ) → i < a → HasNoRoad k cost spot kind i

-- the leg is a wait
abbrev pub IsWaitLeg : RuledLeg → Type 0
IsWaitLeg (Drive a) = ⊥
IsWaitLeg (Rest place) = ⊥
IsWaitLeg (Serve place) = ⊥
IsWaitLeg (Wait minutes) = ⊤

-- the leg is a rest, and the cost of the spot comes by no rest of a smaller place
abbrev pub IsFirstRest : Task → (ℕ → ℕ → Option ℕ) → Spot → RuledLeg → Type 0
IsFirstRest k cost spot (Drive a) = ⊥
IsFirstRest k cost spot (Rest place) = HasNoRoadBefore k cost spot 1 place
IsFirstRest k cost spot (Serve place) = ⊥
IsFirstRest k cost spot (Wait minutes) = ⊥

-- the cost of the spot comes by nothing that is before the leg
abbrev pub HasNoneBefore : Task → (ℕ → ℕ → Option ℕ) → Spot → RuledLeg → Type 0
HasNoneBefore k cost spot (Wait minutes) = ⊤
HasNoneBefore k cost spot (Rest place) = HasNoWait k cost spot × HasNoRoadBefore k cost spot 1 place
HasNoneBefore k cost spot (Drive a) = HasNoWait k cost spot × ((i : ℕ) → HasNoRoad k cost spot 1 i) × HasNoRoadBefore k cost spot 0 a.0
HasNoneBefore k cost spot (Serve place) = HasNoWait k cost spot × ((i : ℕ) → HasNoRoad k cost spot 1 i) × ((i : ℕ) → HasNoRoad k cost spot 0 i)
    × HasNoRoadBefore k cost spot 2 place

-- the leg leads to the spot, and nothing before it does
pub record ComesFirst (k : Task) (infos : List Info) (cost : ℕ → ℕ → Option ℕ) (spot : Spot) (source : Source) : Type 0 where
  pub comes : ComesFrom k infos cost spot source
  pub first : HasNoneBefore k cost spot source.leg

-- the spot is at the goal, with the pair, in the least state
pub record IsEndOf (k : Task) (infos : List Info) (cost : ℕ → ℕ → Option ℕ) (pair : Pair) (spot : Spot) : Type 0 where
  pub is_one : IsKnownSpot infos cost spot.number pair.arrival pair.cost spot
  pub goal : k.goal (code_of spot.info) ≡ true
  pub least : (c : ℕ) → k.goal c ≡ true → cost c pair.arrival ≡ Some pair.cost → spot.info.state ≤ c / base

-- legs, the last first, tell the first steps that lead from the spot to the end
pub record LeadsToEnd (k : Task) (cost : ℕ → ℕ → Option ℕ) (back : List RuledLeg) (spot : Spot) (end : Position) : Type 0 where
  pub steps : List Step
  pub tells : TellsSteps base (reverse back) steps
  pub first : AreFirstSteps k cost steps (place_of spot) end
