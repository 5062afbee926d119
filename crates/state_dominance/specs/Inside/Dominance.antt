-- What a search keeps whose nodes are codes of states, of which some are no worse than others: label correcting with dominance between
-- states (source: own; no law).
use Rattle.std.specs.Prelude.{◌≡◌, ◌⊎◌, ℕ, ◌+◌, ◌≤◌, ◌<◌, Bool, true, Option, Some, List, Contains, length}
use Rattle.route_base.specs.Setting.{Setting, Road}
use Rattle.route_base.specs.Itinerary.{Position, Step, Drives, Waits, Walks}
use Rattle.route_base.specs.Front.{RiseAndFall}
use Rattle.route_base.specs.Relaxing.{HasWithin, HasPair, IsBoundThrough}
use Rattle.route_base.specs.declared.types.Bound.{Bound}
use Rattle.route_base.specs.declared.types.Pair.{Pair}
use Rattle.propagation.specs.Found.{HasPredecessor}
use Rattle.propagation.specs.Inside.Invariants.{Progress, point, IsLabel, InPart, no_part, IsWorseOrLate}

-- what is searched: the nodes of the setting are codes of states; by the bounds it is too late at a node where they lead to the goal only
-- after the latest minute of the node
pub record Task : Type 0 where
  pub setting : Setting
  pub until : ℕ
  pub start : Position
  pub goal : ℕ → Bool
  pub bounds : ℕ → Option Bound
  pub latest : ℕ → ℕ
  pub no_worse : ℕ → ℕ → Bool

-- no worse a state, at the same minute, at no higher a cost
pub record IsNoWorseThan (k : Task) (w q : Position) : Type 0 where
  pub node : k.no_worse w.node q.node ≡ true
  pub minute : w.minute ≡ q.minute
  pub cost : w.cost ≤ q.cost

-- whatever a state may do, each state that is no worse may do too, with an end that is no worse; it has the smaller code
pub record IsSimulation (k : Task) : Type 0 where
  pub same : (v : ℕ) → k.no_worse v v ≡ true
  pub on : (u v w : ℕ) → k.no_worse u v ≡ true → k.no_worse v w ≡ true → k.no_worse u w ≡ true
  pub low : (u v : ℕ) → k.no_worse u v ≡ true → u ≤ v
  pub goals : (u v : ℕ) → k.no_worse u v ≡ true → k.goal v ≡ true → k.goal u ≡ true
  pub bounds : (u v : ℕ) (b : Bound) → k.no_worse u v ≡ true → k.bounds v ≡ Some b
      → (d : Bound) × (k.bounds u ≡ Some d) × (d.minutes ≤ b.minutes) × (d.cost ≤ b.cost)
  pub latest : (u v : ℕ) → k.no_worse u v ≡ true → k.latest v ≤ k.latest u
  pub drives : (u y a : ℕ) (p q : Position) → k.no_worse u p.node ≡ true → y ≤ p.cost → Drives k.setting k.until a p q
      → (b : ℕ) × (w : Position) × Drives k.setting k.until b (point u p.minute y) w × IsNoWorseThan k w q
  pub waits : (u y : ℕ) (p q : Position) → k.no_worse u p.node ≡ true → y ≤ p.cost → Waits k.setting k.until p q
      → (w : Position) × Waits k.setting k.until (point u p.minute y) w × IsNoWorseThan k w q

-- the bounds are no larger than the way over any road, which takes a minute, and nothing at the goal, where the latest minute is the last one;
-- where it is too late before a road, it is so behind it
pub record AreBoundsAlong (k : Task) : Type 0 where
  pub time : (a : ℕ) (road : Road) → k.setting.road a ≡ Some road → 1 ≤ road.minutes
  pub goal : (v : ℕ) → k.goal v ≡ true → k.bounds v ≡ Some (record { minutes = 0; cost = 0 })
  pub each : (a : ℕ) (road : Road) (h : Bound) → k.setting.road a ≡ Some road → k.bounds road.head ≡ Some h
      → (b : Bound) × (k.bounds road.tail ≡ Some b) × IsBoundThrough road h b
  pub low : (v : ℕ) → k.latest v ≤ k.until
  pub last : (v : ℕ) → k.goal v ≡ true → k.latest v ≡ k.until
  pub late : (a : ℕ) (p q : Position) (b h : Bound) → Drives k.setting k.until a p q → k.bounds p.node ≡ Some b → k.bounds q.node ≡ Some h
      → k.latest p.node < p.minute + b.minutes → k.latest q.node < q.minute + h.minutes

-- lawful steps lead from the start to the position
abbrev pub Reaches : Task → Position → Type 0
Reaches k p = (steps : List Step) × Walks k.setting k.until steps k.start p

-- lawful steps lead from the start to the goal, with the pair
pub record IsAchievedIn (k : Task) (pair : Pair) : Type 0 where
  pub node : ℕ
  pub goal : k.goal node ≡ true
  pub reached : Reaches k (point node pair.arrival pair.cost)

-- at the minute a state that is no worse is known to cost no more
pub record IsCovered (k : Task) (now : Progress) (p : Position) : Type 0 where
  pub node : ℕ
  pub better : k.no_worse node p.node ≡ true
  pub known : HasWithin now.cost (point node p.minute p.cost)

-- the same of another state
pub record IsDominated (k : Task) (now : Progress) (p : Position) : Type 0 where
  pub node : ℕ
  pub better : k.no_worse node p.node ≡ true
  pub other : node < p.node
  pub known : HasWithin now.cost (point node p.minute p.cost)

-- at the minute a state that is no worse is known to cost less
pub record IsBeaten (k : Task) (now : Progress) (p : Position) : Type 0 where
  pub node : ℕ
  pub better : k.no_worse node p.node ≡ true
  pub cost : ℕ
  pub known : now.cost node p.minute ≡ Some cost
  pub less : cost < p.cost

-- the steps to the end go by a position that is beaten, behind which fewer are left
pub record IsBeatenOn (k : Task) (now : Progress) (steps : List Step) (end : Position) : Type 0 where
  pub at : Position
  pub beaten : IsBeaten k now at
  pub after : List Step
  pub walk : Walks k.setting k.until after at end
  pub fewer : length after < length steps

-- every way on from the position to the goal is beaten
abbrev pub IsSurpassed : Task → Progress → Position → Type 0
IsSurpassed k now p = (steps : List Step) (end : Position) → k.goal end.node ≡ true → Walks k.setting k.until steps p end → IsBeatenOn k now steps end

-- every way on from the position is late, or some pair is better
abbrev pub IsPrunable : Task → List Pair → Position → Type 0
IsPrunable k pairs p = IsWorseOrLate (k.latest p.node) pairs (k.bounds p.node) p

abbrev pub IsRelaxedIn : Task → Progress → Position → Type 0
IsRelaxedIn k now p = IsCovered k now p ⊎ IsPrunable k now.pairs p

abbrev pub DrivesRelaxed : Task → Progress → Position → Type 0
DrivesRelaxed k now p = (a : ℕ) (q : Position) → Drives k.setting k.until a p q → IsRelaxedIn k now q

-- the position is at the node and the minute of the start
abbrev pub IsStart : Task → Position → Type 0
IsStart k p = (p.node ≡ k.start.node) × (p.minute ≡ k.start.minute)

abbrev pub ComesBy : Task → (ℕ → ℕ → Option ℕ) → Position → Type 0
ComesBy k cost p = HasPredecessor k.setting k.until cost p

-- a known pair ends at the goal
pub record IsPairKnown (k : Task) (now : Progress) (p : Pair) : Type 0 where
  pub node : ℕ
  pub goal : k.goal node ≡ true
  pub reached : Reaches k (point node p.arrival p.cost)
  pub known : HasWithin now.cost (point node p.arrival p.cost)

-- no more is to be done for the position's drives: it is dominated or surpassed, or they are relaxed
abbrev pub IsDone : Task → Progress → Position → Type 0
IsDone k now p = IsDominated k now p ⊎ (IsSurpassed k now p ⊎ DrivesRelaxed k now p)

-- where a label's drives go: it is prunable, or pending, or in the part at node v that is at work, or they are done
abbrev pub IsSettledIn : Task → Progress → ℕ → (ℕ → Option ℕ) → Position → Type 0
IsSettledIn k now v part p = IsPrunable k now.pairs p ⊎ ((now.pending p.node p.minute ≡ true) ⊎ (InPart v part p ⊎ IsDone k now p))

-- all that the search keeps
pub record IsSearching (k : Task) (now : Progress) (v : ℕ) (part : ℕ → Option ℕ) : Type 0 where
  pub start : IsRelaxedIn k now k.start
  pub reached : (p : Position) → IsLabel now p → Reaches k p
  pub comes : (p : Position) → IsLabel now p → IsStart k p ⊎ ComesBy k now.cost p
  pub waits : (p q : Position) → IsLabel now p → Waits k.setting k.until p q → IsRelaxedIn k now q
  pub drives : (p : Position) → IsLabel now p → IsSettledIn k now v part p
  pub trade : RiseAndFall now.pairs
  pub achieved : (p : Pair) → Contains now.pairs p → IsPairKnown k now p
  pub matched : (g t x : ℕ) → k.goal g ≡ true → now.cost g t ≡ Some x → HasPair now.pairs t x
  pub known : (u t : ℕ) → now.pending u t ≡ true → (x : ℕ) × (now.cost u t ≡ Some x)

-- nothing is at work
abbrev pub IsResting : Task → Progress → Type 0
IsResting k now = IsSearching k now 0 no_part
