-- The facts that a search keeps of its labels, as functions of node and minute: the invariants of label correcting (source: own; no law).
use Rattle.std.specs.Prelude.{◌≡◌, ◌⊎◌, ℕ, ◌+◌, ◌≤◌, ◌<◌, ⊤, Bool, true, false, Option, Some, None, List, [], Contains}
use Rattle.route_base.specs.Setting.{Setting}
use Rattle.route_base.specs.Itinerary.{Position, Drives, Waits}
use Rattle.route_base.specs.Front.{RiseAndFall}
use Rattle.route_base.specs.Legs.{start_of, end_of}
use Rattle.route_base.specs.Relaxing.{HasWithin, HasPair}
use Rattle.route_base.specs.declared.types.Bound.{Bound}
use Rattle.route_base.specs.declared.types.Pair.{Pair}
use Rattle.route_base.specs.declared.types.Request.{Request}
use Rattle.route_base.specs.Legs.{IsReachable}
use Rattle.propagation.specs.Found.{IsStart, HasPredecessor}
use Rattle.propagation.specs.Inside.Pairs.{HasBetter}

-- what is searched
pub record Task : Type 0 where
  pub setting : Setting
  pub request : Request
  pub bounds : ℕ → Option Bound

-- what has been found so far: the least cost known at a node and minute, whether its drives are still to be relaxed, and the pairs
pub record Progress : Type 0 where
  pub cost : ℕ → ℕ → Option ℕ
  pub pending : ℕ → ℕ → Bool
  pub pairs : List Pair

abbrev pub point : ℕ → ℕ → ℕ → Position
point v t x = record { node = v; minute = t; cost = x }

-- the cost known at the position's node and minute is the position's
abbrev pub IsLabel : Progress → Position → Type 0
IsLabel now p = now.cost p.node p.minute ≡ Some p.cost

-- every way on from here is late, or some pair is better: no pair excuses a way to itself
abbrev pub IsWorseOrLate : ℕ → List Pair → Option Bound → Position → Type 0
IsWorseOrLate until pairs None p = ⊤
IsWorseOrLate until pairs (Some b) p = (until < p.minute + b.minutes) ⊎ HasBetter pairs (p.minute + b.minutes) (p.cost + b.cost)

-- every way on from the position is late or worse than some pair, so that it needn't be followed
abbrev pub IsPrunable : Task → List Pair → Position → Type 0
IsPrunable k pairs p = IsWorseOrLate k.request.until pairs (k.bounds p.node) p

-- a cost is known that is no larger, or the position is prunable
abbrev pub IsRelaxedIn : Task → Progress → Position → Type 0
IsRelaxedIn k now p = HasWithin now.cost p ⊎ IsPrunable k now.pairs p

abbrev pub Reaches : Task → Position → Type 0
Reaches k p = IsReachable k.setting k.request p

abbrev pub ComesBy : Task → (ℕ → ℕ → Option ℕ) → Position → Type 0
ComesBy k cost p = HasPredecessor k.setting k.request.until cost p

-- the position is in a part of the costs of node v: a cost at some minutes
abbrev pub InPart : ℕ → (ℕ → Option ℕ) → Position → Type 0
InPart v part p = (p.node ≡ v) × (part p.minute ≡ Some p.cost)

-- the part has at the position's minute a cost that is no larger
pub record HasIn (part : ℕ → Option ℕ) (p : Position) : Type 0 where
  pub least : ℕ
  pub is : part p.minute ≡ Some least
  pub within : least ≤ p.cost

abbrev pub DrivesRelaxed : Task → Progress → Position → Type 0
DrivesRelaxed k now p = (a : ℕ) (q : Position) → Drives k.setting k.request.until a p q → IsRelaxedIn k now q

-- where each cost comes from
pub record IsSound (k : Task) (now : Progress) : Type 0 where
  pub reached : (p : Position) → IsLabel now p → Reaches k p
  pub comes : (p : Position) → IsLabel now p → IsStart k.request p ⊎ ComesBy k now.cost p

-- where each cost goes on: waits are relaxed at once; drives are relaxed, or still pending, or those of the part at node v that is at work
pub record ArePartStepsRelaxed (k : Task) (now : Progress) (v : ℕ) (part : ℕ → Option ℕ) : Type 0 where
  pub waits : (p q : Position) → IsLabel now p → Waits k.setting k.request.until p q → IsRelaxedIn k now q
  pub drives : (p : Position) → IsLabel now p
      → IsPrunable k now.pairs p ⊎ ((now.pending p.node p.minute ≡ true) ⊎ (InPart v part p ⊎ DrivesRelaxed k now p))

-- the pairs trade time for cost, are known costs of the goal, and match each of these
pub record IsPaired (k : Task) (now : Progress) : Type 0 where
  pub trade : RiseAndFall now.pairs
  pub achieved : (p : Pair) → Contains now.pairs p → Reaches k (end_of k.request p) × HasWithin now.cost (end_of k.request p)
  pub matched : (t x : ℕ) → now.cost k.request.goal.0 t ≡ Some x → HasPair now.pairs t x

-- no cost is known from which the goal is out of reach in time
abbrev pub AreInReach : Task → Progress → Type 0
AreInReach k now = (p : Position) → IsLabel now p → (b : Bound) × (k.bounds p.node ≡ Some b) × (p.minute + b.minutes ≤ k.request.until)

-- all that the search keeps
pub record IsSearching (k : Task) (now : Progress) (v : ℕ) (part : ℕ → Option ℕ) : Type 0 where
  pub start : IsRelaxedIn k now (start_of k.request)
  pub sound : IsSound k now
  pub steps : ArePartStepsRelaxed k now v part
  pub paired : IsPaired k now
  pub tight : AreInReach k now
  pub known : (v t : ℕ) → now.pending v t ≡ true → (x : ℕ) × (now.cost v t ≡ Some x)

-- the part without a cost
abbrev pub no_part : ℕ → Option ℕ
no_part t = None

-- nothing is at work
abbrev pub IsResting : Task → Progress → Type 0
IsResting k now = IsSearching k now 0 no_part

-- the first cost is there, and the second is larger or missing
abbrev pub IsLower : Option ℕ → Option ℕ → Type 0
IsLower None old = ⊥
IsLower (Some x) None = ⊤
IsLower (Some x) (Some y) = x < y

-- costs only fall; what is new is pending or relaxed; what becomes pending has fallen; no pair is lost but to one that is no worse
pub record Improves (k : Task) (old new : Progress) : Type 0 where
  pub less : (p : Position) → IsLabel old p → HasWithin new.cost p
  pub fresh : (p : Position) → IsLabel new p → IsLabel old p ⊎ ((new.pending p.node p.minute ≡ true) ⊎ DrivesRelaxed k new p)
  pub stays : (v t : ℕ) → old.pending v t ≡ true → new.pending v t ≡ true
  pub cause : (v t : ℕ) → new.pending v t ≡ true → (old.pending v t ≡ true) ⊎ IsLower (new.cost v t) (old.cost v t)
  pub pairs : (t x : ℕ) → HasPair old.pairs t x → HasPair new.pairs t x

-- costs that are offered to node h: they are reached, come from costs that are known or offered, go on by waits, and are not prunable
pub record IsOffer (k : Task) (now : Progress) (h : ℕ) (offer : ℕ → Option ℕ) : Type 0 where
  pub reached : (t x : ℕ) → offer t ≡ Some x → Reaches k (point h t x)
  pub comes : (t x : ℕ) → offer t ≡ Some x → (IsStart k.request (point h t x) ⊎ ComesBy k now.cost (point h t x))
      ⊎ ((e : Position) × (u y : ℕ) × (offer u ≡ Some y) × Waits k.setting k.request.until (point h u y) e × (e.minute ≡ t) × (e.cost ≤ x))
  pub waits : (t x : ℕ) (q : Position) → offer t ≡ Some x → Waits k.setting k.request.until (point h t x) q
      → HasIn offer q ⊎ IsPrunable k now.pairs q
  pub clear : (t x : ℕ) → offer t ≡ Some x → IsPrunable k now.pairs (point h t x) → ⊥

-- node h takes the lesser of its own and the offered costs
pub record IsMerged (h : ℕ) (offer : ℕ → Option ℕ) (old new : ℕ → ℕ → Option ℕ) : Type 0 where
  pub others : (v t : ℕ) → (v ≡ h → ⊥) → new v t ≡ old v t
  pub kept : (t x : ℕ) → old h t ≡ Some x → HasIn (new h) (point h t x)
  pub offered : (t x : ℕ) → offer t ≡ Some x → HasIn (new h) (point h t x)
  pub either : (t x : ℕ) → new h t ≡ Some x → (old h t ≡ Some x) ⊎ ((offer t ≡ Some x) × IsLower (Some x) (old h t))

-- node h takes the offer, and the pairs take what arrives at the goal
pub record TakesOffer (k : Task) (h : ℕ) (offer : ℕ → Option ℕ) (old new : Progress) : Type 0 where
  pub merged : IsMerged h offer old.cost new.cost
  pub stays : (v t : ℕ) → old.pending v t ≡ true → new.pending v t ≡ true
  pub awaits : (t x : ℕ) → offer t ≡ Some x → IsLower (Some x) (old.cost h t)
      → (new.pending h t ≡ true) ⊎ DrivesRelaxed k new (point h t x)
  pub cause : (v t : ℕ) → new.pending v t ≡ true → (old.pending v t ≡ true) ⊎ ((v ≡ h) × IsLower (new.cost h t) (old.cost h t))
  pub pairs : (t x : ℕ) → HasPair old.pairs t x → HasPair new.pairs t x
  pub trade : RiseAndFall new.pairs
  pub each : (p : Pair) → Contains new.pairs p → Contains old.pairs p ⊎ ((h ≡ k.request.goal.0) × (offer p.arrival ≡ Some p.cost))
  pub matched : (t x : ℕ) → h ≡ k.request.goal.0 → offer t ≡ Some x → HasPair new.pairs t x

-- a part of what is pending at node v is taken to work; what is prunable is left out
pub record TakesPart (k : Task) (v : ℕ) (part : ℕ → Option ℕ) (old new : Progress) : Type 0 where
  pub cost : (u t : ℕ) → new.cost u t ≡ old.cost u t
  pub pairs : new.pairs ≡ old.pairs
  pub within : (t x : ℕ) → part t ≡ Some x → old.cost v t ≡ Some x
  pub pending : (u t : ℕ) → old.pending u t ≡ true → (new.pending u t ≡ true)
      ⊎ ((u ≡ v) × ((x : ℕ) → old.cost v t ≡ Some x → (part t ≡ Some x) ⊎ IsPrunable k old.pairs (point v t x)))
  pub less : (u t : ℕ) → new.pending u t ≡ true → old.pending u t ≡ true
  pub some : (t : ℕ) × (old.pending v t ≡ true) × (new.pending v t ≡ false)

-- nothing has been found yet
pub record IsBlank (now : Progress) : Type 0 where
  pub cost : (v t : ℕ) → now.cost v t ≡ None
  pub pending : (v t : ℕ) → now.pending v t ≡ false
  pub pairs : now.pairs ≡ []
