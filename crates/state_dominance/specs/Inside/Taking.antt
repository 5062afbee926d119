-- How a state takes an offer, and how a part is taken, with what is dominated left out (source: own; no law).
use Rattle.std.specs.Prelude.{◌≡◌, ◌⊎◌, ℕ, ◌≤◌, true, false, Option, Some, None, [], Contains}
use Rattle.route_base.specs.Itinerary.{Position, Waits}
use Rattle.route_base.specs.Front.{RiseAndFall}
use Rattle.route_base.specs.Relaxing.{HasPair}
use Rattle.route_base.specs.declared.types.Pair.{Pair}
use Rattle.propagation.specs.Inside.Invariants.{Progress, point, HasIn, IsLower, IsMerged}
use Rattle.state_dominance.specs.Inside.Dominance.{Task, Reaches, IsStart, ComesBy, IsDominated, IsPrunable}

-- a wait leads there from what is offered
pub record WaitsFrom (k : Task) (h : ℕ) (offer : ℕ → Option ℕ) (t x : ℕ) : Type 0 where
  pub end : Position
  pub minute : ℕ
  pub cost : ℕ
  pub offered : offer minute ≡ Some cost
  pub move : Waits k.setting k.until (point h minute cost) end
  pub at : end.minute ≡ t
  pub within : end.cost ≤ x

-- where an offered cost comes from
abbrev pub IsFrom : Task → Progress → ℕ → (ℕ → Option ℕ) → ℕ → ℕ → Type 0
IsFrom k now h offer t x = (IsStart k (point h t x) ⊎ ComesBy k now.cost (point h t x)) ⊎ WaitsFrom k h offer t x

-- costs with waits, without what is prunable: before the dominated ones are left out
pub record IsWide (k : Task) (now : Progress) (h : ℕ) (wide : ℕ → Option ℕ) : Type 0 where
  pub reached : (t x : ℕ) → wide t ≡ Some x → Reaches k (point h t x)
  pub comes : (t x : ℕ) → wide t ≡ Some x → IsFrom k now h wide t x
  pub waits : (t x : ℕ) (q : Position) → wide t ≡ Some x → Waits k.setting k.until (point h t x) q → HasIn wide q ⊎ IsPrunable k now.pairs q
  pub clear : (t x : ℕ) → wide t ≡ Some x → IsPrunable k now.pairs (point h t x) → ⊥

-- what is dominated is left out
pub record IsNarrowed (k : Task) (now : Progress) (h : ℕ) (wide narrow : ℕ → Option ℕ) : Type 0 where
  pub kept : (t x : ℕ) → narrow t ≡ Some x → wide t ≡ Some x
  pub clear : (t x : ℕ) → narrow t ≡ Some x → IsDominated k now (point h t x) → ⊥
  pub left : (t x : ℕ) → wide t ≡ Some x → (narrow t ≡ Some x) ⊎ IsDominated k now (point h t x)

-- costs that are offered to node h; at the goal, where pairs are made of them, they need no waits
pub record IsOffer (k : Task) (now : Progress) (h : ℕ) (offer : ℕ → Option ℕ) : Type 0 where
  pub reached : (t x : ℕ) → offer t ≡ Some x → Reaches k (point h t x)
  pub comes : (t x : ℕ) → offer t ≡ Some x → IsFrom k now h offer t x
  pub waits : k.goal h ≡ false → (t x : ℕ) (q : Position) → offer t ≡ Some x → Waits k.setting k.until (point h t x) q
      → HasIn offer q ⊎ (IsDominated k now q ⊎ IsPrunable k now.pairs q)

-- node h takes the offer, and the pairs take what arrives at the goal
pub record TakesOffer (k : Task) (h : ℕ) (offer : ℕ → Option ℕ) (old new : Progress) : Type 0 where
  pub merged : IsMerged h offer old.cost new.cost
  pub stays : (v t : ℕ) → old.pending v t ≡ true → new.pending v t ≡ true
  pub awaits : k.goal h ≡ false → (t x : ℕ) → offer t ≡ Some x → IsLower (Some x) (old.cost h t) → new.pending h t ≡ true
  pub cause : (v t : ℕ) → new.pending v t ≡ true → (old.pending v t ≡ true) ⊎ ((v ≡ h) × IsLower (new.cost h t) (old.cost h t))
  pub pairs : (t x : ℕ) → HasPair old.pairs t x → HasPair new.pairs t x
  pub trade : RiseAndFall new.pairs
  pub each : (p : Pair) → Contains new.pairs p → Contains old.pairs p ⊎ ((k.goal h ≡ true) × (offer p.arrival ≡ Some p.cost))
  pub matched : (t x : ℕ) → k.goal h ≡ true → offer t ≡ Some x → HasPair new.pairs t x

-- a part of what is pending at node v is taken to work; what is prunable is left out
pub record TakesPart (k : Task) (v : ℕ) (part : ℕ → Option ℕ) (old new : Progress) : Type 0 where
  pub cost : (u t : ℕ) → new.cost u t ≡ old.cost u t
  pub pairs : new.pairs ≡ old.pairs
  pub within : (t x : ℕ) → part t ≡ Some x → old.cost v t ≡ Some x
  pub pending : (u t : ℕ) → old.pending u t ≡ true → (new.pending u t ≡ true)
      ⊎ ((u ≡ v) × ((x : ℕ) → old.cost v t ≡ Some x → (part t ≡ Some x) ⊎ IsPrunable k old.pairs (point v t x)))
  pub less : (u t : ℕ) → new.pending u t ≡ true → old.pending u t ≡ true

-- nothing is known before the first offer, which has the start, unless it is prunable
pub record IsFirstOffer (k : Task) (old : Progress) (h : ℕ) (offer : ℕ → Option ℕ) : Type 0 where
  pub cost : (v t : ℕ) → old.cost v t ≡ None
  pub idle : (v t : ℕ) → old.pending v t ≡ false
  pub pairs : old.pairs ≡ []
  pub start : ((h ≡ k.start.node) × (offer k.start.minute ≡ Some k.start.cost)) ⊎ IsPrunable k old.pairs k.start
