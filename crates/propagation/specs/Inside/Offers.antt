-- How a part of the costs at one node becomes an offer to another (source: own; no law).
use Rattle.std.specs.Prelude.{◌≡◌, ◌⊎◌, ℕ, ◌+◌, ◌-◌, ◌*◌, ◌≤◌, ◌<◌, Bool, false, Option, Some, List}
use Rattle.route_base.specs.Itinerary.{Position, Drives}
use Rattle.route_base.specs.Relaxing.{HasWithin}
use Rattle.route_base.specs.declared.types.Pair.{Pair}
use Rattle.propagation.specs.Found.{IsStart}
use Rattle.propagation.specs.Inside.Invariants.{Task, Progress, point, IsPrunable, Reaches, ComesBy, HasIn}

-- each cost of the part is reached, and a cost is known there that is no larger
pub record IsKnownPart (k : Task) (now : Progress) (v : ℕ) (part : ℕ → Option ℕ) : Type 0 where
  pub reached : (t x : ℕ) → part t ≡ Some x → Reaches k (point v t x)
  pub known : (t x : ℕ) → part t ≡ Some x → HasWithin now.cost (point v t x)

-- the costs at node h with which drives of the part over arc a end
pub record IsDriven (k : Task) (a v : ℕ) (part : ℕ → Option ℕ) (h : ℕ) (driven : ℕ → Option ℕ) : Type 0 where
  pub from : (t x : ℕ) → driven t ≡ Some x → (u : ℕ) × (y : ℕ) × (part u ≡ Some y) × Drives k.setting k.request.until a (point v u y) (point h t x)
  pub to : (u y : ℕ) (q : Position) → part u ≡ Some y → Drives k.setting k.request.until a (point v u y) q
      → (q.node ≡ h) × (driven q.minute ≡ Some q.cost)

-- waiting is open at each minute from one on and before another
abbrev pub IsOpenUntil : (ℕ → Bool) → ℕ → ℕ → Type 0
IsOpenUntil shut from to = (u : ℕ) → from ≤ u → u < to → shut u ≡ false

-- g is at each minute up to the last the least cost of a wait from a cost of f, over minutes at which waiting is open
pub record IsWaited (f g : ℕ → Option ℕ) (shut : ℕ → Bool) (weight until : ℕ) : Type 0 where
  pub found : (t x : ℕ) → g t ≡ Some x
      → (t ≤ until) × (s : ℕ) × (y : ℕ) × (s ≤ t) × IsOpenUntil shut s t × (f s ≡ Some y) × (x ≡ y + weight * (t - s))
  pub least : (s y t : ℕ) → f s ≡ Some y → s ≤ t → t ≤ until → IsOpenUntil shut s t
      → (x : ℕ) × (g t ≡ Some x) × (x ≤ y + weight * (t - s))

-- costs at node h that are reached, and come from the start or from known costs
pub record IsSource (k : Task) (now : Progress) (h : ℕ) (costs : ℕ → Option ℕ) : Type 0 where
  pub reached : (t x : ℕ) → costs t ≡ Some x → Reaches k (point h t x)
  pub comes : (t x y : ℕ) → costs t ≡ Some y → y ≤ x → IsStart k.request (point h t x) ⊎ ComesBy k now.cost (point h t x)

-- what is prunable is left out
pub record IsCleared (k : Task) (pairs : List Pair) (h : ℕ) (f g : ℕ → Option ℕ) : Type 0 where
  pub kept : (t x : ℕ) → g t ≡ Some x → f t ≡ Some x
  pub clear : (t x : ℕ) → g t ≡ Some x → IsPrunable k pairs (point h t x) → ⊥
  pub left : (t x : ℕ) → f t ≡ Some x → (g t ≡ Some x) ⊎ IsPrunable k pairs (point h t x)

-- the costs with which drives of the part end, without what is prunable
pub record AreClearDrives (k : Task) (pairs : List Pair) (a v : ℕ) (part : ℕ → Option ℕ) (h : ℕ) (clear : ℕ → Option ℕ) : Type 0 where
  pub ends : ℕ → Option ℕ
  pub driven : IsDriven k a v part h ends
  pub cleared : IsCleared k pairs h ends clear

-- costs that come from others, without what is prunable
pub record IsClearSource (k : Task) (now : Progress) (h : ℕ) (clear : ℕ → Option ℕ) : Type 0 where
  pub costs : ℕ → Option ℕ
  pub source : IsSource k now h costs
  pub cleared : IsCleared k now.pairs h costs clear

-- where f has a cost, g has one that is no larger, or it is prunable
abbrev pub Covers : Task → List Pair → ℕ → (ℕ → Option ℕ) → (ℕ → Option ℕ) → Type 0
Covers k pairs h f g = (t x : ℕ) → f t ≡ Some x → HasIn g (point h t x) ⊎ IsPrunable k pairs (point h t x)

-- where a drive over arc a leads from the part, the offer has a cost that is no larger, or it is prunable
abbrev pub CoversDrives : Task → List Pair → ℕ → ℕ → (ℕ → Option ℕ) → ℕ → (ℕ → Option ℕ) → Type 0
CoversDrives k pairs a v part h offer = (u y : ℕ) (q : Position) → part u ≡ Some y → Drives k.setting k.request.until a (point v u y) q
    → (q.node ≡ h) × (HasIn offer q ⊎ IsPrunable k pairs q)
