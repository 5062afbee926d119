-- How the costs of a part become what is offered behind a road of the setting: driven, pruned, waited on, and pruned (source: own; no law).
use Rattle.std.specs.Prelude.{◌≡◌, ◌⊎◌, ℕ, ◌-◌, ◌≤◌, Option, Some, None, List}
use Rattle.route_base.specs.Itinerary.{Position, Drives}
use Rattle.route_base.specs.Relaxing.{HasWithin}
use Rattle.route_base.specs.declared.types.Bound.{Bound}
use Rattle.route_base.specs.declared.types.Pair.{Pair}
use Rattle.propagation.specs.Inside.Invariants.{Progress, point}
use Rattle.propagation.specs.Inside.Offers.{IsWaited}
use Rattle.state_dominance.specs.Inside.Dominance.{Task, Reaches, IsStart, ComesBy, IsPrunable}

-- each cost of the part is reached and known
pub record IsKnownPart (k : Task) (now : Progress) (v : ℕ) (part : ℕ → Option ℕ) : Type 0 where
  pub reached : (t x : ℕ) → part t ≡ Some x → Reaches k (point v t x)
  pub known : (t x : ℕ) → part t ≡ Some x → HasWithin now.cost (point v t x)

-- the costs with which drives of the part over a road end
pub record IsDriven (k : Task) (a v : ℕ) (part : ℕ → Option ℕ) (h : ℕ) (driven : ℕ → Option ℕ) : Type 0 where
  pub from : (t x : ℕ) → driven t ≡ Some x → (u : ℕ) × (y : ℕ) × (part u ≡ Some y) × Drives k.setting k.until a (point v u y) (point h t x)
  pub to : (u y : ℕ) (q : Position) → part u ≡ Some y → Drives k.setting k.until a (point v u y) q → (q.node ≡ h) × (driven q.minute ≡ Some q.cost)

-- costs at node h that are reached, and come from the start or from known costs, as do all that are no lower
pub record IsSource (k : Task) (now : Progress) (h : ℕ) (costs : ℕ → Option ℕ) : Type 0 where
  pub reached : (t x : ℕ) → costs t ≡ Some x → Reaches k (point h t x)
  pub comes : (t x y : ℕ) → costs t ≡ Some y → y ≤ x → IsStart k (point h t x) ⊎ ComesBy k now.cost (point h t x)

-- the cost of the start, alone
pub record IsStartAlone (k : Task) (costs : ℕ → Option ℕ) : Type 0 where
  pub here : costs k.start.minute ≡ Some k.start.cost
  pub elsewhere : (t : ℕ) → (t ≡ k.start.minute → ⊥) → costs t ≡ None

-- what is prunable is left out
pub record IsCleared (k : Task) (pairs : List Pair) (h : ℕ) (f g : ℕ → Option ℕ) : Type 0 where
  pub kept : (t x : ℕ) → g t ≡ Some x → f t ≡ Some x
  pub clear : (t x : ℕ) → g t ≡ Some x → IsPrunable k pairs (point h t x) → ⊥
  pub left : (t x : ℕ) → f t ≡ Some x → (g t ≡ Some x) ⊎ IsPrunable k pairs (point h t x)

-- clear costs at a rated node with waits while the goal is in reach, without what is prunable
pub record IsWaitedOn (k : Task) (pairs : List Pair) (h weight : ℕ) (clear wide : ℕ → Option ℕ) : Type 0 where
  pub bound : Bound
  pub has_bound : k.bounds h ≡ Some bound
  pub rated : k.setting.weight h ≡ Some weight
  pub waits : ℕ → Option ℕ
  pub waited : IsWaited clear waits (k.setting.wait_shut h) weight (k.latest h - bound.minutes)
  pub cleared : IsCleared k pairs h waits wide

-- the offer: clear costs where no one may wait, else those with waits
abbrev pub IsClosed : Task → List Pair → ℕ → (ℕ → Option ℕ) → (ℕ → Option ℕ) → Type 0
IsClosed k pairs h clear wide = ((k.setting.weight h ≡ None) × ((t : ℕ) → wide t ≡ clear t))
    ⊎ ((weight : ℕ) × IsWaitedOn k pairs h weight clear wide)
