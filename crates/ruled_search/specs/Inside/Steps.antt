-- An offer as it is made and taken (source: own; no law).
use Rattle.std.specs.Prelude.{◌≡◌, ℕ, Option}
use Rattle.propagation.specs.Inside.Invariants.{Progress}
use Rattle.state_dominance.specs.Inside.Dominance.{Task}
use Rattle.state_dominance.specs.Inside.Taking.{IsNarrowed, IsOffer}
use Rattle.state_dominance.specs.Inside.Widening.{IsClosed, IsDriven, IsCleared}
use Rattle.ruled_search.specs.Inside.Ways.{road_in, tail_of, head_of}
use Rattle.ruled_search.specs.declared.ways.Way.{Way}

-- the costs that drives of the part over the way offer: driven, pruned, waited on, pruned, and without what is dominated
pub record IsOfferedBy (k : Task) (now : Progress) (way : Way) (part offer : ℕ → Option ℕ) : Type 0 where
  pub ends : ℕ → Option ℕ
  pub clear : ℕ → Option ℕ
  pub wide : ℕ → Option ℕ
  pub driven : IsDriven k (road_in way) (tail_of way) part (head_of way) ends
  pub cleared : IsCleared k now.pairs (head_of way) ends clear
  pub closed : IsClosed k now.pairs (head_of way) clear wide
  pub narrowed : IsNarrowed k now (head_of way) wide offer
  pub offers : IsOffer k now (head_of way) offer

-- the table grows without a change of what is found
pub record IsAlike (old new : Progress) : Type 0 where
  pub cost : (c t : ℕ) → new.cost c t ≡ old.cost c t
  pub pending : (c t : ℕ) → new.pending c t ≡ old.pending c t
  pub pairs : new.pairs ≡ old.pairs
