-- The search begins with the start, and those that wait there.
use Rattle.std.proofs.Common.{◌≡◌, ℕ, Option, Some, List, sym, subst}
use Rattle.propagation.specs.Inside.Invariants.{IsBlank, Progress, point}
use Rattle.state_dominance.specs.Inside.Dominance.{Task, IsResting, IsSimulation, AreBoundsAlong, Reaches}
use Rattle.state_dominance.specs.Inside.Taking.{TakesOffer}
use Rattle.state_dominance.specs.Inside.Widening.{IsStartAlone, IsCleared, IsClosed}
use Rattle.state_dominance.proofs.Keeping.{takes_first}
use Rattle.state_dominance.proofs.Widening.{start_first, start_offer, start_source}
use Rattle.route_base.specs.declared.types.Pair.{Pair}

module _ (k : Task) (h : ℕ) (here : h ≡ k.start.node) (costs clear : ℕ → Option ℕ) (alone : IsStartAlone k costs) (pairs : List Pair)
    (first : IsCleared k pairs h costs clear) where
  -- what is clear of the start is reached
  pub clear_reached : (now : Progress) (t x : ℕ) → clear t ≡ Some x → Reaches k (point h t x)
  clear_reached now t x is = subst (λ v. Reaches k (point v t x)) (sym here) ((start_source k now costs alone).reached t x (first.kept t x is))

  module _ (sim : IsSimulation k) (bound : AreBoundsAlong k) (wide : ℕ → Option ℕ) (closed : IsClosed k pairs h clear wide) where
    pub start_rests : (old new : Progress) → old.pairs ≡ pairs → IsBlank old → TakesOffer k h wide old new → IsResting k new
    start_rests old new same blank takes =
        let cleared : IsCleared k old.pairs k.start.node costs clear =
        subst (λ v. IsCleared k old.pairs v costs clear) here (subst (λ w. IsCleared k w h costs clear) (sym same) first) in
        let waits : IsClosed k old.pairs k.start.node clear wide =
        subst (λ v. IsClosed k old.pairs v clear wide) here (subst (λ w. IsClosed k w h clear wide) (sym same) closed) in
        takes_first k old new k.start.node wide sim bound (start_offer k old costs alone sim bound clear wide cleared waits)
        (subst (λ v. TakesOffer k v wide old new) here takes)
        (start_first k old costs alone sim bound clear wide cleared waits blank)
