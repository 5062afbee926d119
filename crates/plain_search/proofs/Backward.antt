-- Steps found backwards, and which of them come first.
use Rattle.std.proofs.Common.{◌≡◌, ℕ, ◌<◌, List, [], ◌∷◌, ◌++◌, reverse, sym, ap, subst}
use Rattle.std.proofs.lemmas.List.{reverse-append}
use Rattle.route_base.specs.Itinerary.{drive, wait, Drives, Waits}
use Rattle.route_base.specs.Legs.{steps_of, steps_of_leg}
use Rattle.route_base.specs.Net.{Net, setting_of}
use Rattle.route_base.specs.declared.types.ArcId.{ArcId}
use Rattle.route_base.specs.declared.types.Leg.{Leg}
use Rattle.route_base.specs.declared.types.Leg.TheVariants.{Drive}
use Rattle.route_base.specs.StepsBack.{IsFirstLeg}
use Rattle.route_base.proofs.GoingBack.{drives_first}
use Rattle.plain_search.specs.Inside.Costs.{none, at, value_of}
use Rattle.plain_search.proofs.EveryWay.{no_move}

module _ (net : Net) (until : ℕ) (cost : ℕ → ℕ → ℕ) (v t : ℕ) where
  -- no wait from a known cost ends here at this cost
  abbrev pub NoWait : Type 0
  NoWait = (u k : ℕ) → cost u k < none → Waits (setting_of net) until (at cost u k) (at cost v t) → ⊥

  -- no drive over the arc from a known cost ends here at this cost
  abbrev pub NoDrive : ℕ → Type 0
  NoDrive a = (u k : ℕ) → cost u k < none → Drives (setting_of net) until a (at cost u k) (at cost v t) → ⊥

  pub drive_comes_first : NoWait → (a : ArcId) (leg : Leg) → leg ≡ Drive a → ((b : ℕ) → b < a.0 → NoDrive b)
      → IsFirstLeg (setting_of net) until (value_of cost) (at cost v t) leg
  drive_comes_first nowhere a leg is smaller = subst (λ (w : Leg). IsFirstLeg (setting_of net) until (value_of cost) (at cost v t) w) (sym is)
      (drives_first (setting_of net) until (value_of cost) (at cost v t) (no_move cost (setting_of net) until wait (at cost v t) nowhere) a
      (λ b less. no_move cost (setting_of net) until (drive b) (at cost v t) (smaller b less)))

-- one leg more at the front of legs that are kept in reverse
pub steps-reverse_push : (legs : List Leg) (leg : Leg) → steps_of (reverse (legs ++ leg ∷ [])) ≡ steps_of_leg leg ++ steps_of (reverse legs)
steps-reverse_push legs leg = ap steps_of (reverse-append legs (leg ∷ []))
