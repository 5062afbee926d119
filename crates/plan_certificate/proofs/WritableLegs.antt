-- Lawful legs can be written.
use Rattle.std.proofs.Common.{◌≡◌, ◌≢◌, ⊎_elim, ℕ, ◌≤◌, ◌<◌, Some, List, [], ◌∷◌, All, replicate, ap, arith}
use Rattle.std.proofs.lemmas.Bool.{cases_lt}
use Rattle.std.proofs.lemmas.List.Elements.{All-nil, All-cons}
use Rattle.route_base.specs.Setting.{Setting, Road}
use Rattle.route_base.specs.Itinerary.{Position, wait, Walks}
use Rattle.route_base.specs.Legs.{steps_of, HasNoEmptyWait}
use Rattle.route_base.specs.declared.limits.TheConstants.{LAST_INSTANT, MOST_ARCS}
use Rattle.route_base.specs.declared.types.Leg.{Leg}
use Rattle.route_base.specs.declared.types.Leg.TheVariants.{Drive, Wait}
use Rattle.route_base.proofs.Waiting.{waits_in_time}
use Rattle.certificate.specs.Writable.{IsWritableLeg}
use Rattle.route_base.proofs.Walking.{walk_parts}

some_minutes : (k : ℕ) → Wait k ≢ Wait 0 → 1 ≤ k
some_minutes k not = ⊎_elim
    (λ (some : 0 < k). omega (arith, some))
    (λ (none : k ≤ 0). let zero : k ≡ 0 = omega (arith, none) in absurd (not (ap Wait zero)))
    (cases_lt 0 k)

module _ (s : Setting) (until : ℕ) (arcs : (a : ℕ) (road : Road) → s.road a ≡ Some road → (1 ≤ a) × (a ≤ MOST_ARCS)) (last : until ≤ LAST_INSTANT) where
  pub writable_legs : (legs : List Leg) (p q : Position) → HasNoEmptyWait legs → Walks s until (steps_of legs) p q → All IsWritableLeg legs
  writable_legs [] p q tidy walk = All-nil IsWritableLeg
  writable_legs (Drive a ∷ legs) p q tidy walk =
      All-cons IsWritableLeg (Drive a) legs (arcs a.0 walk.1.road walk.1.is) (writable_legs legs walk.0 q tidy.1 walk.2)
  writable_legs (Wait k ∷ legs) p q tidy walk =
      let parts = walk_parts s until (replicate k wait) (steps_of legs) p q walk in
      let some = some_minutes k tidy.0 in
      let in_time = waits_in_time s until k p parts.0 some parts.1 in
      All-cons IsWritableLeg (Wait k) legs (some, omega (arith, in_time, last)) (writable_legs legs parts.0 q tidy.1 parts.2)
