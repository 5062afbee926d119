-- The legs behind the last time that the goal is reached at no cost, step by step.
use Rattle.std.proofs.Common.{◌≡◌, ℕ, Bool, true, false, Option, Some, None, List, [], ◌∷◌, refl, sym, ◌∙◌, ap}
use Rattle.std.specs.Prelude.{◌==◌, if◌then◌else◌, unwrap_or}
use Rattle.std.specs.Option.{option_and_then, option_or}
use Rattle.std.proofs.lemmas.Bool.{eqb-true, eq-eqb}
use Rattle.route_base.specs.Net.{Net}
use Rattle.route_base.specs.declared.types.Leg.{Leg}
use Rattle.route_base.specs.declared.types.NodeId.{NodeId}
use Rattle.latest_departure.specs.Inside.Mirror.{behind_last, free_to_in}

module _ (net : Net) (goal : ℕ) where
  some_or : (o : Option (List Leg)) (legs : List Leg) → (rest : List Leg) × (option_or o (Some legs) ≡ Some rest)
  some_or None legs = (legs, refl)
  some_or (Some rest) legs = (rest, refl)

  -- at the goal there are such legs
  pub at_goal : (v : NodeId) (legs : List Leg) → v.0 ≡ goal → (rest : List Leg) × (behind_last net goal v legs ≡ Some rest)
  at_goal v [] same = ([], rw (eq-eqb v.0 goal same) refl)
  at_goal v (leg ∷ legs) same =
      let one = some_or (option_and_then (λ w. behind_last net goal w legs) (free_to_in net v leg)) (leg ∷ legs) in
      (one.0, rw (eq-eqb v.0 goal same) one.1)

  pub whatever_else : (v : NodeId) (legs one two : List Leg) → v.0 ≡ goal
      → unwrap_or (behind_last net goal v legs) one ≡ unwrap_or (behind_last net goal v legs) two
  whatever_else v legs one two same =
      let is = (at_goal v legs same).1 in
      ap (λ (o : Option (List Leg)). unwrap_or o one) is ∙ sym (ap (λ (o : Option (List Leg)). unwrap_or o two) is)

  pub one_leg_on : (v w : NodeId) (leg : Leg) (legs own : List Leg) → free_to_in net v leg ≡ Some w → (v.0 ≡ goal → own ≡ leg ∷ legs)
      → unwrap_or (behind_last net goal v (leg ∷ legs)) own ≡ unwrap_or (behind_last net goal w legs) own
  one_leg_on v w leg legs own free here =
      ap (λ (o : Option NodeId). unwrap_or (option_or (option_and_then (λ u. behind_last net goal u legs) o)
      (if v.0 == goal then Some (leg ∷ legs) else None)) own) free
      ∙ by (behind_last net goal w legs) (v.0 == goal) refl
    where
      by : (o : Option (List Leg)) (b : Bool) → (v.0 == goal) ≡ b → unwrap_or (option_or o (if b then Some (leg ∷ legs) else None)) own ≡ unwrap_or o own
      by (Some rest) b is = refl
      by None true is = sym (here (eqb-true v.0 goal is))
      by None false is = refl
