-- The first minute that some runs have.
use Rattle.std.proofs.Common.{◌≡◌, ℕ, ◌≤◌, ◌<◌, ◌∷◌, [], ◌++◌, ◌||◌, false, true, not, List, inl, inr, ap, subst, ◌∙◌, arith}
use Rattle.std.proofs.lemmas.Bool.{cases_lt, or_left, or_right}
use Rattle.route_base.specs.Runs.{any_has, has_minute}
use Rattle.route_base.specs.declared.types.Run.{Run}
use Rattle.vehicle_classes.specs.VehicleModel.{VehicleModel}
use Rattle.network_tables.specs.Access.{is_closed, is_let_in}
use Rattle.network_tables.specs.NetworkModel.{NetworkModel, closures_of}
use Rattle.network_tables.proofs.ArcPlaces.{any_found}
use Rattle.trip_explain.specs.declared.explanation.Why.{Why}
use Rattle.trip_explain.specs.Inside.{IsFirstWithin}
use Rattle.trip_explain.specs.Reasons.{IsClosedBy}
use Rattle.covered_minutes.proofs.Algebra.{any_pushed}

-- where one run more is gone through
pub one_run_more : (runs : List Run) (run : Run) (from end first now : ℕ) → IsFirstWithin runs from end first
    → from ≤ now → now ≤ first → ((u : ℕ) → from ≤ u → u < now → has_minute u run ≡ false) → (now < first → has_minute now run ≡ true)
    → IsFirstWithin (runs ++ run ∷ []) from end now
one_run_more runs run from end first now was low high before here = record {
  from_on = low;
  up_to = omega (arith, high, was.up_to);
  before = λ u at under.
      any_pushed runs run u
      ∙ ap (λ b. b || has_minute u run) (was.before u at (omega (arith, under, high)))
      ∙ before u at under;
  here = λ within. any_pushed runs run now ∙
      elim (cases_lt now first) [
        | inl less ↦ or_right (any_has runs now) (has_minute now run) (here less)
        | inr over ↦
            let same : first ≡ now = omega (arith, over, high) in
            or_left (any_has runs now) (has_minute now run)
            (subst (λ (t : ℕ). any_has runs t ≡ true) same (was.here (omega (arith, within, same))))
      ];
}

-- an arc that lets the vehicle in and has no closure at the minute is open
pub open_by : (network : NetworkModel) (vehicle : VehicleModel) (a t : ℕ) → is_let_in network vehicle a t ≡ true
    → any_has (closures_of network a) t ≡ false → is_closed network vehicle a t ≡ false
open_by network vehicle a t let_in free = λ i. not (let_in i) || free i

-- an arc with a closure at the minute is closed
pub closed_in : (network : NetworkModel) (vehicle : VehicleModel) (a t : ℕ) → any_has (closures_of network a) t ≡ true
    → is_closed network vehicle a t ≡ true
closed_in network vehicle a t has = or_right (not (is_let_in network vehicle a t)) (any_has (closures_of network a) t) has

-- an arc with a reason to be closed is closed
pub closed_by : (network : NetworkModel) (vehicle : VehicleModel) (a t : ℕ) (why : Why) → IsClosedBy network vehicle a t why
    → is_closed network vehicle a t ≡ true
closed_by network vehicle a t why (inl barred) = ap (λ b. not b || any_has (closures_of network a) t) barred.barred
closed_by network vehicle a t why (inr within) =
    closed_in network vehicle a t
    (any_found (has_minute t) (closures_of network a) within.k within.first.run within.first.there within.first.here)
