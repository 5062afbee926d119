-- A step that can't be made has one minute and one reason.
use Rattle.std.proofs.Common.{◌≡◌, ℕ, List, ◌+◌, ◌<◌, ◌≤◌, true, false, Option, Some, None, inl, inr, take, refl, sym}
use Rattle.std.proofs.Common.{◌∙◌, ap, subst, arith}
use Rattle.std.proofs.lemmas.Bool.{cases_lt}
use Rattle.route_base.specs.Itinerary.{Position, Step, drive, wait}
use Rattle.route_base.specs.Runs.{has_minute}
use Rattle.route_base.specs.Setting.{Setting, Road}
use Rattle.route_base.specs.declared.types.Run.{Run}
use Rattle.vehicle_classes.specs.VehicleModel.{VehicleModel}
use Rattle.network_tables.specs.NetworkModel.{NetworkModel, closures_of}
use Rattle.network_tables.specs.RoadSetting.{road_setting}
use Rattle.trip_explain.specs.declared.explanation.Why.{Why}
use Rattle.trip_explain.specs.declared.explanation.Why.TheVariants.{Closure}
use Rattle.road_access.specs.Closures.{IsFirstRun}
use Rattle.trip_explain.specs.Reasons.{Begins, ClosesFirst, IsClosedBy, IsElsewhere, IsBarred, elsewhere, late, closed, unrated, late_wait}
use Rattle.trip_explain.specs.Reasons.{shut_wait, reason_of}
use Rattle.network_tables.proofs.ArcPlaces.{any_found, some_same, taken}

not_later : (runs : List Run) (t k n : ℕ) → IsFirstRun runs t k → IsFirstRun runs t n → k < n → ⊥
not_later runs t k n one two less =
    let found = any_found (has_minute t) (take n runs) k one.run (taken runs k n one.run less one.there) one.here in
    let bad : true ≡ false = sym found ∙ two.before in
    cc

one_run : (runs : List Run) (t k n : ℕ) → IsFirstRun runs t k → IsFirstRun runs t n → k ≡ n
one_run runs t k n one two =
    elim (cases_lt k n) [
      | inl less ↦ absurd (not_later runs t k n one two less)
      | inr over ↦ elim (cases_lt n k) [
        | inl more ↦ absurd (not_later runs t n k two one more)
        | inr same ↦ omega (arith, over, same)
      ]
    ]

one_closing : (network : NetworkModel) (vehicle : VehicleModel) (a t : ℕ) (why other : Why) → IsClosedBy network vehicle a t why
    → IsClosedBy network vehicle a t other → why ≡ other
one_closing network vehicle a t why other (inl one) (inl two) =
    one.is ∙ ap reason_of (some_same _ one.ruling two.ruling one.given two.given) ∙ sym two.is
one_closing network vehicle a t why other (inl one) (inr two) = let bad : false ≡ true = sym one.barred ∙ two.let_in in absurd (cc)
one_closing network vehicle a t why other (inr one) (inl two) = let bad : false ≡ true = sym two.barred ∙ one.let_in in absurd (cc)
one_closing network vehicle a t why other (inr one) (inr two) =
    one.is ∙ ap (λ (k : ℕ). Closure (k + 1)) (one_run (closures_of network a) t one.k two.k one.first two.first) ∙ sym two.is

closes_earlier : (network : NetworkModel) (vehicle : VehicleModel) (a from t u : ℕ) (why other : Why) → ClosesFirst network vehicle a from t why
    → ClosesFirst network vehicle a from u other → t < u → ⊥
closes_earlier network vehicle a from t u why other one two less =
    let bad : false ≡ true = sym (two.before t one.from_on less) ∙ one.closed in
    cc

one_first : (network : NetworkModel) (vehicle : VehicleModel) (a from t u : ℕ) (why other : Why) → ClosesFirst network vehicle a from t why
    → ClosesFirst network vehicle a from u other → (t ≡ u) × (why ≡ other)
one_first network vehicle a from t u why other one two =
    let same : t ≡ u = elim (cases_lt t u) [
      | inl less ↦ absurd (closes_earlier network vehicle a from t u why other one two less)
      | inr over ↦ elim (cases_lt u t) [
        | inl more ↦ absurd (closes_earlier network vehicle a from u t other why two one more)
        | inr under ↦ omega (arith, over, under)
      ]
    ] in
    (same, one_closing network vehicle a u why other (subst (λ (m : ℕ). IsClosedBy network vehicle a m why) same one.by) two.by)

not_both : (s : Setting) (a v : ℕ) (road : Road) → IsElsewhere s a v → Begins s a v road → ⊥
not_both s a v road (inl none) begins = let bad : None ≡ Some road = sym none ∙ begins.is in cc
not_both s a v road (inr (other, is, differs)) begins =
    differs (ap (λ (w : Road). w.tail) (some_same (s.road a) other road is begins.is) ∙ begins.tail)

not_late : (s : Setting) (a v until t : ℕ) (road other : Road) → Begins s a v road → Begins s a v other → until < t + road.minutes
    → t + other.minutes ≤ until → ⊥
not_late s a v until t road other one two after fits =
    let minutes : road.minutes ≡ other.minutes = ap (λ (w : Road). w.minutes) (some_same (s.road a) road other one.is two.is) in
    omega (arith, minutes, after, fits)

not_rated : (o : Option ℕ) (weight : ℕ) → o ≡ None → o ≡ Some weight → ⊥
not_rated o weight none rated = let bad : None ≡ Some weight = sym none ∙ rated in cc

-- a step that can't be made has one minute and one reason
pub stuck_once : (network : NetworkModel) (vehicle : VehicleModel) (until : ℕ) (p : Position) (x : Step) (t u : ℕ) (why other : Why)
    → IsBarred network vehicle until p x t why → IsBarred network vehicle until p x u other → (t ≡ u) × (why ≡ other)
stuck_once network vehicle until p (drive a) t u why other (elsewhere e) (elsewhere f) = (refl, refl)
stuck_once network vehicle until p (drive a) t u why other (elsewhere e) (late road begins after) =
    absurd (not_both (road_setting network vehicle) a p.node road e begins)
stuck_once network vehicle until p (drive a) t u why other (elsewhere e) (closed road begins fits within first) =
    absurd (not_both (road_setting network vehicle) a p.node road e begins)
stuck_once network vehicle until p (drive a) t u why other (late road begins after) (elsewhere e) =
    absurd (not_both (road_setting network vehicle) a p.node road e begins)
stuck_once network vehicle until p (drive a) t u why other (late road begins after) (late road' begins' after') = (refl, refl)
stuck_once network vehicle until p (drive a) t u why other (late road begins after) (closed road' begins' fits within first) =
    absurd (not_late (road_setting network vehicle) a p.node until p.minute road road' begins begins' after fits)
stuck_once network vehicle until p (drive a) t u why other (closed road begins fits within first) (elsewhere e) =
    absurd (not_both (road_setting network vehicle) a p.node road e begins)
stuck_once network vehicle until p (drive a) t u why other (closed road begins fits within first) (late road' begins' after) =
    absurd (not_late (road_setting network vehicle) a p.node until p.minute road' road begins' begins after fits)
stuck_once network vehicle until p (drive a) t u why other (closed road begins fits within first) (closed road' begins' fits' within' first') =
    one_first network vehicle a p.minute t u why other first first'
stuck_once network vehicle until p wait t u why other (unrated none) (unrated none') = (refl, refl)
stuck_once network vehicle until p wait t u why other (unrated none) (late_wait weight rated after) = absurd (not_rated _ weight none rated)
stuck_once network vehicle until p wait t u why other (unrated none) (shut_wait weight rated fits shut) = absurd (not_rated _ weight none rated)
stuck_once network vehicle until p wait t u why other (late_wait weight rated after) (unrated none) = absurd (not_rated _ weight none rated)
stuck_once network vehicle until p wait t u why other (late_wait weight rated after) (late_wait weight' rated' after') = (refl, refl)
stuck_once network vehicle until p wait t u why other (late_wait weight rated after) (shut_wait weight' rated' fits shut) = absurd (omega (arith, after, fits))
stuck_once network vehicle until p wait t u why other (shut_wait weight rated fits shut) (unrated none) = absurd (not_rated _ weight none rated)
stuck_once network vehicle until p wait t u why other (shut_wait weight rated fits shut) (late_wait weight' rated' after) = absurd (omega (arith, after, fits))
stuck_once network vehicle until p wait t u why other (shut_wait weight rated fits shut) (shut_wait weight' rated' fits' shut') = (refl, refl)
