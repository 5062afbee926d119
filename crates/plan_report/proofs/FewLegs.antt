-- Lawful legs are no more than the minutes that they take.
use Rattle.std.proofs.Common.{◌≡◌, ◌≢◌, ℕ, zero, suc, ◌+◌, ◌≤◌, List, [], ◌∷◌, length, Some, None, refl, ap, arith}
use Rattle.std.specs.Prelude.{Option, unwrap_or}
use Rattle.std.specs.Option.{option_map}
use Rattle.route_base.specs.Setting.{Road}
use Rattle.route_base.specs.Itinerary.{Position, Walks}
use Rattle.route_base.specs.Legs.{steps_of, HasNoEmptyWait}
use Rattle.route_base.specs.Net.{Net, IsGoodNet, IsGoodArc, at_number, road_of, setting_of}
use Rattle.route_base.specs.declared.types.Leg.{Leg}
use Rattle.route_base.specs.declared.types.Leg.TheVariants.{Drive, Wait}
use Rattle.route_base.specs.declared.types.TimedArc.{TimedArc}
use Rattle.route_base.proofs.Numbered.{at_number-all}
use Rattle.plan_report.specs.Stages.{no_road, road_at, position_after}
use Rattle.plan_report.proofs.Going.{walk_after}

-- a road takes some minutes
takes_time : (net : Net) (a : ℕ) (road : Road) (o : Option TimedArc) → IsGoodNet net → at_number net.arcs a ≡ o → option_map road_of o ≡ Some road
    → 1 ≤ road.minutes
takes_time net a road None good at is = absurd (cc)
takes_time net a road (Some arc) good at is =
    let arc_is : IsGoodArc net arc = at_number-all (IsGoodArc net) net.arcs a arc good.each_arc at in
    let same : unwrap_or (Some (road_of arc)) no_road ≡ road = ap (λ (r : Option Road). unwrap_or r no_road) is in
    omega (arith, arc_is.minutes.0, ap (λ (r : Road). r.minutes) same)

later : (net : Net) (until : ℕ) (leg : Leg) (legs : List Leg) (p q : Position) → IsGoodNet net → leg ≢ Wait 0
    → Walks (setting_of net) until (steps_of (leg ∷ legs)) p q → p.minute + 1 ≤ (position_after (setting_of net) p leg).minute
later net until (Drive a) legs p q good some walk =
    let is : road_at (setting_of net) a.0 ≡ walk.1.road = ap (λ (o : Option Road). unwrap_or o no_road) walk.1.is in
    omega (arith, takes_time net a.0 walk.1.road (at_number net.arcs a.0) good refl walk.1.is, ap (λ (r : Road). r.minutes) is)
later net until (Wait zero) legs p q good some walk = absurd (some refl)
later net until (Wait (suc k)) legs p q good some walk = omega arith

pub few_legs : (net : Net) (until : ℕ) (legs : List Leg) (p q : Position) → IsGoodNet net → HasNoEmptyWait legs
    → Walks (setting_of net) until (steps_of legs) p q → p.minute + length legs ≤ q.minute
few_legs net until [] p q good some walk = omega (arith, ap (λ (x : Position). x.minute) walk)
few_legs net until (leg ∷ legs) p q good some walk =
    let here = later net until leg legs p q good some.0 walk in
    let more = few_legs net until legs (position_after (setting_of net) p leg) q good some.1
    (walk_after (setting_of net) until leg (steps_of legs) p q walk) in
    omega (arith, here, more)
