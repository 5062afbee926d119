-- Drives whose offer needn't be made, since a cost is known at their end that is no larger.
use Rattle.std.proofs.Common.{◌≡◌, ℕ, ◌+◌, Option, Some, List, sym, ◌∙◌, ap, arith}
use Rattle.route_base.specs.Setting.{Road}
use Rattle.route_base.specs.Itinerary.{Position, Drives}
use Rattle.route_base.specs.Net.{Net, road_of, setting_of, at_number}
use Rattle.route_base.specs.Relaxing.{HasWithin}
use Rattle.route_base.specs.declared.types.TimedArc.{TimedArc}
use Rattle.route_base.proofs.Arcs.{road_is}
use Rattle.cost_functions.specs.Pieces.{value_at}
use Rattle.cost_functions.specs.declared.pieces.Piece.{Piece}
use Rattle.function_merge.specs.Rejection.{IsNoBetter}
use Rattle.propagation.specs.Inside.Invariants.{point}

pub drive_known : (net : Net) (until a v : ℕ) (arc : TimedArc) → at_number net.arcs a ≡ Some arc → (cost : ℕ → ℕ → Option ℕ) (own : List Piece)
    → ((t : ℕ) → cost arc.head.0 t ≡ value_at own t) → (t x : ℕ) → IsNoBetter own (t + arc.minutes) (x + arc.cost)
    → (q : Position) → Drives (setting_of net) until a (point v t x) q → HasWithin cost q
drive_known net until a v arc is cost own known t x low q step =
    let same : step.road ≡ road_of arc = sym (road_is (at_number net.arcs a) arc step.road is step.is) in
    let minutes : step.road.minutes ≡ arc.minutes = ap (λ (w : Road). w.minutes) same in
    let costs : step.road.cost ≡ arc.cost = ap (λ (w : Road). w.cost) same in
    let node : q.node ≡ arc.head.0 = step.node ∙ ap (λ (w : Road). w.head) same in
    let end : q.minute ≡ t + arc.minutes = omega (arith, step.minute, minutes) in
    record {
      least = low.least;
      is = ap (λ n. cost n q.minute) node ∙ ap (λ m. cost arc.head.0 m) end ∙ known (t + arc.minutes) ∙ low.is;
      within = omega (arith, low.within, step.cost, costs);
    }
