use Rattle.std.proofs.Common.{◌≡◌, ⊎_elim, ◌<◌, ℕ, zero, suc, Some, List, get_or, sym, ◌∙◌, ap, arith}
use Rattle.std.specs.Prelude.{slice_get}
use Rattle.std.proofs.lemmas.Option.{slice_get-get_or, slice_get_within}
use Rattle.route_base.specs.Net.{at_number, road_of}
use Rattle.route_base.specs.Setting.{Road}
use Rattle.route_base.specs.declared.types.TimedArc.{TimedArc}
use Rattle.route_base.proofs.Arcs.{good_arc}
use Rattle.route_base.proofs.Logic.{map_some}
use Rattle.node_arcs.proofs.StarPlaces.{earlier_or_next}
use Rattle.potentials.proofs.searches.longest_arc.Goals as goal

abbrev no_arc : TimedArc
no_arc = record { tail = record { 0 = 0 }; head = record { 0 = 0 }; minutes = 0; cost = 0; closed = 0 }

pub loop-arc-preserved : goal.loop-arc-preserved
loop-arc-preserved c =
    let net = c.args.net.now in
    let arcs = c.arcs-arc-items.result.now in
    let i = c.loop-arc.arc-index in
    let here = get_or arcs i no_arc in
    let is : at_number net.arcs (suc i) ≡ Some here =
    ap (λ (w : List TimedArc). slice_get w i) (sym c.arcs-arc-items.ensures.value) ∙ slice_get-get_or arcs i no_arc c.loop-arc-test.true in
    let good = good_arc net c.arcs-arc-items.ensures.good (suc i) here is in
    record {
      small = omega (arith, c.max-longest.ensures, good.minutes, c.loop-arc.invariant.small);
      most = λ k arc below at. ⊎_elim
          (λ (before : k < i). omega (arith, c.max-longest.ensures, c.loop-arc.invariant.most k arc before at))
          (λ (next : here ≡ arc). omega (arith, c.max-longest.ensures, ap (λ (w : TimedArc). w.minutes) next))
          (earlier_or_next arcs i k arc no_arc below at);
    }

-- the arc of a number has its place
place_of : (arcs : List TimedArc) (a : ℕ) (arc : TimedArc) → at_number arcs a ≡ Some arc → (k : ℕ) × (slice_get arcs k ≡ Some arc)
place_of arcs zero arc is = cc
place_of arcs (suc k) arc is = (k, is)

pub returns-clause-most : goal.returns-clause-most
returns-clause-most c a road is =
    let arcs = c.arcs-arc-items.result.now in
    let arc = map_some (at_number c.args.net.now.arcs a) road_of road is in
    let at = place_of arcs a arc.0 (ap (λ (w : List TimedArc). at_number w a) c.arcs-arc-items.ensures.value ∙ arc.1) in
    let within = slice_get_within arcs at.0 arc.0 at.1 in
    omega (arith, c.loop-arc.invariant.most at.0 arc.0 (omega (arith, within, c.loop-arc-test.false)) at.1, ap (λ (w : Road). w.minutes) arc.2)
