use Rattle.std.proofs.Common.{◌≡◌, ◌-◌, ◌<◌, ap, sym, ◌∙◌, subst, length, get_or, arith, rules}
use Rattle.std.proofs.lemmas.List.{length-map, get_or-map}
use Rattle.route_base.proofs.Numbered.{within_number}
use Rattle.route_base.specs.Runs.{AreRuns}
use Rattle.route_base.specs.declared.types.TimedArc.{TimedArc}
use Rattle.route_base.proofs.net.TimedNet.closed_runs.Goals as goal

pub returns-clause-rising : goal.returns-clause-rising
returns-clause-rising c =
    let size = length-map c.self.inside.closed.items (λ v. v.items) in
    let place : c.args.a.0 - 1 < length c.self.inside.arcs.items = within_number c.self.inside.arcs.items c.args.a.0 (search rules) in
    let arc = c.index-arc.result.now in
    let named = c.self.invariant.each_arc (c.args.a.0 - 1) arc place in
    let at : (get_or c.self.inside.arcs.items (c.args.a.0 - 1) arc).closed ≡ arc.closed = ap (λ (a : TimedArc). a.closed) (sym c.index-arc.ensures) in
    let within : arc.closed < length c.self.inside.closed.items = omega (arith, named.closed, at, size) in
    let runs = c.self.invariant.each_runs arc.closed c.index.result.now.items (omega (arith, within, size)) in
    subst AreRuns (get_or-map (λ v. v.items) c.self.inside.closed.items arc.closed c.index.result.now c.index.result.now.items within ∙ ap
    (λ v. v.items) (sym c.index.ensures) ∙ sym c.as_slice.ensures.value) runs
