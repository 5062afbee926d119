use Rattle.std.proofs.Common.{List, ◌&&◌, ap, sym, ◌∙◌, ◌++◌, ◌∷◌, [], arith}
use Rattle.std.proofs.lemmas.List.{take_all}
use Rattle.route_base.specs.Runs.{any_has, has_minute}
use Rattle.route_base.specs.declared.types.Run.{Run}
use Rattle.network_tables.specs.NetworkModel.{closures_of}
use Rattle.network_tables.proofs.ArcPlaces.{take_next}
use Rattle.ban_expansion.proofs.closed_sets.merged_closures.Goals as goal

pub loop-k-preserved : goal.loop-k-preserved
loop-k-preserved c =
    let runs = closures_of c.args.network.now c.args.a.0 in
    c.in_ok-push.ensures.items
    ∙ ap (λ (rs : List Run). rs ++ c.closure.result ∷ []) c.loop-k.invariant
    ∙ sym (take_next runs c.loop-k.k c.closure.result c.closure.ensures)

pub returns-clause-minutes : goal.returns-clause-minutes
returns-clause-minutes c = λ t.
    let runs = closures_of c.args.network.now c.args.a.0 in
    c.in_ok-set.ensures.minutes t
    ∙ (λ i. c.in_ok-whole.ensures.minutes t i && c.in_ok-closures.ensures.minutes t i)
    ∙ ap (λ (rs : List Run). has_minute t c.args.window && any_has rs t)
    (c.as_slice.ensures.value ∙ c.loop-k.invariant ∙ take_all c.loop-k.k runs (omega (arith, c.closure_count-count.ensures)))
