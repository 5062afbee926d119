use Rattle.std.proofs.Common.{◌≡◌, sym, ◌∙◌, ◌++◌, ◌∷◌, [], arith}
use Rattle.std.proofs.lemmas.List.{take_all}
use Rattle.network_tables.specs.NetworkModel.{closures_of}
use Rattle.network_tables.proofs.ArcPlaces.{take_next}
use Rattle.ban_expansion.proofs.arc_comparison.have_same_closures.Goals as goal

pub loop-k-preserved : goal.loop-k-preserved
loop-k-preserved c =
    let first = closures_of c.args.network.now c.args.a.0 in
    let second = closures_of c.args.network.now c.args.b.0 in
    let k = c.loop-k.k in
    let same : c.closure-first.result ≡ c.closure-second.result = λ i. record { lo = c.if-first-second.false i; hi = c.if-first-second-2.false i } in
    take_next first k c.closure-first.result c.closure-first.ensures
    ∙ (λ i. c.loop-k.invariant i ++ same i ∷ [])
    ∙ sym (take_next second k c.closure-second.result c.closure-second.ensures)

pub returns : goal.returns
returns c = λ yes.
    let first = closures_of c.args.network.now c.args.a.0 in
    let second = closures_of c.args.network.now c.args.b.0 in
    let k = c.loop-k.k in
    sym (take_all k first (omega (arith, c.closure_count-count.ensures)))
    ∙ c.loop-k.invariant
    ∙ take_all k second (omega (arith, c.closure_count.ensures, c.if-closure_count-count.false))
