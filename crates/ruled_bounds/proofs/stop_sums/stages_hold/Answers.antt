use Rattle.std.proofs.Common.{◌≡◌, ◌⊎◌, ⊎_elim, ◌≤◌, ◌<◌, ℕ, Option, None, refl, sym, ◌∙◌, subst, arith}
use Rattle.std.specs.Prelude.{slice_get}
use Rattle.std.proofs.lemmas.Bool.{cases_lt}
use Rattle.std.proofs.lemmas.Option.{slice_get_past}
use Rattle.route_base.specs.Net.{setting_of}
use Rattle.state_dominance.specs.Inside.Product.{Service}
use Rattle.ruled_states.specs.Inside.Reduced.{reduced_in, sums_of}
use Rattle.ruled_bounds.specs.Inside.Reducing.{EndsBy, HoldsInto}
use Rattle.ruled_bounds.proofs.stop_sums.stages_hold.Goals as goal

pub loop-stage-preserved : goal.loop-stage-preserved
loop-stage-preserved g c =
    let sums = c.args.sums.now in
    let held : ℕ → Type 0 = λ i. ((v : ℕ) → 1 ≤ v → v ≤ c.args.ground.now.net.now.nodes
    → HoldsInto (setting_of c.args.ground.now.net.now) c.args.ground.now.incoming.now sums.price (reduced_in (sums_of sums.sums.items)) i v)
    × EndsBy (reduced_in (sums_of sums.sums.items)) i (slice_get (g.R.Ruler.ruling c.args.ground.now.ruler.now).services i) in
    λ i below. ⊎_elim
    (λ (before : i < c.loop-stage.stage). c.loop-stage.invariant i before)
    (λ (here : c.loop-stage.stage ≤ i). subst held (omega (arith, here, below))
    (c.nodes_hold.ensures c.if-not-nodes_hold.false, c.ends_in_nothing.ensures c.if-not-ends_in_nothing.false))
    (cases_lt i c.loop-stage.stage)

pub returns-clause-nodes : goal.returns-clause-nodes
returns-clause-nodes g c = λ yes i few.
    (c.loop-stage.invariant i (omega (arith, few, c.service_count-stage-end.ensures, c.loop-stage-test.false))).0

pub returns-clause-stops : goal.returns-clause-stops
returns-clause-stops g c = λ yes i.
    let sums = c.args.sums.now in
    let services = (g.R.Ruler.ruling c.args.ground.now.ruler.now).services in
    ⊎_elim
    (λ (few : i < c.loop-stage.stage). (c.loop-stage.invariant i few).1)
    (λ (past : c.loop-stage.stage ≤ i). subst (λ (o : Option Service). EndsBy (reduced_in (sums_of sums.sums.items)) i o)
    (sym (slice_get_past services i (omega (arith, past, c.service_count-stage-end.ensures, c.loop-stage-test.false)))) tt)
    (cases_lt i c.loop-stage.stage)
