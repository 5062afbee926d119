use Rattle.std.proofs.Common.{◌≡◌, inl, inr, ⊎_elim, ◌<◌, ◌≤◌, length, get_or, sym, ◌∙◌, ap, subst, arith}
use Rattle.std.proofs.lemmas.Bool.{cases_lt}
use Rattle.std.proofs.lemmas.List.{get_or_default}
use Rattle.ruled_states.specs.Inside.Latest.{HasNeed, IsLargeFor}
use Rattle.ruled_states.specs.declared.labels.Label.{Label}
use Rattle.ruled_states.proofs.latest.largest_far.Goals as goal

pub loop-label-preserved : goal.loop-label-preserved
loop-label-preserved g c =
    let r = g.R.Ruler.ruling c.args.ruler.now in
    let i = c.loop-label.label-index in
    let far = c.args.far.now in
    let near = c.args.near.now in
    let none : Label = record { value = 0; need = 0 } in
    let within : i < length far = c.loop-label-test.true in
    let step = c.larger_far-largest.ensures in
    λ k d below. ⊎_elim
    (λ (before : k < i). λ stage. ⊎_elim
    (λ (le : (get_or far k d).value ≤ c.loop-label.largest). inl (omega (arith, le, step.low)))
    (λ (had : HasNeed near (get_or far k d).need). inr had)
    (c.loop-label.invariant k d before stage))
    (λ (here : i ≤ k).
    let same : k ≡ i = omega (arith, below, here) in
    subst (λ l. IsLargeFor r near c.args.served c.larger_far-largest.result l)
    (sym (ap (λ n. get_or far n d) same ∙ get_or_default far i d none within)) step.large)
    (cases_lt k i)
