use Rattle.std.proofs.Common.{◌≡◌, ⊎_elim, ℕ, ◌+◌, ◌++◌, ◌≤◌, ◌<◌, Some, List, length, get_or, sym, ◌∙◌, ap, subst, arith}
use Rattle.std.proofs.lemmas.Bool.{cases_lt}
use Rattle.std.proofs.lemmas.List.{get_or_default}
use Rattle.route_base.specs.Net.{road_of}
use Rattle.ruled_states.specs.declared.labels.Label.{Label}
use Rattle.ruled_bounds.specs.Inside.GoodLabels.{HasAsGood, counting_of}
use Rattle.ruled_bounds.proofs.label_check.holds_along.Goals as goal

pub loop-label-preserved : goal.loop-label-preserved
loop-label-preserved g c = λ k d below m drives.
    let r = g.R.Ruler.ruling c.args.ruler.now in
    let items : List Label = c.labels_of-label-items.result.now in
    let i : ℕ = c.loop-label.label-index in
    let holds : Label → Type 0 = λ l. r.drive l.need c.args.arc.minutes ≡ Some m
    → HasAsGood r (c.labels_of-tails.result.now ++ c.far_labels_of-far.result.now) (l.value + (counting_of c.args.counted).of_drive (road_of c.args.arc)) m in
    ⊎_elim
    (λ (before : k < i). c.loop-label.invariant k d before m drives)
    (λ (late : i ≤ k).
    let here : k ≡ i = omega (arith, late, below) in
    let within : i < length items = c.loop-label-test.true in
    let same : get_or items i (record { value = 0; need = 0 }) ≡ get_or items k d =
    get_or_default items i (record { value = 0; need = 0 }) d within ∙ ap (λ n. get_or items n d) (sym here) in
    subst holds same (λ on. c.is_held.ensures c.if-not-is_held.false m on) drives)
    (cases_lt k i)
