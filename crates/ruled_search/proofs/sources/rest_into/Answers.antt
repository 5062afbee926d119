use Rattle.std.proofs.Common.{◌≡◌, ⊎_elim, ℕ, ◌<◌, ◌≤◌, List, length, refl, ap, subst, arith}
use Rattle.std.proofs.lemmas.Bool.{cases_lt}
use Rattle.std.proofs.lemmas.Option.{slice_get_within}
use Rattle.ruled_search.specs.Inside.Sources.{HasNoRoad}
use Rattle.ruled_search.specs.Inside.Tasks.{progress_of, task_of}
use Rattle.ruled_search.proofs.Sourcing.{rest_missed}
use Rattle.ruled_search.proofs.sources.rest_into.Goals as goal

pub loop-place-preserved : goal.loop-place-preserved
loop-place-preserved g c i below = ⊎_elim
    (λ (before : i < c.loop-place.place). c.loop-place.invariant i before)
    (λ (here : c.loop-place.place ≤ i).
    let same : c.loop-place.place ≡ i = omega (arith, below, here) in
    subst (λ n. HasNoRoad (task_of _ g.R.Ruler.ruling c.args.task) (progress_of c.args.progress.now).cost c.args.spot 1 n) same
    (c.in_default.ensures.none refl))
    (cases_lt i c.loop-place.place)

pub returns-clause-none : goal.returns-clause-none
returns-clause-none g c _ place = ⊎_elim
    (λ (before : place < c.loop-place.place). c.loop-place.invariant place before)
    (λ (past : c.loop-place.place ≤ place). rest_missed c.requires.solved c.args.spot c.requires.spot c.requires.upto place
    (λ rest weight is rated early cheap opens k after known.
    omega (
      arith,
      past,
      c.loop-place-test.false,
      slice_get_within (g.R.Ruler.ruling c.args.task.ruler.now).rests place rest is,
      ap (λ (w : List ℕ). length w) c.rests-rests.ensures,
    )))
    (cases_lt place c.loop-place.place)
