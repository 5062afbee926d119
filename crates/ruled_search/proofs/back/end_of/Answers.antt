use Rattle.std.proofs.Common.{◌≡◌, ◌<◌, Option, refl, sym, true, length, get_or, subst}
use Rattle.std.specs.Prelude.{IsNone}
use Rattle.std.proofs.lemmas.List.{get_or_default}
use Rattle.ruled_states.specs.declared.table.Place.{Place}
use Rattle.ruled_search.specs.Inside.Tasks.{progress_of}
use Rattle.ruled_search.specs.declared.sources.Spot.{Spot}
use Rattle.ruled_search.proofs.Ends.{end_found, end_there, least_end}
use Rattle.ruled_search.proofs.Numbering.{solved_numbered}
use Rattle.ruled_search.proofs.Tried.{none_yet, tried}
use Rattle.ruled_search.proofs.back.end_of.Goals as goal

abbrev no_place : Place
no_place = record { state = 0; number = 0 }

pub loop-place-init : goal.loop-place-init
loop-place-init g c = none_yet c.args.progress.now.table.infos (progress_of c.args.progress.now).cost c.args.task.request.goal.0
    c.args.pair.arrival c.args.pair.cost (λ k. (g.R.Ruler.ruling c.args.task.ruler.now).ends k ≡ true) c.places-place-items.result.now

pub end_at-end-requires : goal.end_at-end-requires
end_at-end-requires g c = record { numbered = solved_numbered c.requires.solved }

pub loop-place-preserved : goal.loop-place-preserved
loop-place-preserved g c =
    let row = c.places-place-items.result.now in
    let i = c.loop-place.place-index in
    let within : i < length row = c.loop-place-test.true in
    tried c.args.progress.now.table.infos (progress_of c.args.progress.now).cost c.args.task.request.goal.0 c.args.pair.arrival c.args.pair.cost
    (λ k. (g.R.Ruler.ruling c.args.task.ruler.now).ends k ≡ true) row i no_place within c.loop-place.least c.end_at-end.result
    (c.places-place-items.ensures.sound (get_or row i no_place) (i, within, get_or_default row i (get_or row i no_place) no_place within))
    c.end_at-end.ensures c.loop-place.invariant c.lesser-least.result c.lesser-least.ensures

pub returns : goal.returns
returns g c = end_found c.requires.solved c.args.pair c.loop-place.least c.in-Some.spot c.in-Some.is
    (least_end c.requires.solved c.args.pair c.places-place-items.result.now c.places-place-items.ensures c.loop-place.place-index c.loop-place.least
    c.loop-place-test.false c.loop-place.invariant)

pub unreachable-requires : goal.unreachable-requires
unreachable-requires g c = end_there c.requires.solved c.args.pair c.requires.one c.loop-place.least
    (subst (λ (o : Option Spot). IsNone o) (sym c.in-None.is) refl)
    (least_end c.requires.solved c.args.pair c.places-place-items.result.now c.places-place-items.ensures c.loop-place.place-index c.loop-place.least
    c.loop-place-test.false c.loop-place.invariant)
