use Rattle.std.proofs.Common.{◌≡◌, ◌-◌, ◌<◌, Some, length, get_or}
use Rattle.std.proofs.lemmas.List.{get_or_default}
use Rattle.ruled_states.specs.declared.table.Place.{Place}
use Rattle.ruled_search.specs.Inside.Sources.{led_to}
use Rattle.ruled_search.specs.Inside.Tasks.{progress_of}
use Rattle.ruled_search.proofs.Tried.{least_of_all, none_yet, tried}
use Rattle.ruled_search.proofs.sources.least_into.Goals as goal

abbrev no_place : Place
no_place = record { state = 0; number = 0 }

pub loop-place-init : goal.loop-place-init
loop-place-init g c = none_yet c.args.progress.now.table.infos (progress_of c.args.progress.now).cost c.args.node.0
    (c.args.spot.minute - c.args.minutes) (c.args.spot.cost - c.args.paid)
    (λ k. led_to (g.R.Ruler.ruling c.args.ruler.now) c.args.kind c.args.minutes k ≡ Some c.args.spot.info.state) c.places-place-items.result.now

pub loop-place-preserved : goal.loop-place-preserved
loop-place-preserved g c =
    let row = c.places-place-items.result.now in
    let i = c.loop-place.place-index in
    let within : i < length row = c.loop-place-test.true in
    tried c.args.progress.now.table.infos (progress_of c.args.progress.now).cost c.args.node.0
    (c.args.spot.minute - c.args.minutes) (c.args.spot.cost - c.args.paid)
    (λ k. led_to (g.R.Ruler.ruling c.args.ruler.now) c.args.kind c.args.minutes k ≡ Some c.args.spot.info.state)
    row i no_place within c.loop-place.least c.spot_before-from.result
    (c.places-place-items.ensures.sound (get_or row i no_place) (i, within, get_or_default row i (get_or row i no_place) no_place within))
    c.spot_before-from.ensures c.loop-place.invariant c.lesser-least.result c.lesser-least.ensures

pub returns : goal.returns
returns g c = least_of_all c.args.progress.now.table.infos c.requires.numbered.small c.args.progress.now.functions.items c.args.node.0
    (c.args.spot.minute - c.args.minutes) (c.args.spot.cost - c.args.paid) c.requires.node
    (λ k. led_to (g.R.Ruler.ruling c.args.ruler.now) c.args.kind c.args.minutes k ≡ Some c.args.spot.info.state)
    c.places-place-items.result.now c.places-place-items.ensures c.loop-place.place-index c.loop-place.least c.loop-place-test.false c.loop-place.invariant
