use Rattle.std.proofs.Common.{get_or}
use Rattle.std.proofs.lemmas.List.{get_or_default}
use Rattle.ruled_states.specs.declared.table.Place.{Place}
use Rattle.ruled_search.proofs.relaxing.is_shown_covered.Goals as goal

pub is_shown_by-requires-clause-place : goal.is_shown_by-requires-clause-place
is_shown_by-requires-clause-place g c =
    let none : Place = record { state = 0; number = 0 } in
    let i = c.loop-place.place-index in
    let row = c.places-place-items.result.now in
    c.places-place-items.ensures.sound (get_or row i none) (i, c.loop-place-test.true, get_or_default row i (get_or row i none) none c.loop-place-test.true)
