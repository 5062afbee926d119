use Rattle.std.proofs.Common.{map, length}
use Rattle.front_words.specs.Inside.{IsDivided, given_in}
use Rattle.front_words.proofs.splitting.split_words.Given as goal

abbrev pub invariant-words : goal.invariant-words
invariant-words l = IsDivided (map (λ o. o.now) l.options) l.words
    (record { places = map (λ word. word.now) l.places.items; given = map given_in l.given.items }) l.rest

abbrev pub decreases-words : goal.decreases-words
decreases-words l = length l.rest
