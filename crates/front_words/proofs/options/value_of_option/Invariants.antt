use Rattle.std.proofs.Common.{◌≡◌, ◌++◌, drop, map}
use Rattle.front_words.specs.Inside.{given_in, text_in}
use Rattle.front_words.specs.Splitting.{values_for}
use Rattle.front_words.proofs.options.value_of_option.Given as goal

abbrev pub invariant-loop-g : goal.invariant-loop-g
invariant-loop-g l =
    values_for l.option (map given_in l.given) ≡ text_in l.value ++ values_for l.option (map given_in (drop l.g-index l.given))
