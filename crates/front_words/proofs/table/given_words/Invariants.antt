use Rattle.std.proofs.Common.{◌≡◌, ◌++◌, drop, map}
use Rattle.std.specs.Prelude.{option_map}
use Rattle.front_words.specs.ClapCommands.{given_line}
use Rattle.front_words.specs.Inside.{given_in}
use Rattle.front_words.proofs.table.given_words.Given as goal

abbrev pub invariant-loop-option : goal.invariant-loop-option
invariant-loop-option l = given_line (map (λ o. o.now) l.options) (map given_in l.given)
    ≡ option_map (λ rest. map (λ w. w.now) l.line.items ++ rest) (given_line (map (λ o. o.now) (drop l.option-index l.options)) (map given_in l.given))
