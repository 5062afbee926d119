use Rattle.std.proofs.Common.{◌≡◌, Option, None, Bor, List, ℕ, map, ◌++◌, ◌∙◌, drop, ◌+◌, rules}
use Rattle.std.specs.Prelude.{Err, option_map}
use Rattle.std.proofs.lemmas.List.{at_drop_more}
use Rattle.front_words.specs.ClapCommands.{given_line}
use Rattle.front_words.specs.Inside.{IsAnswerWith, given_in}
use Rattle.front_words.specs.declared.commands.WordsFault.{WordsFault}
use Rattle.front_words.specs.declared.commands.WordsFault.TheVariants.{NotACommand, OutOfMemory}
use Rattle.front_words.proofs.GivenLines.{ends_twice}
use Rattle.front_words.proofs.table.given_words.Goals as goal

-- a fault that says that an option is given twice is due
twice : {due : Option (Option (List ℕ))} (fault : WordsFault) → IsAnswerWith (option_map (λ (v : Bor (List ℕ)). v.now)) due (Err fault)
    → fault ≡ NotACommand → due ≡ None
twice NotACommand none is = none
twice OutOfMemory none is = cc

pub returns-in_err-value : goal.returns-in_err-value
returns-in_err-value c =
    let texts = λ (words : List (Bor (List ℕ))). map (λ (o : Bor (List ℕ)). o.now) words in
    let given = map given_in c.args.given.now in
    let done = texts c.loop-option.line.items in
    let at = c.loop-option.option-index in
    ends_twice (λ line. texts line.items) given (texts c.args.options.now) done (texts (drop (at + 1) c.args.options.now)) _
    c.from_residual.result c.in_err-value.field-0.0
    (c.loop-option.invariant
    ∙ at_drop_more (λ (os : List (Bor (List ℕ))). option_map (λ rest. done ++ rest) (given_line (texts os) given)) c.args.options.now at _
    (search rules))
    c.from_residual.ensures.1 (twice c.in_err-value.field-0.0 c.in_err-value.ensures)
