use Rattle.std.proofs.Common.{◌≡◌, map, take}
use Rattle.clap.specs.Words.{app_of}
use Rattle.front_words.specs.ClapCommands.{with_rules}
use Rattle.front_words.specs.Inside.{rule_in}
use Rattle.front_words.proofs.clap_words.with_arguments.Given as goal

abbrev pub invariant-loop-id : goal.invariant-loop-id
invariant-loop-id l =
    app_of l.command ≡ with_rules (app_of l.initial.command) (map (λ id. rule_in l.kind id.now) (take l.id-index l.ids))
