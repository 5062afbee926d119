use Rattle.std.proofs.Common.{Bor, ℕ, List, ◌∙◌, ap, arith, map, rules}
use Rattle.std.proofs.lemmas.List.{take_all}
use Rattle.clap.specs.Words.{app_of}
use Rattle.front_words.specs.ClapCommands.{with_rules}
use Rattle.front_words.specs.Inside.{rule_in}
use Rattle.front_words.proofs.ClapWalk.{one_rule_more}
use Rattle.front_words.proofs.clap_words.with_arguments.Goals as goal

pub loop-id-preserved : goal.loop-id-preserved
loop-id-preserved c =
    one_rule_more (λ w. rule_in c.args.kind w.now) (app_of c.args.command) (app_of c.loop-id.command) (app_of c.in_ok-command.command) c.args.ids.now
    c.loop-id.id-index _ (search rules) c.loop-id.invariant c.in_ok-command.ensures

pub returns : goal.returns
returns c =
    c.loop-id.invariant ∙ ap (λ (ids : List (Bor (List ℕ))). with_rules (app_of c.args.command) (map (λ id. rule_in c.args.kind id.now) ids))
    (take_all c.loop-id.id-index c.args.ids.now (omega (arith, c.loop-id-test.false)))
