use Rattle.std.proofs.Common.{rules, ap, ◌≡◌, ◌∙◌}
use Rattle.std.proofs.lemmas.Result.{IfOk-weaker}
use Rattle.clap.specs.Words.{app_of, rule_of, with_rule}
use Rattle.front_words.specs.Inside.{rule_in}
use Rattle.front_words.proofs.clap_words.with_argument.Goals as goal

pub returns-in-Place : goal.returns-in-Place
returns-in-Place c =
    let arg_is : rule_of c.required-arg.result ≡ rule_in c.args.kind c.args.id.now = search rules in
    IfOk-weaker c.arg.result _ _ (λ d h. h.shape (search rules) ∙ ap (with_rule (app_of c.args.command)) arg_is) c.arg.ensures

pub returns-in-Choice : goal.returns-in-Choice
returns-in-Choice c =
    let arg_is : rule_of c.long-arg.result ≡ rule_in c.args.kind c.args.id.now = search rules in
    IfOk-weaker c.arg-in-Choice.result _ _ (λ d h. h.shape (search rules) ∙ ap (with_rule (app_of c.args.command)) arg_is) c.arg-in-Choice.ensures
