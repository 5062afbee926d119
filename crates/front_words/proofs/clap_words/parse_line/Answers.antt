use Rattle.std.proofs.lemmas.Result.{IfErr-weaker, IfOk-weaker}
use Rattle.front_words.specs.ClapCommands.{app_in}
use Rattle.front_words.proofs.ClapWalk.{is_found, is_refused}
use Rattle.front_words.proofs.clap_words.parse_line.Goals as goal

pub returns : goal.returns
returns c =
    let app = app_in c.args.name.now c.args.places.now c.args.choices.now in
    let parse = c.try_get_matches_from in
    record {
      found = IfOk-weaker parse.result _ _ (λ m h. is_found _ app _ m c.in_ok-command.ensures c.requires h) parse.ensures.matches;
      refused = IfErr-weaker parse.result _ _ (λ e h. h (is_refused _ app _ c.in_ok-command.ensures c.requires)) parse.ensures.passes;
    }
