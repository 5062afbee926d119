use Rattle.std.proofs.Common.{◌∙◌, List, ℕ, Bor}
use Rattle.std.specs.Prelude.{bytes_eq}
use Rattle.clap.proofs.WalkLemmas.{list_any-map}
use Rattle.front_words.proofs.splitting.is_option.Goals as goal

pub returns : goal.returns
returns c = c.contains.ensures.value ∙ list_any-map (λ o. bytes_eq o c.args.word.now) (λ (o : Bor (List ℕ)). o.now) c.args.options.now
