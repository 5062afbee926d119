use Rattle.std.proofs.Common.{ap₂, Bor, List, ℕ, sym, ◌∙◌}
use Rattle.std.proofs.lemmas.Result.{IfOk-weaker}
use Rattle.std.proofs.lemmas.Simd.{map-map}
use Rattle.front_words.specs.ClapCommands.{app_with, choice, place, with_rules}
use Rattle.front_words.proofs.clap_words.command_for.Goals as goal

pub returns : goal.returns
unfolding app_with
returns c =
    let placed = c.in_ok-command.ensures ∙ ap₂ with_rules c.new.ensures.app (sym (map-map place (λ (w : Bor (List ℕ)). w.now) c.args.places.now)) in
    IfOk-weaker c.with_arguments-2.result _ _
    (λ d h. h ∙ ap₂ with_rules placed (sym (map-map choice (λ (w : Bor (List ℕ)). w.now) c.args.choices.now))) c.with_arguments-2.ensures
