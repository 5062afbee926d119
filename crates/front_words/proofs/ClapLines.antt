-- The lines of the commands pass `clap`, which gives back their words.
use Rattle.std.proofs.Common.{ℕ, ◌≡◌, refl, true, map, List, Option, Some, [], ◌∷◌, length, arith, ap, subst, sym, ◌∙◌}
use Rattle.clap.specs.Walk.{Text, nothing_held}
use Rattle.clap.specs.Simple.{built}
use Rattle.front_words.specs.Bans.{bans_places}
use Rattle.front_words.specs.ClapCommands.{Passes, app_with, check_places, options_line, plan_places, written_out}
use Rattle.front_words.specs.Commands.{Command}
use Rattle.front_words.specs.Gen.{gen_places}
use Rattle.front_words.specs.Inside.{ArePlain, TakesRow, choices_in, ids_in, usage_in}
use Rattle.front_words.specs.Usages.{OptionUsage, Usage, option_names}
use Rattle.front_words.specs.declared.table.CommandName.{CommandName}
use Rattle.front_words.specs.declared.table.CommandName.TheVariants as row
use Rattle.front_words.proofs.ClapWalk.{IsLeaf, due_from, held_behind, met_from, passes_at, passes_line, texts_in, walks_nowhere}
use Rattle.front_words.proofs.OptionRows.{batch_row, breaks_row, plan_row, tour_row}

-- the line of a command without options, by where the walk over its words ends
passes_alone : (name : Text) (ids words : List Text) → IsLeaf (written_out name ids []) → ArePlain words
    → met_from (built (written_out name ids [])).top 1 nothing_held words ≡ due_from (built (written_out name ids [])).top 1 nothing_held words
    → passes_at (built (written_out name ids [])).top (held_behind (built (written_out name ids [])).top 1 nothing_held words) ≡ true
    → texts_in (written_out name ids []) (held_behind (built (written_out name ids [])).top 1 nothing_held words) ids ≡ map (λ w. Some w) words
    → Passes (app_with name ids []) (name ∷ words) ids words [] []
unfolding app_with
passes_alone name ids words leaf plain fills passes places =
    passes_line (written_out name ids []) _ _ _ _ _ _ nothing_held leaf walks_nowhere plain fills passes places refl

-- `clap` takes each line of a name and of this many words without a dash, and gives back the words
abbrev TakesWords : ℕ → List Text → Type 0
TakesWords count ids =
    (name : Text) (words : List Text) → length words ≡ count → ArePlain words → Passes (app_with name ids []) (name ∷ words) ids words [] []

bans_words : TakesWords 5 bans_places
bans_words name (a ∷ b ∷ c ∷ d ∷ e ∷ []) n plain = passes_alone _ _ _ (record { simple = refl; named = refl; alone = refl }) plain refl refl refl
bans_words name words n plain = absurd (omega arith)

drawn_words : TakesWords 4 gen_places
drawn_words name (a ∷ b ∷ c ∷ d ∷ []) n plain = passes_alone _ _ _ (record { simple = refl; named = refl; alone = refl }) plain refl refl refl
drawn_words name words n plain = absurd (omega arith)

trip_words : TakesWords 6 plan_places
trip_words name (a ∷ b ∷ c ∷ d ∷ e ∷ f ∷ []) n plain = passes_alone _ _ _ (record { simple = refl; named = refl; alone = refl }) plain refl refl refl
trip_words name words n plain = absurd (omega arith)

named_words : TakesWords 7 check_places
named_words name (a ∷ b ∷ c ∷ d ∷ e ∷ f ∷ g ∷ []) n plain =
    passes_alone _ _ _ (record { simple = refl; named = refl; alone = refl }) plain refl refl refl
named_words name words n plain = absurd (omega arith)

-- the row of a command without options
alone_row : (usage : Usage Command) (ids : List Text) → length ids ≡ length usage.places → usage.options ≡ [] → TakesWords (length ids) ids
    → TakesRow usage ids []
alone_row usage ids counted none takes = record {
  counted = counted;
  passes = λ words values n m plain _. at words values n (m ∙ ap (λ (os : List OptionUsage). length os) none) plain;
}
  where
    at : (words : List Text) (values : List (Option Text)) → length words ≡ length ids → length values ≡ 0 → ArePlain words
        → Passes (app_with usage.name ids []) (usage.name ∷ options_line (option_names usage.options) values words) ids words [] values
    at words [] n m plain =
        subst (λ (os : List OptionUsage). Passes (app_with usage.name ids []) (usage.name ∷ options_line (option_names os) [] words) ids words [] [])
        (sym none) (takes usage.name words n plain)
    at words (value ∷ values) n m plain = absurd (omega (arith, m))

-- the row of each command: one line a command
pub takes_row : (command : CommandName) → TakesRow (usage_in command) (ids_in command) (choices_in command)
takes_row row.Plan = plan_row
takes_row row.Check = alone_row _ _ refl refl named_words
takes_row row.Bans = alone_row _ _ refl refl bans_words
takes_row row.Batch = batch_row
takes_row row.Gen = alone_row _ _ refl refl drawn_words
takes_row row.Latest = alone_row _ _ refl refl trip_words
takes_row row.Tour = tour_row
takes_row row.Breaks = breaks_row
takes_row row.Explain = alone_row _ _ refl refl named_words
