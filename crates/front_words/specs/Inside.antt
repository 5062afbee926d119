-- The facts that the calls hand to one another; no law.
use Rattle.std.specs.Prelude.{ℕ, ◌≡◌, ◌≤◌, ⊤, false, Option, Some, None, List, [], ◌∷◌, ◌++◌, length, map, option_map, IfSome, Result, Ok, Err}
use Rattle.std.specs.Borrow.{Bor}
use Rattle.clap.specs.Words.{Rule}
use Rattle.front_words.specs.Bans.{bans_places}
use Rattle.front_words.specs.Batch.{batch_choices, batch_places}
use Rattle.front_words.specs.Breaks.{rule_choices}
use Rattle.front_words.specs.ClapCommands.{Passes, app_with, check_places, choice, options_line, place, plan_places}
use Rattle.front_words.specs.Commands as law
use Rattle.front_words.specs.Commands.{Command, Gen, Trip}
use Rattle.front_words.specs.Gen.{gen_places}
use Rattle.front_words.specs.Plan.{plan_choices}
use Rattle.front_words.specs.Forms.{Value, of_text, of_number}
use Rattle.front_words.specs.Splitting.{Given, Split, is_dashed, split_of, Piece, plain, named, assigned, stray}
use Rattle.front_words.specs.Usages.{Usage, option_names}
use Rattle.net_generator.specs.declared.limits.TheConstants.{LAST_NUMBER, MOST_LINES}
use Rattle.front_words.specs.declared.clap_words.ArgKind.{ArgKind}
use Rattle.front_words.specs.declared.clap_words.ArgKind.TheVariants.{Place, Choice}
use Rattle.front_words.specs.declared.commands.WordsFault.{WordsFault}
use Rattle.front_words.specs.declared.commands.WordsFault.TheVariants.{NotACommand, OutOfMemory}
use Rattle.front_words.specs.declared.table.CommandName.{CommandName}
use Rattle.front_words.specs.declared.table.CommandName.TheVariants as row
use Rattle.front_words.specs.declared.splitting.Given.{Given as GivenWords}
use Rattle.front_words.specs.declared.splitting.Split.{Split as SplitWords}
use Rattle.front_words.specs.declared.splitting.Piece.{Piece as PieceWord}
use Rattle.front_words.specs.declared.splitting.Piece.TheVariants.{Plain, Named, Assigned, Stray}

-- the option that the code holds
abbrev pub given_in : GivenWords → Given
given_in g = record { option = g.option.now; value = g.value.now }

-- the text that is there, or none
abbrev pub text_in : Option (Bor (List ℕ)) → List (List ℕ)
text_in None = []
text_in (Some word) = word.now ∷ []

-- the split whose words and options the code holds as two slices
abbrev pub split_of_words : List (Bor (List ℕ)) → List GivenWords → Split
split_of_words places given = record { places = map (λ word. word.now) places; given = map given_in given }

-- the split that the code holds
abbrev pub split_in : SplitWords → Split
split_in s = split_of_words s.places.items s.given.items

-- the piece that the code holds
abbrev pub piece_of_word : PieceWord → Piece
piece_of_word (Plain word) = plain word.now
piece_of_word (Named option) = named option.now
piece_of_word (Assigned option value) = assigned option.now value.now
piece_of_word Stray = stray

-- no word begins with `-`
abbrev pub ArePlain : List (List ℕ) → Type 0
ArePlain [] = ⊤
ArePlain (word ∷ words) = (is_dashed word ≡ false) × ArePlain words

-- the rule of an argument of a kind
abbrev pub rule_in : ArgKind → List ℕ → Rule
rule_in Place id = place id
rule_in Choice id = choice id

-- a row of the table, with the names that `clap` has for its positional words and for the values of its options
pub record ClapRow : Type 0 where
  pub usage : Usage Command
  pub ids : List (List ℕ)
  pub choices : List (List ℕ)

abbrev pub row_with : Usage Command → List (List ℕ) → List (List ℕ) → ClapRow
row_with usage ids choices = record { usage = usage; ids = ids; choices = choices }

-- the row of a command: one line a command
abbrev pub row_in : CommandName → ClapRow
row_in row.Plan = row_with law.plan_usage plan_places plan_choices
row_in row.Check = row_with law.check_usage check_places []
row_in row.Bans = row_with law.bans_usage bans_places []
row_in row.Batch = row_with law.batch_usage batch_places batch_choices
row_in row.Gen = row_with law.gen_usage gen_places []
row_in row.Latest = row_with law.latest_usage plan_places []
row_in row.Tour = row_with law.tour_usage check_places rule_choices
row_in row.Breaks = row_with law.breaks_usage plan_places rule_choices
row_in row.Explain = row_with law.explain_usage check_places []

abbrev pub usage_in : CommandName → Usage Command
usage_in command = (row_in command).usage

abbrev pub ids_in : CommandName → List (List ℕ)
ids_in command = (row_in command).ids

abbrev pub choices_in : CommandName → List (List ℕ)
choices_in command = (row_in command).choices

-- no value of an option, where it is given, begins with a dash
abbrev pub ArePlainIf : List (Option (List ℕ)) → Type 0
ArePlainIf [] = ⊤
ArePlainIf (value ∷ values) = IfSome value (λ word. is_dashed word ≡ false) × ArePlainIf values

-- `clap` takes each line of the command's name, of its options with their values where these are given, and of as many words without a
-- dash as it has places
pub record TakesRow {A : Type 0} (usage : Usage A) (ids choices : List (List ℕ)) : Type 0 where
  pub counted : length ids ≡ length usage.places
  pub passes : (words : List (List ℕ)) (values : List (Option (List ℕ))) → length words ≡ length ids → length values ≡ length usage.options
      → ArePlain words → ArePlainIf values
      → Passes (app_with usage.name ids choices) (usage.name ∷ options_line (option_names usage.options) values words) ids words choices values

-- no positional word and no value of an option begins with `-`
pub record IsPlainSplit (s : Split) : Type 0 where
  pub places : ArePlain s.places
  pub values : ArePlain (map (λ g. g.value) s.given)

-- the values of the words of a trip
abbrev pub trip_values : Trip → List Value
trip_values t = of_text t.vehicle ∷ of_number t.origin ∷ of_number t.goal ∷ of_number t.depart ∷ of_number t.until ∷ []

-- the values of the positional words of a tour
abbrev pub tour_values : law.Tour → List Value
tour_values t = of_text t.dir ∷ (trip_values t.trip ++ of_text t.stops ∷ [])

-- the values of the words of a network to draw
abbrev pub gen_values : Gen → List Value
gen_values g = of_text g.dir ∷ of_number g.number ∷ of_number g.rows ∷ of_number g.columns ∷ []

-- from 1 to the limit
abbrev pub IsUpTo : ℕ → ℕ → Type 0
IsUpTo limit n = (1 ≤ n) × (n ≤ limit)

-- the number, the rows and the columns are each within their limit
abbrev pub AreCounted : Gen → Type 0
AreCounted g = IsUpTo LAST_NUMBER g.number × IsUpTo MOST_LINES g.rows × IsUpTo MOST_LINES g.columns

-- one split behind another
abbrev pub follow : Split → Split → Split
follow done s = record { places = done.places ++ s.places; given = done.given ++ s.given }

-- the words divide as those that are done, followed by the rest
pub record IsDivided (options words : List (List ℕ)) (done : Split) (rest : List (List ℕ)) : Type 0 where
  pub same : split_of options words ≡ option_map (follow done) (split_of options rest)

-- the answer is what is due, or out of memory
abbrev pub IsAnswerWith : {A B : Type 0} → (B → A) → Option A → Result B WordsFault → Type 0
IsAnswerWith value_in due (Ok value) = due ≡ Some (value_in value)
IsAnswerWith value_in due (Err NotACommand) = due ≡ None
IsAnswerWith value_in due (Err OutOfMemory) = ⊤

-- the same where the answer is the value itself
abbrev pub IsAnswer : {A : Type 0} → Option A → Result A WordsFault → Type 0
IsAnswer due result = IsAnswerWith (λ value. value) due result
