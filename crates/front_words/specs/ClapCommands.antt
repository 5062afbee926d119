-- The commands as `clap` has them, and the words that go to it; no law.
use Rattle.std.specs.Prelude.{ℕ, ◌≡◌, Option, Some, None, List, [], ◌∷◌, ◌++◌, true, codes, map, option_and_then, option_map}
use Rattle.std.specs.Borrow.{Bor}
use Rattle.std.specs.List.{fold}
use Rattle.clap.specs.declared.parser.matches.ArgMatches.{ArgMatches}
use Rattle.front_words.specs.Forms.{Value, WordForm, value_of_word}
use Rattle.front_words.specs.Splitting.{Given, only_value, values_for}
use Rattle.front_words.specs.Usages.{OptionUsage, Usage, value_if}
use Rattle.clap.specs.Words.{App, Rule, first_of, first_value, found_of, matches_of, new_app, new_rule, takes, with_rule}

-- a positional word that must be there
abbrev pub place : List ℕ → Rule
place id = record (new_rule id) { required = true }

-- an option that has a value
abbrev pub choice : List ℕ → Rule
choice id = record (new_rule id) { long = Some id }

-- the command with arguments more
abbrev pub with_rules : App → List Rule → App
with_rules app rules = fold with_rule app rules

-- a command of this name, with these positional words and options
abbrev pub written_out : List ℕ → List (List ℕ) → List (List ℕ) → App
written_out name places choices = with_rules (with_rules (new_app name) (map place places)) (map choice choices)

-- the same, which stays closed in goals; a proof that computes opens it
unfoldable pub app_with : List ℕ → List (List ℕ) → List (List ℕ) → App
app_with = written_out

-- the same, of the texts that the code holds
abbrev pub app_in : List ℕ → List (Bor (List ℕ)) → List (Bor (List ℕ)) → App
app_in name places choices = app_with name (map (λ w. w.now) places) (map (λ w. w.now) choices)

-- the positional words of a trip
abbrev pub trip_places : List (List ℕ)
trip_places = codes "vehicle" ∷ codes "from" ∷ codes "to" ∷ codes "depart" ∷ codes "until" ∷ []

-- the positional words of `plan`, `latest` and `breaks`
abbrev pub plan_places : List (List ℕ)
plan_places = codes "dir" ∷ trip_places

-- the positional words of `check`, `tour` and `explain`
abbrev pub check_places : List (List ℕ)
check_places = codes "dir" ∷ (trip_places ++ codes "name" ∷ [])

-- `clap` refuses the words for want of memory alone
unfoldable pub IsTaken : App → List (List ℕ) → Type 0
IsTaken app words = takes app words ≡ true

-- the text that `clap` finds for an argument
unfoldable pub text_found : App → List (List ℕ) → List ℕ → Option (List ℕ)
text_found app words id = first_of id (matches_of app words)

-- an option and its value, where it is given
abbrev pub option_line : List ℕ → Option (List ℕ) → List (List ℕ)
option_line name None = []
option_line name (Some value) = name ∷ value ∷ []

-- options and their values, where these are given, and then other words
abbrev pub options_line : List (List ℕ) → List (Option (List ℕ)) → List (List ℕ) → List (List ℕ)
options_line (name ∷ names) (value ∷ values) words = option_line name value ++ options_line names values words
options_line names values words = words

-- the options of these names with their values, where they are given; nothing where one is given twice
abbrev pub given_line : List (List ℕ) → List Given → Option (List (List ℕ))
given_line [] given = Some []
given_line (name ∷ names) given =
    option_and_then (λ v. option_map (λ line. option_line name v ++ line) (given_line names given)) (only_value (values_for name given))

-- the text of an argument in the matches, if it is there
abbrev pub text_at : ArgMatches → List ℕ → Option (List ℕ)
text_at matches id = first_value (found_of matches) id

-- the value of an argument in its form
abbrev pub value_at : ArgMatches → WordForm → List ℕ → Option Value
value_at matches form id = option_and_then (value_of_word form) (text_at matches id)

-- the values of positional words, each in its form
abbrev pub values_at : ArgMatches → List (List ℕ) → List WordForm → Option (List Value)
values_at matches [] [] = Some []
values_at matches (id ∷ ids) (form ∷ forms) =
    option_and_then (λ v. option_map (λ vs. v ∷ vs) (values_at matches ids forms)) (value_at matches form id)
values_at matches ids forms = None

-- the values of options, each in its form where it is there
abbrev pub options_at : ArgMatches → List (List ℕ) → List OptionUsage → Option (List (Option Value))
options_at matches [] [] = Some []
options_at matches (id ∷ ids) (o ∷ os) =
    option_and_then (λ v. option_map (λ vs. v ∷ vs) (options_at matches ids os)) (value_if o.form (text_at matches id))
options_at matches ids os = None

-- what the matches make by a row of the table, by the names of its positional words and of its options
abbrev pub made_at : {A : Type 0} → ArgMatches → Usage A → List (List ℕ) → List (List ℕ) → Option A
made_at matches usage places choices =
    option_and_then (λ vs. option_and_then (usage.make vs) (options_at matches choices usage.options)) (values_at matches places usage.places)

-- `clap` takes the line, and gives back the positional words and the values of the options
pub record Passes (app : App) (line ids words choices : List (List ℕ)) (given : List (Option (List ℕ))) : Type 0 where
  pub taken : IsTaken app line
  pub places : map (text_found app line) ids ≡ map (λ w. Some w) words
  pub options : map (text_found app line) choices ≡ given
