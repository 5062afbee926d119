-- A command as a row of a table: its name, its positional words, its options, and what their values make (source: own).
use Rattle.std.specs.Prelude.{ℕ, Option, Some, None, List, [], ◌∷◌, bytes_eq, map, option_and_then, option_map}
use Rattle.std.specs.Prelude.{if◌then◌else◌}
use Rattle.route_base.specs.declared.types.Form.{Form}
use Rattle.route_base.specs.declared.types.Form.TheVariants.{Plain}
use Rattle.front_words.specs.Forms.{Value, WordForm, of_number, of_report, of_text, value_of_word}
use Rattle.front_words.specs.Splitting.{Given, Split, only_value, split_of, values_for}

-- an option, and the form of its value
pub record OptionUsage : Type 0 where
  pub name : List ℕ
  pub form : WordForm

-- a command that makes a value of the type A: its name, the forms of its positional words, its options, and what the values of both make
pub record Usage (A : Type 0) : Type 0 where
  pub name : List ℕ
  pub places : List WordForm
  pub options : List OptionUsage
  pub make : List Value → List (Option Value) → Option A

-- a command without options: its name, the forms of its words, and what their values make
abbrev pub without_options : {A : Type 0} → List ℕ → List WordForm → (List Value → List (Option Value) → Option A) → Usage A
without_options name places make = record { name = name; places = places; options = []; make = make }

-- the form of a report: `plain` where none is given
abbrev pub report_in : Option Value → Form
report_in (Some (of_report form)) = form
report_in value = Plain

-- the name that is given, or none
abbrev pub name_in : Option Value → Option (List ℕ)
name_in (Some (of_text name)) = Some name
name_in value = None

-- the number that is given, or the usual one
abbrev pub number_in : ℕ → Option Value → ℕ
number_in usual (Some (of_number n)) = n
number_in usual value = usual

-- the number that is given, or none
abbrev pub count_in : Option Value → Option ℕ
count_in (Some (of_number n)) = Some n
count_in value = None

-- the values of positional words, each in its form; nothing where there are more or fewer words than forms
abbrev pub places_read : List WordForm → List (List ℕ) → Option (List Value)
places_read [] [] = Some []
places_read (form ∷ forms) (word ∷ words) =
    option_and_then (λ v. option_map (λ vs. v ∷ vs) (places_read forms words)) (value_of_word form word)
places_read forms words = None

-- the value of an option in its form, where it is given
abbrev pub value_if : WordForm → Option (List ℕ) → Option (Option Value)
value_if form None = Some None
value_if form (Some word) = option_map Some (value_of_word form word)

-- the values of the options, in the order of the table; nothing where one is given twice or isn't in its form
abbrev pub options_read : List OptionUsage → List Given → Option (List (Option Value))
options_read [] given = Some []
options_read (o ∷ os) given =
    option_and_then (λ v. option_map (λ vs. v ∷ vs) (options_read os given))
    (option_and_then (value_if o.form) (only_value (values_for o.name given)))

-- the names of the options
abbrev pub option_names : List OptionUsage → List (List ℕ)
option_names options = map (λ o. o.name) options

module _ {A : Type 0} where
  -- what a split makes by a row
  abbrev pub made_of : Usage A → Split → Option A
  made_of usage split =
      option_and_then (λ places. option_and_then (usage.make places) (options_read usage.options split.given))
      (places_read usage.places split.places)

  -- what the words behind the command's name make by its row
  abbrev pub made_by : Usage A → List (List ℕ) → Option A
  made_by usage words = option_and_then (made_of usage) (split_of (option_names usage.options) words)

  -- the row of a table that has this name; nothing where no row has it
  abbrev pub usage_named : List (Usage A) → List ℕ → Option (Usage A)
  usage_named [] name = None
  usage_named (usage ∷ usages) name = if bytes_eq name usage.name then Some usage else usage_named usages name

  -- what words make by the row of a table that has their first word as its name
  abbrev pub made_in : List (Usage A) → List ℕ → List (List ℕ) → Option A
  made_in usages name words = option_and_then (λ usage. made_by usage words) (usage_named usages name)
