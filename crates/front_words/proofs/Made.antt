-- The matches make what the words make.
use Rattle.std.proofs.Common.{◌≡◌, ◌≢◌, ℕ, Bor, Option, Some, None, List, [], ◌∷◌, ◌++◌, length, ap, ap₂, refl, subst, sym, ◌∙◌}
use Rattle.std.specs.Prelude.{Result, map, option_and_then, option_map}
use Rattle.std.proofs.lemmas.List.{length-map}
use Rattle.std.proofs.lemmas.Simd.{map-map}
use Rattle.route_base.proofs.Lists.{same_head, same_tail}
use Rattle.clap.specs.Words.{App}
use Rattle.clap.specs.declared.parser.matches.ArgMatches.{ArgMatches}
use Rattle.front_words.specs.ClapCommands.{Passes, app_with, made_at, options_at, text_at, text_found, values_at}
use Rattle.front_words.specs.Forms.{Value, WordForm, value_of_word}
use Rattle.front_words.specs.Inside.{IsAnswerWith, ArePlain, TakesRow, given_in, split_of_words}
use Rattle.front_words.specs.declared.commands.WordsFault.{WordsFault}
use Rattle.front_words.specs.declared.splitting.Given.{Given as GivenWords}
use Rattle.front_words.specs.Splitting.{Given, Split, only_value, values_for}
use Rattle.front_words.specs.Usages.{OptionUsage, Usage, made_of, option_names, options_read, places_read, value_if}
use Rattle.front_words.proofs.GivenLines.{AreGiven, plain_given}
use Rattle.front_words.proofs.Places.{miscounted}

no_others : {A P : Type 0} {x : A} {xs : List A} → [] ≡ x ∷ xs → P
no_others h = cc

some_others : {A P : Type 0} {x : A} {xs : List A} → x ∷ xs ≡ [] → P
some_others h = cc

-- one value more, in front
abbrev pub in_front : {A : Type 0} → Option A → Option (List A) → Option (List A)
in_front first others = option_and_then (λ v. option_map (λ vs. v ∷ vs) others) first

module _ (matches : ArgMatches) (app : App) (line : List (List ℕ)) (found : (id : List ℕ) → text_at matches id ≡ text_found app line id) where
  same_values : (ids words : List (List ℕ)) (forms : List WordForm) → map (text_found app line) ids ≡ map (λ w. Some w) words
      → values_at matches ids forms ≡ places_read forms words
  same_values [] [] [] e = refl
  same_values [] [] (form ∷ forms) e = refl
  same_values [] (word ∷ words) forms e = no_others e
  same_values (id ∷ ids) [] forms e = some_others e
  same_values (id ∷ ids) (word ∷ words) [] e = refl
  same_values (id ∷ ids) (word ∷ words) (form ∷ forms) e =
      ap₂ (λ (v : Option Value) (vs : Option (List Value)). in_front v vs)
      (ap (λ (o : Option (List ℕ)). option_and_then (value_of_word form) o) (found id ∙ same_head e)) (same_values ids words forms (same_tail e))

  same_options : (ids : List (List ℕ)) (options : List OptionUsage) (given : List Given) (values : List (Option (List ℕ)))
      → map (text_found app line) ids ≡ values → map (λ o. only_value (values_for o.name given)) options ≡ map (λ v. Some v) values
      → options_at matches ids options ≡ options_read options given
  same_options [] [] given values e f = refl
  same_options [] (o ∷ options) given [] e f = some_others f
  same_options [] (o ∷ options) given (v ∷ values) e f = no_others e
  same_options (id ∷ ids) options given [] e f = some_others e
  same_options (id ∷ ids) [] given (v ∷ values) e f = no_others f
  same_options (id ∷ ids) (o ∷ options) given (v ∷ values) e f =
      ap₂ (λ (w : Option (Option Value)) (ws : Option (List (Option Value))). in_front w ws)
      (ap (λ (t : Option (List ℕ)). value_if o.form t) (found id ∙ same_head e)
      ∙ sym (ap (λ (t : Option (Option (List ℕ))). option_and_then (value_if o.form) t) (same_head f)))
      (same_options ids options given values (same_tail e) (same_tail f))

  -- the matches of a line that passes
  pub same_made : {A : Type 0} (usage : Usage A) (ids choices : List (List ℕ)) (s : Split) (values : List (Option (List ℕ)))
      → Passes app line ids s.places choices values
      → map (λ o. only_value (values_for o.name s.given)) usage.options ≡ map (λ v. Some v) values
      → made_at matches usage ids choices ≡ made_of usage s
  same_made usage ids choices s values p f =
      ap₂ (λ (vs : Option (List Value)) (os : Option (List (Option Value))). option_and_then (λ v. option_and_then (usage.make v) os) vs)
      (same_values ids s.places usage.places p.places) (same_options choices usage.options s.given values p.options f)

-- too many words, or too few, make nothing
pub miscounted_made : {A : Type 0} (usage : Usage A) (places : List (Bor (List ℕ))) (given : List GivenWords) → length places ≢ length usage.places
    → made_of usage (split_of_words places given) ≡ None
miscounted_made usage places given h =
    ap (λ (vs : Option (List Value)). option_and_then (λ v. option_and_then (usage.make v) (options_read usage.options (map given_in given))) vs)
    (sym (miscounted usage.places places h))

-- the answer to the matches of a line that passes is the answer to the words
pub answers_line : {A B : Type 0} (value_in : B → A) (result : Result B WordsFault) (usage : Usage A) (matches : ArgMatches) (app : App)
    (held line ids choices : List (List ℕ)) (s : Split) (values : List (Option (List ℕ))) → held ≡ line
    → ((id : List ℕ) → text_at matches id ≡ text_found app held id) → Passes app line ids s.places choices values
    → map (λ o. only_value (values_for o.name s.given)) usage.options ≡ map (λ v. Some v) values
    → IsAnswerWith value_in (made_at matches usage ids choices) result → IsAnswerWith value_in (made_of usage s) result
answers_line {A} value_in result usage matches app held line ids choices s values e found p f h =
    subst (λ (due : Option A). IsAnswerWith value_in due result)
    (same_made matches app line (λ id. found id ∙ ap (λ (ws : List (List ℕ)). text_found app ws id) e) usage ids choices s values p f) h

-- the line of a command passes where its name, its places and its choices are equal to those of its row
module _ {A : Type 0} (usage : Usage A) (ids choices : List (List ℕ)) (t : TakesRow usage ids choices) (s : Split) (line : List (List ℕ))
    (g : AreGiven (option_names usage.options) s.given line) where
  valued : length g.values ≡ length usage.options
  valued =
      sym (length-map g.values (λ v. Some v)) ∙ ap (λ (vs : List (Option (Option (List ℕ)))). length vs) (sym g.each)
      ∙ length-map (option_names usage.options) (λ name. only_value (values_for name s.given)) ∙ length-map usage.options (λ o. o.name)

  pub each_option : map (λ o. only_value (values_for o.name s.given)) usage.options ≡ map (λ v. Some v) g.values
  each_option = sym (map-map (λ name. only_value (values_for name s.given)) (λ (o : OptionUsage). o.name) usage.options) ∙ g.each

  pub passes_row : (name : List ℕ) (places chosen : List (List ℕ)) → name ≡ usage.name → places ≡ ids → chosen ≡ choices
      → length s.places ≡ length places → ArePlain s.places → ArePlain (map (λ v. v.value) s.given)
      → Passes (app_with name places chosen) (name ∷ (line ++ s.places)) ids s.places choices g.values
  passes_row name places chosen e f h n plain values =
      let passed = t.passes s.places g.values (n ∙ ap (λ (l : List (List ℕ)). length l) f) valued plain (plain_given s.given _ g.values values g.each) in
      let whole : Passes (app_with usage.name ids choices) (usage.name ∷ (line ++ s.places)) ids s.places choices g.values =
      subst (λ (l : List (List ℕ)). Passes (app_with usage.name ids choices) (usage.name ∷ l) ids s.places choices g.values)
      (sym (g.is_line s.places)) passed in
      subst (λ (c : List (List ℕ)). Passes (app_with name places c) (name ∷ (line ++ s.places)) ids s.places choices g.values) (sym h)
      (subst (λ (p : List (List ℕ)). Passes (app_with name p choices) (name ∷ (line ++ s.places)) ids s.places choices g.values) (sym f)
      (subst (λ (m : List ℕ). Passes (app_with m ids choices) (m ∷ (line ++ s.places)) ids s.places choices g.values) (sym e) whole))
