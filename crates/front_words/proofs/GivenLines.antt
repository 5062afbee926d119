-- The options that are given, as a line.
use Rattle.std.proofs.Common.{◌≡◌, ℕ, Option, Some, None, List, [], ◌∷◌, ◌++◌, map, ap, refl, subst, sym, ◌∙◌}
use Rattle.std.specs.Prelude.{Result, Ok, Err, option_and_then, option_map}
use Rattle.std.specs.Result.{IsErrAnd}
use Rattle.std.proofs.lemmas.List.{append_assoc}
use Rattle.std.proofs.lemmas.Option.{same_Some}
use Rattle.route_base.proofs.Lists.{same_head, same_tail}
use Rattle.front_words.specs.ClapCommands.{given_line, option_line, options_line}
use Rattle.front_words.specs.Forms.{Value}
use Rattle.front_words.specs.Inside.{ArePlain, ArePlainIf, IsAnswer, IsAnswerWith}
use Rattle.front_words.specs.Splitting.{Given, Split, only_value, values_for}
use Rattle.front_words.specs.Usages.{OptionUsage, Usage, made_of, option_names, options_read, places_read, value_if}
use Rattle.front_words.specs.declared.commands.WordsFault.{WordsFault}
use Rattle.front_words.specs.declared.commands.WordsFault.TheVariants.{NotACommand, OutOfMemory}
use Rattle.front_words.proofs.Plain.{plain_value}

-- the values of the options that make the line
pub record AreGiven (names : List (List ℕ)) (given : List Given) (line : List (List ℕ)) : Type 0 where
  pub values : List (Option (List ℕ))
  pub each : map (λ name. only_value (values_for name given)) names ≡ map (λ v. Some v) values
  pub is_line : (words : List (List ℕ)) → line ++ words ≡ options_line names values words

module _ (given : List Given) where
  first_given : (name : List ℕ) (names line : List (List ℕ)) (value : Option (Option (List ℕ))) (others : Option (List (List ℕ)))
      → only_value (values_for name given) ≡ value → ((rest : List (List ℕ)) → others ≡ Some rest → AreGiven names given rest)
      → option_and_then (λ v. option_map (λ l. option_line name v ++ l) others) value ≡ Some line → AreGiven (name ∷ names) given line
  first_given name names line None others is rest e = absurd (none e)
    where
      none : {A : Type 0} {a : A} → None ≡ Some a → ⊥
      none f = cc
  first_given name names line (Some v) None is rest e = absurd (none e)
    where
      none : {A : Type 0} {a : A} → None ≡ Some a → ⊥
      none f = cc
  first_given name names line (Some v) (Some l) is rest e =
      let r = rest l refl in
      record {
        values = v ∷ r.values;
        each = λ i. is i ∷ r.each i;
        is_line = λ words. ap (λ (xs : List (List ℕ)). xs ++ words) (sym (same_Some _ _ e)) ∙ append_assoc (option_line name v) l words
            ∙ ap (λ (xs : List (List ℕ)). option_line name v ++ xs) (r.is_line words);
      }

  pub are_given : (names line : List (List ℕ)) → given_line names given ≡ Some line → AreGiven names given line
  are_given [] line e = record { values = []; each = refl; is_line = λ words. ap (λ (xs : List (List ℕ)). xs ++ words) (sym (same_Some _ _ e)) }
  are_given (name ∷ names) line e =
      first_given name names line (only_value (values_for name given)) (given_line names given) refl (are_given names) e

  -- no value begins with a dash
  pub plain_given : (names : List (List ℕ)) (values : List (Option (List ℕ))) → ArePlain (map (λ g. g.value) given)
      → map (λ name. only_value (values_for name given)) names ≡ map (λ v. Some v) values → ArePlainIf values
  plain_given names [] a e = tt
  plain_given [] (v ∷ values) a e = absurd (clash e)
    where
      clash : {A : Type 0} {x : A} {xs : List A} → [] ≡ x ∷ xs → ⊥
      clash f = cc
  plain_given (name ∷ names) (v ∷ values) a e = (plain_value name given v a (same_head e), plain_given names values a (same_tail e))

  -- an option that is given twice makes nothing
  read_first : (o : OptionUsage) (value : Option (Option (List ℕ))) (line : Option (List (List ℕ))) (others : Option (List (Option Value)))
      → (line ≡ None → others ≡ None) → option_and_then (λ v. option_map (λ l. option_line o.name v ++ l) line) value ≡ None
      → option_and_then (λ v. option_map (λ vs. v ∷ vs) others) (option_and_then (value_if o.form) value) ≡ None
  read_first o None line others rest e = refl
  read_first o (Some v) (Some l) others rest e = absurd (some e)
    where
      some : {A : Type 0} {a : A} → Some a ≡ None → ⊥
      some f = cc
  read_first o (Some v) None others rest e = rw (rest refl) (at (value_if o.form v))
    where
      at : (w : Option (Option Value)) → option_and_then (λ v. option_map (λ vs. v ∷ vs) (let n : Option (List (Option Value)) = None in n)) w ≡ None
      at None = refl
      at (Some x) = refl

  twice_read : (options : List OptionUsage) → given_line (option_names options) given ≡ None → options_read options given ≡ None
  twice_read [] e = absurd (some e)
    where
      some : {A : Type 0} {a : A} → Some a ≡ None → ⊥
      some f = cc
  twice_read (o ∷ options) e =
      read_first o (only_value (values_for o.name given)) (given_line (option_names options) given) (options_read options given)
      (twice_read options) e

pub twice_made : {A : Type 0} (usage : Usage A) (s : Split) → given_line (option_names usage.options) s.given ≡ None → made_of usage s ≡ None
twice_made {A} usage s e = rw (twice_read s.given usage.options e) (at (places_read usage.places s.places))
  where
    at : (vs : Option (List Value)) → option_and_then (λ v. option_and_then (usage.make v) (let n : Option (List (Option Value)) = None in n)) vs ≡ None
    at None = refl
    at (Some x) = refl

-- the fault of an option that is given twice is the answer
pub fault_made : {A B : Type 0} (value_in : B → List (List ℕ)) (usage : Usage A) (s : Split) (names : List (List ℕ)) (result : Result A WordsFault)
    (fault : WordsFault) → names ≡ option_names usage.options → IsErrAnd result (λ e. e ≡ fault)
    → IsAnswerWith value_in (given_line names s.given) (Err fault) → IsAnswer (made_of usage s) result
fault_made value_in usage s names (Ok v) fault e at is = absurd at
fault_made value_in usage s names (Err OutOfMemory) fault e at is = tt
fault_made value_in usage s names (Err NotACommand) fault e at is =
    twice_made usage s (sym (ap (λ (ns : List (List ℕ)). given_line ns s.given) e)
    ∙ subst (λ (f : WordsFault). IsAnswerWith value_in (given_line names s.given) (Err f)) (sym at) is)

-- one option more
pub one_option_more : (given : List Given) (names done rest more : List (List ℕ)) (name : List ℕ) (value : Option (List ℕ))
    → given_line names given ≡ option_map (λ l. done ++ l) (given_line (name ∷ rest) given) → only_value (values_for name given) ≡ Some value
    → more ≡ done ++ option_line name value → given_line names given ≡ option_map (λ l. more ++ l) (given_line rest given)
one_option_more given names done rest more name value e f g =
    e ∙ ap (λ (v : Option (Option (List ℕ))).
    option_map (λ l. done ++ l) (option_and_then (λ w. option_map (λ l. option_line name w ++ l) (given_line rest given)) v)) f
    ∙ joined (given_line rest given) ∙ ap (λ (m : List (List ℕ)). option_map (λ l. m ++ l) (given_line rest given)) (sym g)
  where
    joined : (o : Option (List (List ℕ))) → option_map (λ l. done ++ l) (option_map (λ l. option_line name value ++ l) o)
        ≡ option_map (λ l. (done ++ option_line name value) ++ l) o
    joined None = refl
    joined (Some l) = ap (λ (xs : List (List ℕ)). Some xs) (sym (append_assoc done (option_line name value) l))

-- an option that is given twice ends the line
pub ends_twice : {B : Type 0} (value_in : B → List (List ℕ)) (given : List Given) (names done rest : List (List ℕ)) (name : List ℕ)
    (result : Result B WordsFault) (fault : WordsFault)
    → given_line names given ≡ option_map (λ l. done ++ l) (given_line (name ∷ rest) given)
    → IsErrAnd result (λ e. e ≡ fault) → (fault ≡ NotACommand → only_value (values_for name given) ≡ None)
    → IsAnswerWith value_in (given_line names given) result
ends_twice value_in given names done rest name (Ok v) fault e at twice = absurd at
ends_twice value_in given names done rest name (Err OutOfMemory) fault e at twice = tt
ends_twice value_in given names done rest name (Err NotACommand) fault e at twice =
    e ∙ ap (λ (v : Option (Option (List ℕ))).
    option_map (λ l. done ++ l) (option_and_then (λ w. option_map (λ l. option_line name w ++ l) (given_line rest given)) v)) (twice (sym at))
