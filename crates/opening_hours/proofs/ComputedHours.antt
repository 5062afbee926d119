-- The function that computes the rules of a text agrees with the relation.
use Rattle.std.proofs.Common.{◌≡◌, ◌↔◌, ℕ, zero, suc, ◌≤◌, List, [], ◌∷◌, length, Option, Some, None, option_and_then, option_map}
use Rattle.std.proofs.Common.{refl, ap, subst, ◌∙◌, arith}
use Rattle.route_base.proofs.Logic.{then_some, map_some}
use Rattle.opening_hours.specs.declared.tokens.Token.{Token}
use Rattle.opening_hours.specs.declared.types.HoursRule.{HoursRule}
use Rattle.opening_hours.specs.Tokens.{without_blanks}
use Rattle.opening_hours.specs.Hours.{IsHours}
use Rattle.opening_hours.specs.Reading.{tokens_from, tokens_within, hours_of}
use Rattle.opening_hours.specs.Inside.Parser.{read_rules}
use Rattle.opening_hours.specs.Inside.Tokenizer.{token_at, IsMatched}
use Rattle.opening_hours.proofs.Cuts.{token_shorter, length-without_blanks, no_cut, then_cut}
use Rattle.opening_hours.proofs.Longest.{cut_of, match_of}
use Rattle.opening_hours.proofs.Rules.{rules_again, rules_found}

-- a token at the front and tokens behind it, if the function that cuts the rest gives these
then_tokens : (cut : List ℕ → Option (List Token)) (text rest : List ℕ) (t u : Token) (ts : List Token)
    → token_at text ≡ Some (t, rest) → IsMatched (without_blanks rest) (u ∷ ts) → cut (without_blanks rest) ≡ Some (u ∷ ts)
    → option_and_then (λ first. tokens_from cut first.0 first.1) (token_at text) ≡ Some (t ∷ u ∷ ts)
then_tokens cut text [] t u ts e h found = absurd (no_cut (u ∷ ts) h)
then_tokens cut text (b ∷ bs) t u ts e h found =
    ap (option_and_then (λ first. tokens_from cut first.0 first.1)) e ∙ ap (option_map (λ us. t ∷ us)) found

-- the tokens of a text are found, where the fuel is its length at least
matched_within : (n : ℕ) (text : List ℕ) (ts : List Token) → length text ≤ n → IsMatched text ts → tokens_within n text ≡ Some ts
unfolding tokens_within
matched_within n text [] enough h = absurd h
matched_within zero [] (t ∷ ts) enough h = absurd (no_cut (t ∷ ts) h)
matched_within zero (b ∷ bs) (t ∷ ts) enough h = absurd (omega (arith, enough))
matched_within (suc n) text (t ∷ []) enough h = ap (option_and_then (λ first. tokens_from (tokens_within n) first.0 first.1)) h
matched_within (suc n) text (t ∷ u ∷ ts) enough h =
    let less = token_shorter text t h.0 h.1 in
    let fits : length (without_blanks h.0) ≤ n = omega (arith, less, length-without_blanks h.0, enough) in
    then_tokens (tokens_within n) text h.0 t u ts h.1 h.2 (matched_within n (without_blanks h.0) (u ∷ ts) fits h.2)

-- tokens that the function gives are the token at the front and those that the rest is cut into
from_matched : (cut : List ℕ → Option (List Token)) (text rest : List ℕ) (t : Token) (ts : List Token)
    → ((r : List ℕ) (us : List Token) → cut r ≡ Some us → IsMatched r us)
    → token_at text ≡ Some (t, rest) → tokens_from cut t rest ≡ Some ts → IsMatched text ts
from_matched cut text [] t ts gives e found =
    let one : t ∷ [] ≡ ts = cc in subst (IsMatched text) one e
from_matched cut text (b ∷ bs) t ts gives e found =
    let m = map_some (cut (without_blanks (b ∷ bs))) (λ us. t ∷ us) ts found in
    subst (IsMatched text) m.2 (then_cut text (b ∷ bs) t m.0 e (gives (without_blanks (b ∷ bs)) m.0 m.1))

-- tokens that are found are those of the text
within_matched : (n : ℕ) (text : List ℕ) (ts : List Token) → tokens_within n text ≡ Some ts → IsMatched text ts
unfolding tokens_within
within_matched zero text ts e = absurd cc
within_matched (suc n) text ts e =
    let f = then_some (token_at text) (λ first. tokens_from (tokens_within n) first.0 first.1) ts e in
    from_matched (tokens_within n) text f.0.1 f.0.0 ts (within_matched n) f.1 f.2

-- the rules that a text has are computed, and rules that are computed are the text's
pub hours_computed : (text : List ℕ) (rules : List HoursRule) → IsHours text rules → hours_of text ≡ Some rules
unfolding hours_of
hours_computed text rules h =
    ap (option_and_then read_rules) (matched_within (length text) text h.0 (omega arith) (match_of text h.0 h.1)) ∙ rules_again h.0 rules h.2

pub computed_hours : (text : List ℕ) (rules : List HoursRule) → hours_of text ≡ Some rules → IsHours text rules
unfolding hours_of
computed_hours text rules e =
    let f = then_some (tokens_within (length text) text) read_rules rules e in
    (f.0, cut_of text f.0 (within_matched (length text) text f.0 f.1), rules_found f.0 rules f.2)

-- The function gives the rules exactly where the relation holds.
pub hours_of_is_hours : (text : List ℕ) (rules : List HoursRule) → (hours_of text ≡ Some rules) ↔ IsHours text rules
hours_of_is_hours text rules = (computed_hours text rules, hours_computed text rules)

-- The function gives nothing exactly where the text has no rules.
pub hours_of_is_none : (text : List ℕ) → (hours_of text ≡ None) ↔ ((rules : List HoursRule) → IsHours text rules → ⊥)
hours_of_is_none text = (none, some)
  where
    none : hours_of text ≡ None → (rules : List HoursRule) → IsHours text rules → ⊥
    none e rules h = let f = hours_computed text rules h in cc

    some : ((rules : List HoursRule) → IsHours text rules → ⊥) → hours_of text ≡ None
    some without = by (hours_of text) refl
      where
        by : (o : Option (List HoursRule)) → hours_of text ≡ o → o ≡ None
        by None e = refl
        by (Some rules) e = absurd (without rules (computed_hours text rules e))
