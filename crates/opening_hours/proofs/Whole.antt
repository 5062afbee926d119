-- A text and its rules.
use Rattle.std.proofs.Common.{◌≡◌, ◌≢◌, ℕ, [], List, Some, sym, ap, ◌∙◌}
use Rattle.opening_hours.specs.declared.tokens.Token.{Token}
use Rattle.opening_hours.specs.declared.types.HoursRule.{HoursRule}
use Rattle.opening_hours.specs.declared.faults.HoursFault.{HoursFault}
use Rattle.opening_hours.specs.declared.faults.HoursFault.TheVariants as faults
use Rattle.opening_hours.specs.Tokens.{IsCut}
use Rattle.opening_hours.specs.Grammar.{IsRules}
use Rattle.opening_hours.specs.Inside.Parser.{Fails, read_rule, read_rules}
use Rattle.opening_hours.specs.Hours.{IsHours}
use Rattle.opening_hours.proofs.Cuts.{one_cut}
use Rattle.opening_hours.proofs.Longest.{cut_of, match_of}
use Rattle.opening_hours.specs.Hours.{IsParsed}
use Rattle.opening_hours.specs.CanonicalTokens.{hours_tokens, hours_text}
use Rattle.opening_hours.proofs.Canon.{rules_canon}
use Rattle.opening_hours.proofs.Spelled.{spelled_cut, rules_spell, rules_fit}
use Rattle.opening_hours.proofs.Rules.{rules_again, rules_found}

pub hours_read : (text : List ℕ) (ts : List Token) (us : List HoursRule) → IsCut text ts → IsHours text us → read_rules ts ≡ Some us
hours_read text ts us cut h = ap read_rules (one_cut text ts h.0 (match_of text ts cut) (match_of text h.0 h.1)) ∙ rules_again h.0 us h.2

pub hours_found : (text : List ℕ) (ts : List Token) (rs : List HoursRule) → IsCut text ts → read_rules ts ≡ Some rs → IsHours text rs
hours_found text ts rs cut e = (ts, cut, rules_found ts rs e)

pub hours_only : (text : List ℕ) (ts : List Token) (rs us : List HoursRule) → IsCut text ts → read_rules ts ≡ Some rs → IsHours text us → us ≡ rs
hours_only text ts rs us cut e h = let f = hours_read text ts us cut h in cc

pub hours_none : (text : List ℕ) (ts : List Token) (e : HoursFault) → IsCut text ts → Fails e (read_rules ts)
    → e ≡ faults.NotHours → (us : List HoursRule) → IsHours text us → ⊥
hours_none text ts faults.NotHours cut fails is us h = let f = hours_read text ts us cut h in cc
hours_none text ts faults.OutOfMemory cut fails is us h = absurd cc

some_tokens : (ts : List Token) (rs : List HoursRule) → IsRules ts rs → ts ≢ []
unfolding read_rules read_rule
some_tokens ts rs h nil = let e : read_rules [] ≡ Some rs = ap read_rules (sym nil) ∙ rules_again ts rs h in cc

-- the canonical text of rules that are read is read as these rules
pub print_read : (rs : List HoursRule) → IsParsed rs → IsHours (hours_text rs) rs
print_read rs h =
    let rules = rules_canon h.1.0 rs h.1.2 in
    let matched = spelled_cut (hours_tokens rs) (some_tokens (hours_tokens rs) rs rules) (rules_spell (hours_tokens rs) rs rules)
    (rules_fit h.1.0 rs h.1.2) in
    (hours_tokens rs, cut_of (hours_text rs) (hours_tokens rs) matched, rules)

-- no text has two lists of rules
pub one_reading : (text : List ℕ) (rs us : List HoursRule) → IsHours text rs → IsHours text us → us ≡ rs
one_reading text rs us h k = hours_only text h.0 rs us h.1 (rules_again h.0 rs h.2) k
