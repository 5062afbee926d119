-- Rules after one more row.
use Rattle.std.proofs.Common.{◌≡◌, ℕ, ◌+◌, Bool, Option, Some, None, Result, Ok, List, [], ◌∷◌, ◌++◌, length, sym, ◌∙◌, ap, cond}
use Rattle.std.specs.List.{filter, cons_option}
use Rattle.std.proofs.lemmas.List.{append-nil, length-append}
use Rattle.std.proofs.lemmas.List.Elements.{filter-append, filter_map-append}
use Rattle.route_base.specs.declared.faults.Cause.{Cause}
use Rattle.table_reader.proofs.Lists.{filter_map-push}
use Rattle.table_reader.specs.NameIndex.{names_of}
use Rattle.table_reader.specs.Records.{Record}
use Rattle.network_tables.specs.Rules.{Rule, rule_of, rule_stated, rules_in, is_passed_over, passed_over_in}
use Rattle.network_tables.specs.RuleLists.{RuleList, RulesSoFar, HaveRules, rules_stated, with_rule, with_passed_row}

-- one more row
module _ (arcs : ℕ) (areas : List (List ℕ)) (before : List Record) (row : Record) where
  abbrev stated : Record → Option Rule
  stated r = rule_stated (rule_of arcs areas r)

  abbrev passed : Record → Bool
  passed r = is_passed_over (rule_of arcs areas r)

  rules_more : (rule : Rule) → rule_of arcs areas row ≡ Ok (Some rule) → rules_in arcs areas (before ++ row ∷ []) ≡ rules_in arcs areas before ++ rule ∷ []
  rules_more rule e = filter_map-push stated before row rule (ap rule_stated e)

  rules_same : rule_of arcs areas row ≡ Ok None → rules_in arcs areas (before ++ row ∷ []) ≡ rules_in arcs areas before
  rules_same e =
      filter_map-append stated before (row ∷ [])
      ∙ ap (λ (r : Result (Option Rule) Cause). rules_in arcs areas before ++ cons_option (rule_stated r) []) e
      ∙ append-nil (rules_in arcs areas before)

  passed_more : rule_of arcs areas row ≡ Ok None → passed_over_in arcs areas (before ++ row ∷ []) ≡ passed_over_in arcs areas before + 1
  passed_more e =
      ap (λ (rows : List Record). length rows) (filter-append passed before (row ∷ [])
      ∙ ap (λ (r : Result (Option Rule) Cause). filter passed before ++ cond (is_passed_over r) (row ∷ []) []) e)
      ∙ length-append (filter passed before) (row ∷ [])

  passed_same : (rule : Rule) → rule_of arcs areas row ≡ Ok (Some rule) → passed_over_in arcs areas (before ++ row ∷ []) ≡ passed_over_in arcs areas before
  passed_same rule e =
      ap (λ (rows : List Record). length rows) (filter-append passed before (row ∷ [])
      ∙ ap (λ (r : Result (Option Rule) Cause). filter passed before ++ cond (is_passed_over r) (row ∷ []) []) e
      ∙ append-nil (filter passed before))

-- equal parts make equal lists
same_list : {rules rules2 : List Rule} {count count2 : ℕ} → rules ≡ rules2 → count ≡ count2
    → ◌≡◌ {A = RuleList} (record { rules = rules; passed_over = count }) (record { rules = rules2; passed_over = count2 })
same_list p q = λ i. record { rules = p i; passed_over = q i }

-- the table after a row, where `read` are its rules then
module _ (start now : RulesSoFar) (before : List Record) (row : Record) (read : RuleList) (h : HaveRules start now before) where
  here : rule_of now.arcs (names_of now.areas) row ≡ rule_of start.arcs (names_of start.areas) row
  here = λ i. rule_of (h.arcs i) (names_of (h.areas i)) row

  after : read ≡ rules_stated start.arcs (names_of start.areas) (before ++ row ∷ [])
      → HaveRules start (record { areas = now.areas; arcs = now.arcs; read = read }) (before ++ row ∷ [])
  after same = record { areas = h.areas; arcs = h.arcs; read = same }

  pub have_rule : (rule : Rule) → rule_of now.arcs (names_of now.areas) row ≡ Ok (Some rule) → read ≡ with_rule now.read rule.0 rule.1
      → HaveRules start (record { areas = now.areas; arcs = now.arcs; read = read }) (before ++ row ∷ [])
  have_rule rule e added =
      let e2 = sym here ∙ e in
      let rules = sym (rules_more start.arcs (names_of start.areas) before row rule e2) in
      let count = sym (passed_same start.arcs (names_of start.areas) before row rule e2) in
      after (added ∙ ap (λ (list : RuleList). with_rule list rule.0 rule.1) h.read ∙ same_list rules count)

  pub have_passed : rule_of now.arcs (names_of now.areas) row ≡ Ok None → read ≡ with_passed_row now.read
      → HaveRules start (record { areas = now.areas; arcs = now.arcs; read = read }) (before ++ row ∷ [])
  have_passed e counted =
      let e2 = sym here ∙ e in
      let rules = sym (rules_same start.arcs (names_of start.areas) before row e2) in
      let count = sym (passed_more start.arcs (names_of start.areas) before row e2) in
      after (counted ∙ ap with_passed_row h.read ∙ same_list rules count)
