-- The clauses of a text as a function, which agrees with `IsConditional` (source: own).
use Rattle.std.specs.Prelude.{ℕ, zero, suc, ◌+◌, ◌-◌, ◌==◌, ◌&&◌, not, Option, Some, None, option_and_then, option_map}
use Rattle.std.specs.Prelude.{List, [], ◌∷◌, ◌++◌, length, take, drop, if◌then◌else◌}
use Rattle.std.specs.List.{position}
use Rattle.std.specs.Str.{bytes_eq}
use Rattle.opening_hours.specs.Reading.{hours_of}
use Rattle.conditional_rules.specs.declared.conditional.Clause.{Clause}
use Rattle.conditional_rules.specs.declared.conditional.Part.{Part}
use Rattle.conditional_rules.specs.declared.conditional.Part.TheVariants.{Compare, Flag, Times}
use Rattle.conditional_rules.specs.Accesses.{access_of}
use Rattle.conditional_rules.specs.Conditions.{has_sign, is_flag, has_parenthesis}
use Rattle.conditional_rules.specs.Cutting.{trimmed, first_semicolon, first_and}
use Rattle.conditional_rules.specs.Inside.Comparisons.{comparison_of}

-- the pieces of a text whose first mark is at this place, if it has one: `read` gives a piece, and `cut` gives the pieces behind the mark
abbrev pub pieces_from : {B : Type 0} → ℕ → (List ℕ → Option B) → (List ℕ → Option (List B)) → List ℕ → Option ℕ → Option (List B)
pieces_from width read cut text None = option_map (λ x. x ∷ []) (read text)
pieces_from width read cut text (Some i) =
    option_and_then (λ x. option_map (λ xs. x ∷ xs) (cut (drop (i + width) text))) (read (take i text))

-- the pieces of a text that is cut at its marks of `width` bytes, if there are n pieces at most
unfoldable pub cut_within : {B : Type 0} → (List ℕ → Option ℕ) → ℕ → (List ℕ → Option B) → ℕ → List ℕ → Option (List B)
cut_within first_mark width read zero text = None
cut_within first_mark width read (suc n) text =
    pieces_from width read (cut_within first_mark width read n) text (first_mark text)

-- the part that a text is: a comparison where it has a sign, or else a flag, or else hours
unfoldable pub part_of : List ℕ → Option Part
part_of text =
    if has_sign text then option_map (λ c. Compare c.0 c.1 c.2) (comparison_of text)
    else if is_flag text then Some (Flag text)
    else option_map Times (hours_of text)

-- the parts of a text, if it has any: a text of n bytes has n + 1 parts at most
unfoldable pub parts_of : List ℕ → Option (List Part)
parts_of text = cut_within first_and 4 (λ piece. part_of (trimmed piece)) (1 + length text) text

-- the text without its first byte and its last
abbrev pub inner_of : List ℕ → List ℕ
inner_of text = take (length text - 2) (drop 1 text)

-- the parts between the parentheses of a condition, where it has one at each end and no others
abbrev pub bracketed_of : List ℕ → Option (List Part)
bracketed_of text =
    if bytes_eq text (40 ∷ (inner_of text ++ 41 ∷ [])) && not (has_parenthesis (inner_of text)) then parts_of (trimmed (inner_of text))
    else None

-- the parts of a condition, within parentheses or without any
unfoldable pub condition_of : List ℕ → Option (List Part)
condition_of text = if has_parenthesis text then bracketed_of text else parts_of text

-- the clause of a value and a condition
abbrev pub clause_from : List ℕ → List ℕ → Option Clause
clause_from value condition =
    option_and_then
    (λ access. option_map (λ parts. record { access = access; parts = parts }) (condition_of (trimmed condition)))
    (access_of (trimmed value))

-- the clause that a text is, which is cut at its first @
unfoldable pub clause_of : List ℕ → Option Clause
clause_of text = option_and_then (λ i. clause_from (take i text) (drop (i + 1) text)) (position (λ b. b == 64) text)

-- the clauses of a text, if it has any: a text of n bytes has n + 1 clauses at most
unfoldable pub conditional_of : List ℕ → Option (List Clause)
conditional_of text = cut_within first_semicolon 1 clause_of (1 + length text) text
