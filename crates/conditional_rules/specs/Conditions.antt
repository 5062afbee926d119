-- Conditional values: their texts and their clauses, one case for each form (source: OpenStreetMap wiki, conditional restrictions, a
-- subset).
use Rattle.std.specs.Prelude.{◌≡◌, ℕ, ◌==◌, ◌&&◌, ◌||◌, Bool, true, false, not, Some, List, [], ◌∷◌, ◌++◌, codes}
use Rattle.std.specs.List.{list_all, list_any}
use Rattle.route_base.specs.Forms.{is_from_to}
use Rattle.opening_hours.specs.Hours.{IsHours}
use Rattle.opening_hours.specs.declared.types.HoursRule.{HoursRule}
use Rattle.vehicle_classes.specs.Vehicles.{is_flag_byte}
use Rattle.vehicle_classes.specs.declared.classes.Quantity.{Quantity}
use Rattle.conditional_rules.specs.declared.access.Access.{Access}
use Rattle.conditional_rules.specs.declared.conditional.Clause.{Clause}
use Rattle.conditional_rules.specs.declared.conditional.Comparison.{Comparison}
use Rattle.conditional_rules.specs.declared.conditional.Part.{Part}
use Rattle.conditional_rules.specs.declared.conditional.Part.TheVariants.{Compare, Flag, Times}
use Rattle.conditional_rules.specs.Accesses.{is_among, access_of}
use Rattle.conditional_rules.specs.Comparisons.{IsComparison}
use Rattle.conditional_rules.specs.Cutting.{trimmed, Cut, first_semicolon, first_and}

-- whether there is a sign of a comparison: < = >
abbrev pub has_sign : List ℕ → Bool
has_sign text = list_any (λ b. b == 60 || (b == 61 || b == 62)) text

-- a to z
abbrev pub is_small_letter : ℕ → Bool
is_small_letter b = is_from_to 97 122 b

-- the words that mean something else than a flag
abbrev pub reserved_words : List (List ℕ)
reserved_words = codes "off" ∷ codes "closed" ∷ codes "open" ∷ codes "and" ∷ []

-- whether the text is a flag: one word of small letters and underscores that begins with a letter
unfoldable pub is_flag : List ℕ → Bool
is_flag [] = false
is_flag (b ∷ bs) =
    is_small_letter b && (list_all is_flag_byte bs && not (is_among reserved_words (b ∷ bs)))

-- a part: a comparison where it has a sign, or else a flag, or else hours
pub data IsPart : List ℕ → Part → Type 0 where
  compared : {text : List ℕ} {quantity : Quantity} {comparison : Comparison} {value : ℕ}
      → has_sign text ≡ true → IsComparison text quantity comparison value → IsPart text (Compare quantity comparison value)
  flagged : {text : List ℕ} → has_sign text ≡ false → is_flag text ≡ true → IsPart text (Flag text)
  timed : {text : List ℕ} {rules : List HoursRule}
      → has_sign text ≡ false → is_flag text ≡ false → IsHours text rules → IsPart text (Times rules)

-- a part with blanks at its ends
abbrev pub IsSpacedPart : List ℕ → Part → Type 0
IsSpacedPart text part = IsPart (trimmed text) part

-- parts with the word AND, or and, between them
abbrev pub IsParts : List ℕ → List Part → Type 0
IsParts text parts = Cut first_and 4 IsSpacedPart text parts

abbrev pub has_parenthesis : List ℕ → Bool
has_parenthesis text = list_any (λ b. b == 40 || b == 41) text

-- parts within parentheses, or without any
pub data IsCondition : List ℕ → List Part → Type 0 where
  bracketed : (inner : List ℕ) {parts : List Part}
      → has_parenthesis inner ≡ false → IsParts (trimmed inner) parts → IsCondition (40 ∷ (inner ++ 41 ∷ [])) parts
  bare : {text : List ℕ} {parts : List Part} → has_parenthesis text ≡ false → IsParts text parts → IsCondition text parts

abbrev pub has_at : List ℕ → Bool
has_at text = list_any (λ b. b == 64) text

-- a value, the first @ and a condition
pub data IsClause : List ℕ → Clause → Type 0 where
  clause : (value condition : List ℕ) {access : Access} {parts : List Part}
      → has_at value ≡ false → access_of (trimmed value) ≡ Some access → IsCondition (trimmed condition) parts
      → IsClause (value ++ 64 ∷ condition) (record { access = access; parts = parts })

-- clauses with semicolons between them, each outside parentheses
abbrev pub IsConditional : List ℕ → List Clause → Type 0
IsConditional text clauses = Cut first_semicolon 1 IsClause text clauses

-- clauses that some text has
abbrev pub AreParsedClauses : List Clause → Type 0
AreParsedClauses clauses = (text : List ℕ) × IsConditional text clauses
