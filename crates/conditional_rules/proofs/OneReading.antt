-- A text has one list of clauses at most.
use Rattle.std.proofs.Common.{◌≡◌, ℕ, List, ◌∷◌, ◌++◌, refl, sym}
use Rattle.conditional_rules.specs.declared.conditional.Clause.{Clause}
use Rattle.conditional_rules.specs.declared.conditional.Part.{Part}
use Rattle.conditional_rules.specs.Cutting.{trimmed, first_semicolon, first_and}
use Rattle.conditional_rules.specs.Conditions.{IsSpacedPart, IsParts, IsCondition, IsClause, IsConditional}
use Rattle.conditional_rules.specs.Conditions as conditions
use Rattle.conditional_rules.proofs.CutLists.{one_list}
use Rattle.conditional_rules.proofs.OnePart.{one_part}
use Rattle.conditional_rules.proofs.Parentheses.{bare_only, inner_only}
use Rattle.conditional_rules.proofs.Clauses.{clause_only}

one_spaced : (text : List ℕ) (a b : Part) → IsSpacedPart text a → IsSpacedPart text b → a ≡ b
one_spaced text a b h k = one_part (trimmed text) a b h k

one_parts : (text : List ℕ) (a b : List Part) → IsParts text a → IsParts text b → a ≡ b
one_parts text a b h k = one_list first_and 4 IsSpacedPart one_spaced b h k

one_condition : {text : List ℕ} {a : List Part} (b : List Part) → IsCondition text a → IsCondition text b → a ≡ b
one_condition {a = a} b (conditions.bracketed inner free h) k = one_parts (trimmed inner) a b h (inner_only inner refl refl k).1
one_condition {text = text} {a = a} b (conditions.bare free h) k = one_parts text a b h (bare_only free k)

one_clause : {text : List ℕ} {a : Clause} (b : Clause) → IsClause text a → IsClause text b → a ≡ b
one_clause b (conditions.clause value condition {access = access} {parts = parts} free gives h) k =
    sym (clause_only (value ++ 64 ∷ condition) value condition access parts refl free gives (λ other g. one_condition parts g h) b k)

-- no text has two lists of clauses
pub one_reading : (text : List ℕ) (a b : List Clause) → IsConditional text a → IsConditional text b → a ≡ b
one_reading text a b h k = one_list first_semicolon 1 IsClause (λ piece x y p q. one_clause y p q) b h k
