-- Conditions within parentheses, and without any.
use Rattle.std.proofs.Common.{◌≡◌, ℕ, true, false, List, [], ◌∷◌, ◌++◌, refl, sym, subst, ◌∙◌}
use Rattle.std.proofs.lemmas.List.{append_cancel_right}
use Rattle.conditional_rules.specs.declared.conditional.Part.{Part}
use Rattle.conditional_rules.specs.Cutting.{trimmed}
use Rattle.conditional_rules.specs.Conditions.{has_parenthesis, IsParts, IsCondition}
use Rattle.conditional_rules.specs.Conditions as conditions

-- without parentheses a condition is its parts
pub bare_only : {text : List ℕ} {parts : List Part} → has_parenthesis text ≡ false → IsCondition text parts → IsParts text parts
bare_only none (conditions.bracketed inner free h) = absurd cc
bare_only none (conditions.bare free h) = h

-- a condition with a parenthesis stands within two
pub bracketed_only : {text : List ℕ} {parts : List Part} → has_parenthesis text ≡ true → IsCondition text parts
    → (inner : List ℕ) × (text ≡ 40 ∷ (inner ++ 41 ∷ [])) × (has_parenthesis inner ≡ false) × IsParts (trimmed inner) parts
bracketed_only some (conditions.bracketed inner free h) = (inner, refl, free, h)
bracketed_only some (conditions.bare free h) = absurd cc

pub same_inner : (a b text : List ℕ) → text ≡ 40 ∷ (a ++ 41 ∷ []) → text ≡ 40 ∷ (b ++ 41 ∷ []) → a ≡ b
same_inner a b text p q =
    let both : a ++ 41 ∷ [] ≡ b ++ 41 ∷ [] = let e = sym p ∙ q in cc in
    append_cancel_right a b (41 ∷ []) both

-- what stands within the parentheses is free of them, and has the parts
pub inner_only : {text : List ℕ} {parts : List Part} (inner : List ℕ) → has_parenthesis text ≡ true → text ≡ 40 ∷ (inner ++ 41 ∷ [])
    → IsCondition text parts → (has_parenthesis inner ≡ false) × IsParts (trimmed inner) parts
inner_only {text = text} {parts = parts} inner some e h =
    let p = bracketed_only some h in
    let same = same_inner p.0 inner text p.1 e in
    (subst (λ (bs : List ℕ). has_parenthesis bs ≡ false) same p.2, subst (λ (bs : List ℕ). IsParts (trimmed bs) parts) same p.3)

pub bracketed_found : {text : List ℕ} {parts : List Part} (inner : List ℕ) → text ≡ 40 ∷ (inner ++ 41 ∷ [])
    → has_parenthesis inner ≡ false → IsParts (trimmed inner) parts → IsCondition text parts
bracketed_found {parts = parts} inner e free h = subst (λ (bs : List ℕ). IsCondition bs parts) (sym e) (conditions.bracketed inner free h)
