-- A clause: its value and its condition.
use Rattle.std.proofs.Common.{◌≡◌, ℕ, true, false, List, ◌∷◌, ◌++◌, Some, refl, sym, ap, subst, ◌∙◌}
use Rattle.conditional_rules.specs.declared.access.Access.{Access}
use Rattle.conditional_rules.specs.declared.conditional.Clause.{Clause}
use Rattle.conditional_rules.specs.declared.conditional.Part.{Part}
use Rattle.conditional_rules.specs.Accesses.{access_of}
use Rattle.conditional_rules.specs.Cutting.{trimmed}
use Rattle.conditional_rules.specs.Conditions.{has_at, IsCondition, IsClause}
use Rattle.conditional_rules.specs.Conditions as conditions
use Rattle.conditional_rules.proofs.FirstAt.{one_cut, some_at}

pub clause_found : (text value condition : List ℕ) (access : Access) (parts : List Part) → text ≡ value ++ 64 ∷ condition → has_at value ≡ false
    → access_of (trimmed value) ≡ Some access → IsCondition (trimmed condition) parts → IsClause text (record { access = access; parts = parts })
clause_found text value condition access parts e free gives h =
    subst (λ (bs : List ℕ). IsClause bs (record { access = access; parts = parts })) (sym e) (conditions.clause value condition free gives h)

-- a clause has an @
pub clause_at : {text : List ℕ} {c : Clause} → IsClause text c → has_at text ≡ true
clause_at (conditions.clause value condition free gives h) = some_at value condition

-- the first @ of a text decides what its value and its condition are
pub clause_parts : {text : List ℕ} {c : Clause} (value condition : List ℕ) → text ≡ value ++ 64 ∷ condition → has_at value ≡ false
    → IsClause text c → (access_of (trimmed value) ≡ Some c.access) × IsCondition (trimmed condition) c.parts
clause_parts value condition e free (conditions.clause v d {access = access} {parts = parts} other gives h) =
    let same = one_cut v d value condition other free e in
    (ap (λ (bs : List ℕ). access_of (trimmed bs)) (sym same.0) ∙ gives, subst (λ (bs : List ℕ). IsCondition (trimmed bs) parts) same.1 h)

pub clause_only : (text value condition : List ℕ) (access : Access) (parts : List Part) → text ≡ value ++ 64 ∷ condition → has_at value ≡ false
    → access_of (trimmed value) ≡ Some access → ((other : List Part) → IsCondition (trimmed condition) other → other ≡ parts)
    → (other : Clause) → IsClause text other → other ≡ record { access = access; parts = parts }
clause_only text value condition access parts e free gives one other h =
    let p = clause_parts value condition e free h in
    let same : other.access ≡ access = let f = sym p.0 ∙ gives in cc in
    rw (same, one other.parts p.1) refl
