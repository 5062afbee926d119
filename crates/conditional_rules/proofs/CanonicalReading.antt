-- The canonical text of clauses is read as these clauses.
use Rattle.std.proofs.Common.{◌≡◌, ℕ, ◌+◌, Bool, true, false, cond, Some, List, [], ◌∷◌, ◌++◌, map, refl, sym}
use Rattle.std.proofs.Common.{subst, ◌∙◌}
use Rattle.std.specs.Prelude.{◌==◌, ◌&&◌, ◌||◌, not, codes}
use Rattle.std.specs.List.{list_all}
use Rattle.std.specs.Option.{option_map}
use Rattle.std.proofs.lemmas.Bool.{and_parts, or_parts}
use Rattle.std.proofs.lemmas.List.Folds.{list_any-append}
use Rattle.opening_hours.specs.PlainText.{StartsFilled, EndsFilled}
use Rattle.opening_hours.proofs.PlainTexts.{ends_within}
use Rattle.conditional_rules.specs.declared.access.Access.{Access}
use Rattle.conditional_rules.specs.declared.access.Access.TheVariants.{Free, Barred, Purpose as ForPurpose}
use Rattle.conditional_rules.specs.declared.conditional.Clause.{Clause}
use Rattle.conditional_rules.specs.declared.conditional.Part.{Part}
use Rattle.conditional_rules.specs.Accesses.{access_of}
use Rattle.conditional_rules.specs.CanonicalText.{part_text, access_text, joined, clause_text, conditional_text}
use Rattle.conditional_rules.specs.Conditions.{has_parenthesis, IsPart, IsSpacedPart, IsParts, IsCondition, IsClause, IsConditional, AreParsedClauses}
use Rattle.conditional_rules.specs.Conditions as conditions
use Rattle.conditional_rules.specs.Cutting.{trimmed, semicolon_from, first_semicolon, first_and}
use Rattle.conditional_rules.proofs.Joined.{Each, IsJoinedPart, pieces, each_of, each_map, joined_cut}
use Rattle.conditional_rules.proofs.Over.{IsOver, empty_over, both_over}
use Rattle.conditional_rules.proofs.Tight.{IsCompact, IsGap, step, starts_before, trimmed_same}
use Rattle.conditional_rules.proofs.PartsAgain.{part_again}

-- the printed text of a part is tight, and it is the same part
abbrev IsAgain : Part → Type 0
IsAgain part = IsCompact (part_text part) × IsPart (part_text part) part

abbrev mark_of_parts : List ℕ
mark_of_parts = codes " AND "

abbrev ArePartPieces : Part → Type 0
ArePartPieces part =
    IsJoinedPart first_and mark_of_parts IsSpacedPart (part_text part) part × IsJoinedPart first_and mark_of_parts IsSpacedPart (32 ∷ part_text part) part

-- a part, alone and behind a blank
part_pieces : (part : Part) → IsAgain part → ArePartPieces part
part_pieces part h =
    let text = part_text part in
    let is = subst (λ (t : List ℕ). IsPart t part) (sym (trimmed_same text h.0.starts h.0.ends)) h.1 in
    pieces first_and mark_of_parts IsSpacedPart IsGap refl (λ more. refl) tt (λ more. refl) text part is is h.0.passes
    (λ rest gap. step 32 (text ++ rest) (h.0.behind rest gap))

-- the parts of a condition, as they are printed
abbrev parts_text : List Part → List ℕ
parts_text parts = joined mark_of_parts (map part_text parts)

parts_start : (parts : List Part) → Each IsAgain parts → StartsFilled (parts_text parts)
parts_start [] h = absurd h
parts_start (p ∷ []) h = h.0.starts
parts_start (p ∷ q ∷ ps) h = starts_before (part_text p) (mark_of_parts ++ parts_text (q ∷ ps)) h.0.0.starts

parts_end : (parts : List Part) → Each IsAgain parts → EndsFilled (parts_text parts)
parts_end [] h = absurd h
parts_end (p ∷ []) h = h.0.ends
parts_end (p ∷ q ∷ ps) h =
    ends_within (part_text p) (mark_of_parts ++ parts_text (q ∷ ps)) (ends_within mark_of_parts (parts_text (q ∷ ps)) (parts_end (q ∷ ps) h.1))

parts_plain : (parts : List Part) → Each IsAgain parts → has_parenthesis (parts_text parts) ≡ false
parts_plain [] h = absurd h
parts_plain (p ∷ []) h = h.0.plain
parts_plain (p ∷ q ∷ ps) h =
    list_any-append (λ b. b == 40 || b == 41) (part_text p) (mark_of_parts ++ parts_text (q ∷ ps)) ∙ rw (h.0.0.plain, parts_plain (q ∷ ps) h.1) refl

-- the parts within parentheses
abbrev bracketed_text : List Part → List ℕ
bracketed_text parts = 40 ∷ (parts_text parts ++ 41 ∷ [])

condition_again : (parts : List Part) → Each IsAgain parts → IsCondition (trimmed (32 ∷ bracketed_text parts)) parts
condition_again parts h =
    let text = parts_text parts in
    let cut = joined_cut first_and mark_of_parts 4 IsSpacedPart part_text (λ more. refl) parts (each_map IsAgain ArePartPieces part_pieces parts h) in
    let same = trimmed_same text (parts_start parts h) (parts_end parts h) in
    let inner : IsParts (trimmed text) parts = subst (λ (t : List ℕ). IsParts t parts) (sym same) cut in
    let outer = trimmed_same (bracketed_text parts) refl (ends_within (40 ∷ text) (41 ∷ []) refl) in
    subst (λ (t : List ℕ). IsCondition t parts) (sym outer) (conditions.bracketed text (parts_plain parts h) inner)

clause_is : (access : Access) (condition : List ℕ) (parts : List Part) → IsCondition (trimmed (32 ∷ condition)) parts
    → IsClause (access_text access ++ (codes " @ " ++ condition)) (record { access = access; parts = parts })
    × IsClause (32 ∷ (access_text access ++ (codes " @ " ++ condition))) (record { access = access; parts = parts })
unfolding access_of
clause_is Free condition parts h =
    (conditions.clause (codes "yes ") (32 ∷ condition) refl refl h, conditions.clause (codes " yes ") (32 ∷ condition) refl refl h)
clause_is Barred condition parts h =
    (conditions.clause (codes "no ") (32 ∷ condition) refl refl h, conditions.clause (codes " no ") (32 ∷ condition) refl refl h)
clause_is ForPurpose condition parts h =
    (conditions.clause (codes "destination ") (32 ∷ condition) refl refl h, conditions.clause (codes " destination ") (32 ∷ condition) refl refl h)

-- whether a byte is no parenthesis, and no semicolon outside of them
abbrev is_quiet : Bool → ℕ → Bool
is_quiet within b = not (b == 40 || b == 41) && (within || not (b == 59))

byte_over : (within : Bool) (b : ℕ) (rest : List ℕ) → is_quiet within b ≡ true
    → IsOver (semicolon_from within) (semicolon_from within) (b ∷ []) rest
byte_over within b rest h = by within (b == 40) (b == 41) (b == 59) h
  where
    by : (within u v w : Bool) → (not (u || v) && (within || not w)) ≡ true
        → cond (not within && w) (Some 0) (option_map (λ i. 1 + i) (semicolon_from (cond u true (cond v false within)) rest))
        ≡ option_map (λ i. 1 + i) (semicolon_from within rest)
    by within true v w h = absurd cc
    by within false true w h = absurd cc
    by true false false w h = refl
    by false false false true h = absurd cc
    by false false false false h = refl

quiet_over : (within : Bool) (text rest : List ℕ) → list_all (is_quiet within) text ≡ true
    → IsOver (semicolon_from within) (semicolon_from within) text rest
quiet_over within [] rest h = empty_over (semicolon_from within) rest
quiet_over within (b ∷ bs) rest h =
    let place = semicolon_from within in
    let parts = and_parts (is_quiet within b) (list_all (is_quiet within) bs) h in
    both_over place place place (b ∷ []) bs rest (byte_over within b (bs ++ rest) parts.0) (quiet_over within bs rest parts.1)

quiet_within : (text : List ℕ) → has_parenthesis text ≡ false → list_all (is_quiet true) text ≡ true
quiet_within [] h = refl
quiet_within (b ∷ bs) h = let parts = or_parts (b == 40 || b == 41) (has_parenthesis bs) h in rw (parts.0, quiet_within bs parts.1) refl

access_quiet : (access : Access) → list_all (is_quiet false) (access_text access) ≡ true
access_quiet Free = refl
access_quiet Barred = refl
access_quiet ForPurpose = refl

-- a clause has no semicolon outside parentheses
clause_over : (clause : Clause) (rest : List ℕ) → Each IsAgain clause.parts → IsOver first_semicolon first_semicolon (clause_text clause) rest
clause_over clause rest h =
    let outside = semicolon_from false in
    let within = semicolon_from true in
    let access = access_text clause.access in
    let parts = parts_text clause.parts in
    let inner = parts ++ codes ")" in
    let quiet = quiet_over true parts (codes ")" ++ rest) (quiet_within parts (parts_plain clause.parts h)) in
    let closed : IsOver within outside inner rest = both_over within within outside parts (codes ")") rest quiet refl in
    let opened : IsOver outside outside (codes "(" ++ inner) rest = both_over outside within outside (codes "(") inner rest refl closed in
    let at = quiet_over false (codes " @ ") ((codes "(" ++ inner) ++ rest) refl in
    let marked : IsOver outside outside (codes " @ (" ++ inner) rest =
    both_over outside outside outside (codes " @ ") (codes "(" ++ inner) rest at opened in
    let front = quiet_over false access ((codes " @ (" ++ inner) ++ rest) (access_quiet clause.access) in
    both_over outside outside outside access (codes " @ (" ++ inner) rest front marked

abbrev AreClausePieces : Clause → Type 0
AreClausePieces clause =
    IsJoinedPart first_semicolon (codes "; ") IsClause (clause_text clause) clause × IsJoinedPart first_semicolon (codes "; ") IsClause
    (32 ∷ clause_text clause) clause

clause_pieces : (clause : Clause) → Each IsAgain clause.parts → AreClausePieces clause
clause_pieces clause h =
    let is = clause_is clause.access (bracketed_text clause.parts) clause.parts (condition_again clause.parts h) in
    pieces first_semicolon (codes "; ") IsClause (λ rest. Unit {0}) refl (λ more. refl) tt (λ more. tt) (clause_text clause) clause is.0 is.1
    (λ rest any. clause_over clause rest h) (λ rest any. refl)

each_part : (text : List ℕ) (parts : List Part) → IsParts text parts → Each IsAgain parts
each_part text parts h = each_of IsAgain (λ t part is. part_again (trimmed t) part is) h

parts_again : (text : List ℕ) (parts : List Part) → IsCondition text parts → Each IsAgain parts
parts_again text parts (conditions.bracketed inner plain h) = each_part (trimmed inner) parts h
parts_again text parts (conditions.bare plain h) = each_part text parts h

clause_again : (text : List ℕ) (clause : Clause) → IsClause text clause → AreClausePieces clause
clause_again text clause (conditions.clause value condition {access = access} {parts = parts} at is h) =
    clause_pieces (record { access = access; parts = parts }) (parts_again (trimmed condition) parts h)

-- The canonical text of clauses that some text has is read as these clauses.
pub canonical_again : (clauses : List Clause) → AreParsedClauses clauses → IsConditional (conditional_text clauses) clauses
canonical_again clauses h =
    joined_cut first_semicolon (codes "; ") 1 IsClause clause_text (λ more. refl) clauses (each_of AreClausePieces clause_again h.1)
