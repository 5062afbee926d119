-- The function that computes the clauses of a text agrees with the relation.
use Rattle.std.proofs.Common.{◌≡◌, ◌↔◌, ℕ, zero, suc, ◌+◌, ◌-◌, ◌≤◌, ◌<◌, Bool, true, false, cond, not, List, [], ◌∷◌, ◌++◌, length, take, drop}
use Rattle.std.proofs.Common.{Option, Some, None, option_and_then, option_map, refl, sym, ap, subst, ◌∙◌, arith, length-append, length-drop}
use Rattle.std.specs.Prelude.{◌&&◌}
use Rattle.std.specs.List.{position}
use Rattle.std.specs.Str.{bytes_eq}
use Rattle.std.proofs.Math.Seq.{take-append_seam}
use Rattle.std.proofs.lemmas.Slice.Eq.{bytes_eq-Decides}
use Rattle.route_base.proofs.Logic.{then_some, map_some}
use Rattle.opening_hours.specs.Reading.{hours_of}
use Rattle.opening_hours.proofs.ComputedHours.{hours_of_is_hours}
use Rattle.conditional_rules.specs.declared.access.Access.{Access}
use Rattle.conditional_rules.specs.declared.conditional.Clause.{Clause}
use Rattle.conditional_rules.specs.declared.conditional.Part.{Part}
use Rattle.conditional_rules.specs.declared.conditional.Part.TheVariants.{Compare, Flag, Times}
use Rattle.conditional_rules.specs.Accesses.{access_of}
use Rattle.conditional_rules.specs.Conditions.{has_sign, is_flag, has_parenthesis}
use Rattle.conditional_rules.specs.Conditions.{IsPart, IsSpacedPart, IsParts, IsCondition, IsClause, IsConditional}
use Rattle.conditional_rules.specs.Conditions as law
use Rattle.conditional_rules.specs.Cutting.{trimmed, Cut, first_semicolon, first_and}
use Rattle.conditional_rules.specs.Cutting as cutting
use Rattle.conditional_rules.specs.Inside.Comparisons.{comparison_of}
use Rattle.conditional_rules.specs.Reading.{pieces_from, cut_within, part_of, parts_of, inner_of, condition_of, clause_from, clause_of}
use Rattle.conditional_rules.specs.Reading.{conditional_of}
use Rattle.conditional_rules.proofs.Clauses.{clause_found, clause_at, clause_parts}
use Rattle.conditional_rules.proofs.FirstAt.{is_at_sign, at_whole, at_before, no_at}
use Rattle.conditional_rules.proofs.Parentheses.{bracketed_found}
use Rattle.conditional_rules.proofs.ReadComparisons.{comparison_read, comparison_found}

module _ {B : Type 0} (first_mark : List ℕ → Option ℕ) (width : ℕ) (Is : List ℕ → B → Type 0) (read : List ℕ → Option B)
    (reads : (text : List ℕ) (x : B) → (read text ≡ Some x) ↔ Is text x) where
  -- pieces that are found are those of the text, where this is so of those behind the first mark
  pieces_cut : (cut : List ℕ → Option (List B)) (text : List ℕ) (xs : List B)
      → ((rest : List ℕ) (ys : List B) → cut rest ≡ Some ys → Cut first_mark width Is rest ys)
      → (o : Option ℕ) → first_mark text ≡ o → pieces_from width read cut text o ≡ Some xs → Cut first_mark width Is text xs
  pieces_cut cut text xs gives None none e =
      let m = map_some (read text) (λ x. x ∷ []) xs e in
      subst (Cut first_mark width Is text) m.2 (cutting.last none ((reads text m.0).0 m.1))
  pieces_cut cut text xs gives (Some i) some e =
      let behind = drop (i + width) text in
      let f = then_some (read (take i text)) (λ x. option_map (λ ys. x ∷ ys) (cut behind)) xs e in
      let m = map_some (cut behind) (λ ys. f.0 ∷ ys) xs f.2 in
      subst (Cut first_mark width Is text) m.2 (cutting.more some ((reads (take i text) f.0).0 f.1) (gives behind m.0 m.1))

  within_cut : (n : ℕ) (text : List ℕ) (xs : List B) → cut_within first_mark width read n text ≡ Some xs → Cut first_mark width Is text xs
  unfolding cut_within
  within_cut zero text xs e = absurd cc
  within_cut (suc n) text xs e = pieces_cut (cut_within first_mark width read n) text xs (within_cut n) (first_mark text) refl e

  -- the pieces of a text are found, where the fuel is above its length
  cut_found : first_mark [] ≡ None → 1 ≤ width → (n : ℕ) (text : List ℕ) (xs : List B) → length text < n → Cut first_mark width Is text xs
      → cut_within first_mark width read n text ≡ Some xs
  unfolding cut_within
  cut_found empty wide zero text xs enough h = absurd (omega (arith, enough))
  cut_found empty wide (suc n) text xs enough (cutting.last {x = x} none is) =
      ap (pieces_from width read (cut_within first_mark width read n) text) none ∙ ap (option_map (λ y. y ∷ [])) ((reads text x).1 is)
  cut_found empty wide (suc n) [] xs enough (cutting.more some is h) = absurd cc
  cut_found empty wide (suc n) (b ∷ bs) xs enough (cutting.more {i = i} {x = x} {xs = ys} some is h) =
      let behind = drop (i + width) (b ∷ bs) in
      let less : length behind < n = omega (arith, wide, enough, length-drop (i + width) (b ∷ bs)) in
      ap (pieces_from width read (cut_within first_mark width read n) (b ∷ bs)) some
      ∙ ap (option_and_then (λ y. option_map (λ us. y ∷ us) (cut_within first_mark width read n behind))) ((reads (take i (b ∷ bs)) x).1 is)
      ∙ ap (option_map (λ us. x ∷ us)) (cut_found empty wide n behind ys less h)

  -- The function gives the pieces exactly where the relation holds.
  cut_is : first_mark [] ≡ None → 1 ≤ width → (text : List ℕ) (xs : List B)
      → (cut_within first_mark width read (1 + length text) text ≡ Some xs) ↔ Cut first_mark width Is text xs
  cut_is empty wide text xs =
      (within_cut (1 + length text) text xs, cut_found empty wide (1 + length text) text xs (omega arith))

part_found : (text : List ℕ) (part : Part) → part_of text ≡ Some part → IsPart text part
unfolding part_of
part_found text part e = by (has_sign text) (is_flag text) refl refl e
  where
    by : (v w : Bool) → has_sign text ≡ v → is_flag text ≡ w → cond v (option_map (λ c. Compare c.0 c.1 c.2) (comparison_of text))
        (cond w (Some (Flag text)) (option_map Times (hours_of text))) ≡ Some part → IsPart text part
    by true w sign flag e =
        let m = map_some (comparison_of text) (λ c. Compare c.0 c.1 c.2) part e in
        subst (IsPart text) m.2 (law.compared sign (comparison_found text m.0.0 m.0.1 m.0.2 m.1))
    by false true sign flag e = let same : Flag text ≡ part = cc in subst (IsPart text) same (law.flagged sign flag)
    by false false sign flag e =
        let m = map_some (hours_of text) Times part e in
        subst (IsPart text) m.2 (law.timed sign flag ((hours_of_is_hours text m.0).0 m.1))

part_computed : (text : List ℕ) (part : Part) → IsPart text part → part_of text ≡ Some part
unfolding part_of
part_computed text part (law.compared sign h) = rw (sign, comparison_read h) refl
part_computed text part (law.flagged sign flag) = rw (sign, flag) refl
part_computed text part (law.timed {rules = rules} sign flag h) = rw (sign, flag, (hours_of_is_hours text rules).1 h) refl

part_is : (text : List ℕ) (part : Part) → (part_of text ≡ Some part) ↔ IsPart text part
part_is text part = (part_found text part, part_computed text part)

parts_is : (text : List ℕ) (parts : List Part) → (parts_of text ≡ Some parts) ↔ IsParts text parts
unfolding parts_of
parts_is text parts =
    cut_is first_and 4 IsSpacedPart (λ piece. part_of (trimmed piece)) (λ piece part. part_is (trimmed piece) part) refl (omega arith) text parts

inner_again : (inner : List ℕ) → inner_of (40 ∷ (inner ++ 41 ∷ [])) ≡ inner
inner_again inner =
    let size : length (40 ∷ (inner ++ 41 ∷ [])) - 2 ≡ length inner = omega (arith, length-append inner (41 ∷ [])) in
    rw size (take-append_seam inner (41 ∷ []))

condition_found : (text : List ℕ) (parts : List Part) → condition_of text ≡ Some parts → IsCondition text parts
unfolding condition_of
condition_found text parts e =
    by (has_parenthesis text) (bytes_eq text (40 ∷ (inner ++ 41 ∷ []))) (has_parenthesis inner) refl refl refl e
  where
    inner : List ℕ
    inner = inner_of text

    by : (u v w : Bool) → has_parenthesis text ≡ u → bytes_eq text (40 ∷ (inner ++ 41 ∷ [])) ≡ v → has_parenthesis inner ≡ w
        → cond u (cond (v && not w) (parts_of (trimmed inner)) None) (parts_of text) ≡ Some parts → IsCondition text parts
    by false v w none _ _ e = law.bare none ((parts_is text parts).0 e)
    by true true false _ same free e =
        bracketed_found inner ((bytes_eq-Decides text (40 ∷ (inner ++ 41 ∷ []))).0 same) free ((parts_is (trimmed inner) parts).0 e)
    by true true true _ _ _ e = absurd cc
    by true false w _ _ _ e = absurd cc

condition_computed : (text : List ℕ) (parts : List Part) → IsCondition text parts → condition_of text ≡ Some parts
unfolding condition_of
condition_computed text parts (law.bracketed inner free h) =
    rw (inner_again inner, (bytes_eq-Decides text text).1 refl, free) ((parts_is (trimmed inner) parts).1 h)
condition_computed text parts (law.bare free h) = rw free ((parts_is text parts).1 h)

condition_is : (text : List ℕ) (parts : List Part) → (condition_of text ≡ Some parts) ↔ IsCondition text parts
condition_is text parts = (condition_found text parts, condition_computed text parts)

clause_read : (text : List ℕ) (c : Clause) → clause_of text ≡ Some c → IsClause text c
unfolding clause_of
clause_read text c e =
    let f = then_some (position is_at_sign text) (λ i. clause_from (take i text) (drop (i + 1) text)) c e in
    let value = take f.0 text in
    let condition = drop (f.0 + 1) text in
    let make : Access → List Part → Clause = λ access parts. record { access = access; parts = parts } in
    let g = then_some (access_of (trimmed value)) (λ access. option_map (make access) (condition_of (trimmed condition))) c f.2 in
    let m = map_some (condition_of (trimmed condition)) (make g.0) c g.2 in
    subst (IsClause text) m.2
    (clause_found text value condition g.0 m.0 (at_whole text f.0 (sym f.1)) (at_before text f.0 (sym f.1)) g.1
    (condition_found (trimmed condition) m.0 m.1))

clause_computed : (text : List ℕ) (c : Clause) → IsClause text c → clause_of text ≡ Some c
unfolding clause_of
clause_computed text c h = by (position is_at_sign text) refl
  where
    by : (o : Option ℕ) → position is_at_sign text ≡ o → option_and_then (λ i. clause_from (take i text) (drop (i + 1) text)) o ≡ Some c
    by None e = let none = no_at text (sym e) in let some = clause_at h in absurd cc
    by (Some i) e =
        let condition = drop (i + 1) text in
        let p = clause_parts (take i text) condition (at_whole text i (sym e)) (at_before text i (sym e)) h in
        rw (p.0, condition_computed (trimmed condition) c.parts p.1) refl

-- The function gives the clause exactly where the relation holds.
clause_is : (text : List ℕ) (c : Clause) → (clause_of text ≡ Some c) ↔ IsClause text c
clause_is text c = (clause_read text c, clause_computed text c)

-- The function gives the clauses exactly where the relation holds.
pub conditional_of_is : (text : List ℕ) (clauses : List Clause) → (conditional_of text ≡ Some clauses) ↔ IsConditional text clauses
unfolding conditional_of
conditional_of_is text clauses = cut_is first_semicolon 1 IsClause clause_of clause_is refl (omega arith) text clauses

pub clauses_computed : (text : List ℕ) (clauses : List Clause) → IsConditional text clauses → conditional_of text ≡ Some clauses
clauses_computed text clauses h = (conditional_of_is text clauses).1 h

-- The function gives nothing where the text has no clauses.
pub nothing_computed : (text : List ℕ) → ((clauses : List Clause) → IsConditional text clauses → ⊥) → conditional_of text ≡ None
nothing_computed text without = by (conditional_of text) refl
  where
    by : (o : Option (List Clause)) → conditional_of text ≡ o → o ≡ None
    by None e = refl
    by (Some clauses) e = absurd (without clauses ((conditional_of_is text clauses).0 e))
