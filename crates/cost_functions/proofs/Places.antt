-- Values of lists of pieces by the place of a piece, and of lists that grow.
use Rattle.std.proofs.Common.{◌≡◌, ◌==◌, ⊎_elim, ℕ, ◌+◌, ◌-◌, ◌*◌, ◌≤◌, ◌<◌, Bool, true, false, cond, ltb, zero, suc, Option, Some, None, List, [], ◌∷◌, ◌++◌}
use Rattle.std.proofs.Common.{length, get_or, take, drop, All, refl, ◌∙◌, ap, sym, subst, arith}
use Rattle.std.proofs.lemmas.Bool.{cases_eq, cases_lt, eq-eqb, ne_eqb, ltb-true, ltb-false}
use Rattle.std.specs.List.{AllWithin}
use Rattle.std.specs.List.Sorted.{IsNonDecreasingBy}
use Rattle.route_base.proofs.Lists.{first_and_rest}
use Rattle.std.proofs.lemmas.List.Elements.{All-head, All-tail, All-cons}
use Rattle.std.proofs.lemmas.List.Kept.{AllPairs-cons}
use Rattle.cost_functions.specs.Lines.{is_on_piece, line_at, AreOneLine}
use Rattle.cost_functions.specs.Pieces.{value_at, point_at, ArePieces, IsReduced}
use Rattle.cost_functions.specs.declared.pieces.Piece.{Piece}
use Rattle.cost_functions.proofs.Values.{has_not_before, has_not_after, value_here, value_before, value_after, rising_head, pieces_tail}

-- the first value that is there
either : Option ℕ → Option ℕ → Option ℕ
either None b = b
either (Some a) b = Some a

at_choice : (b : Bool) (v : ℕ) (o p : Option ℕ) → cond b (Some v) (either o p) ≡ either (cond b (Some v) o) p
unfolding either
at_choice true v o p = refl
at_choice false v o p = refl

value_append : (xs ys : List Piece) (t : ℕ) → value_at (xs ++ ys) t ≡ either (value_at xs t) (value_at ys t)
unfolding either value_at
value_append [] ys t = refl
value_append (p ∷ xs) ys t = ap (λ v. cond (is_on_piece t p) (Some (line_at p t)) v) (value_append xs ys t)
    ∙ at_choice (is_on_piece t p) (line_at p t) (value_at xs t) (value_at ys t)

point_append : (xs ys : List (ℕ × ℕ)) (t : ℕ) → point_at (xs ++ ys) t ≡ either (point_at xs t) (point_at ys t)
unfolding either point_at
point_append [] ys t = refl
point_append (p ∷ xs) ys t = ap (λ v. cond (p.0 == t) (Some p.1) v) (point_append xs ys t) ∙ at_choice (p.0 == t) p.1 (point_at xs t) (point_at ys t)

either_none : (o p : Option ℕ) → p ≡ None → either o p ≡ o
unfolding either
either_none None p none = none
either_none (Some v) p none = refl

-- what has no value there may stand behind
pub value_before_tail : (xs ys : List Piece) (t : ℕ) → value_at ys t ≡ None → value_at (xs ++ ys) t ≡ value_at xs t
value_before_tail xs ys t none = value_append xs ys t ∙ either_none (value_at xs t) (value_at ys t) none

-- lists with the same values keep them when the same is appended
pub value_onto : (xs ys zs : List Piece) (t : ℕ) → value_at xs t ≡ value_at ys t → value_at (xs ++ zs) t ≡ value_at (ys ++ zs) t
value_onto xs ys zs t same = value_append xs zs t ∙ ap (λ v. either v (value_at zs t)) same ∙ sym (value_append ys zs t)

one_point : (a x t : ℕ) → value_at (record { lo = a; hi = a; cost = x; slope = 0 } ∷ []) t ≡ point_at ((a, x) ∷ []) t
unfolding point_at value_at
one_point a x t =
    let p : Piece = record { lo = a; hi = a; cost = x; slope = 0 } in
    ⊎_elim
    (λ (same : a ≡ t). value_here p [] t (omega (arith, same)) (omega (arith, same)) ∙ ap Some (let e : x + 0 * (t - a) ≡ x = omega arith in e)
    ∙ sym (ap (λ b. cond b (Some x) None) (eq-eqb a t same)))
    (λ (other : a ≡ t → ⊥).
    ⊎_elim
    (λ (early : t < a). value_before p [] t early ∙ sym (ap (λ b. cond b (Some x) None) (ne_eqb a t other)))
    (λ (late : a ≤ t). value_after p [] t (omega (arith, late, other)) ∙ sym (ap (λ b. cond b (Some x) None) (ne_eqb a t other)))
    (cases_lt t a))
    (cases_eq a t)

pub point_onto : (xs : List Piece) (ps : List (ℕ × ℕ)) (a x t : ℕ) → value_at xs t ≡ point_at ps t
    → value_at (xs ++ record { lo = a; hi = a; cost = x; slope = 0 } ∷ []) t ≡ point_at (ps ++ (a, x) ∷ []) t
point_onto xs ps a x t same =
    let p : Piece = record { lo = a; hi = a; cost = x; slope = 0 } in
    value_append xs (p ∷ []) t ∙ ap (λ v. either v (value_at (p ∷ []) t)) same ∙ ap (λ v. either (point_at ps t) v) (one_point a x t)
    ∙ sym (point_append ps ((a, x) ∷ []) t)

-- the value by the place of the piece
pub value_at_place : (ps : List Piece) (i : ℕ) (d : Piece) (t : ℕ) → ArePieces ps → i < length ps → (get_or ps i d).lo ≤ t → t ≤ (get_or ps i d).hi
    → value_at ps t ≡ Some (line_at (get_or ps i d) t)
value_at_place [] i d t are within from upto = absurd (omega (arith, within))
value_at_place (p ∷ ps) zero d t are within from upto = value_here p ps t from upto
value_at_place (p ∷ ps) (suc i) d t are within from upto =
    let here : i < length ps = omega (arith, within) in
    let far = rising_head p ps are i d here in
    value_after p ps t (omega (arith, far, from)) ∙ value_at_place ps i d t (pieces_tail p ps are) here from upto

pub value_nowhere : (ps : List Piece) (t : ℕ) → All (λ p. is_on_piece t p ≡ false) ps → value_at ps t ≡ None
unfolding value_at
value_nowhere [] t all = refl
value_nowhere (p ∷ ps) t all = ap (λ b. cond b (Some (line_at p t)) (value_at ps t)) (All-head (λ q. is_on_piece t q ≡ false) p ps all)
    ∙ value_nowhere ps t (All-tail (λ q. is_on_piece t q ≡ false) p ps all)

-- pieces that rise are reduced where no neighbours are on one line
pub reduced_more : (p q : Piece) (ps : List Piece) → ArePieces (p ∷ q ∷ ps) → ((slope : ℕ) → AreOneLine p q slope → ⊥) → IsReduced (q ∷ ps)
    → IsReduced (p ∷ q ∷ ps)
reduced_more p q ps are apart reduced = AllPairs-cons (λ a b. (slope : ℕ) → AreOneLine a b slope → ⊥) p (q ∷ ps)
    (All-cons (λ b. (slope : ℕ) → AreOneLine p b slope → ⊥) q ps apart (λ k d within slope line.
    (let far = rising_head q ps (pieces_tail p (q ∷ ps) are) k d within in
    let first = rising_head p (q ∷ ps) are 0 q (omega arith) in
    let filled = (are.each 1 q (omega arith)).filled in
    let near = line.touch in
    absurd (omega (arith, far, first, filled, near)))))
    reduced

pub nothing_yet : (t : ℕ) → value_at [] t ≡ point_at [] t
unfolding point_at value_at
nothing_yet t = refl

pub pieces_rest : (xs : List Piece) → 1 ≤ length xs → ArePieces xs → ArePieces (take (length xs - 1) (drop 1 xs))
pieces_rest xs some are =
    let d : Piece = record { lo = 0; hi = 0; cost = 0; slope = 0 } in
    pieces_tail (get_or xs 0 d) (take (length xs - 1) (drop 1 xs)) (subst ArePieces (first_and_rest xs d some) are)

-- the same of a list by its first item and the others
module _ (xs : List Piece) (d : Piece) (some : 1 ≤ length xs) (one : 1 ≤ length (take (length xs - 1) (drop 1 xs))) (are : ArePieces xs) where
  pub reduced_rest : IsReduced xs → IsReduced (take (length xs - 1) (drop 1 xs))
  reduced_rest all i j e lt within slope line =
      subst IsReduced (first_and_rest xs d some) all (suc i) (suc j) e (omega (arith, lt)) (omega (arith, within)) slope line

  pub reduced_whole : ((slope : ℕ) → AreOneLine (get_or xs 0 d) (get_or (take (length xs - 1) (drop 1 xs)) 0 d) slope → ⊥)
      → IsReduced (take (length xs - 1) (drop 1 xs)) → IsReduced xs
  reduced_whole apart reduced =
      let tail : List Piece = take (length xs - 1) (drop 1 xs) in
      let front : xs ≡ get_or xs 0 d ∷ tail = first_and_rest xs d some in
      let behind : tail ≡ get_or tail 0 d ∷ take (length tail - 1) (drop 1 tail) = first_and_rest tail d one in
      let both : xs ≡ get_or xs 0 d ∷ get_or tail 0 d ∷ take (length tail - 1) (drop 1 tail) = front ∙ ap (λ ys. get_or xs 0 d ∷ ys) behind in
      subst IsReduced (sym both) (reduced_more (get_or xs 0 d) (get_or tail 0 d) (take (length tail - 1) (drop 1 tail)) (subst ArePieces both are) apart
      (subst IsReduced behind reduced))

-- the ends rise
pub ends_rise : (ps : List Piece) → ArePieces ps → IsNonDecreasingBy (λ p. p.hi) ps
ends_rise ps are i j d le within =
    ⊎_elim
    (λ (same : i ≡ j). omega (arith, ap (λ n. (get_or ps n d).hi) same))
    (λ (other : i ≡ j → ⊥). (let far = are.apart i j d (omega (arith, le, other)) within in let filled = (are.each j d within).filled in
    omega (arith, far, filled)))
    (cases_eq i j)

-- what halving finds
module _ (ps : List Piece) (t i : ℕ) (are : ArePieces ps) (before : AllWithin (λ p. ltb p.hi t ≡ true) ps 0 i)
    (after : AllWithin (λ p. ltb p.hi t ≡ false) ps i (length ps)) where
  pub found_end : (p : Piece) → i < length ps → p ≡ get_or ps i p → t ≤ p.hi
  found_end p within is = let late = ltb-false _ _ (after i p (omega arith) within) in omega (arith, late, ap (λ (q : Piece). q.hi) is)

  pub found_value : (p : Piece) → i < length ps → p ≡ get_or ps i p → p.lo ≤ t → value_at ps t ≡ Some (line_at p t)
  found_value p within is from =
      let late = ltb-false _ _ (after i p (omega arith) within) in
      value_at_place ps i p t are within (omega (arith, from, ap (λ (q : Piece). q.lo) is)) (omega (arith, late))
      ∙ ap (λ (q : Piece). Some (line_at q t)) (sym is)

  pub found_none : ((d : Piece) → i < length ps → t < (get_or ps i d).lo) → value_at ps t ≡ None
  found_none next = value_nowhere ps t (λ k d within.
      ⊎_elim
      (λ (early : k < i). has_not_after (get_or ps k d) t (ltb-true _ _ (before k d (omega arith) early)))
      (λ (late : i ≤ k).
      (let first = next d (omega (arith, late, within)) in
      ⊎_elim
      (λ (same : i ≡ k). has_not_before (get_or ps k d) t (omega (arith, first, ap (λ n. (get_or ps n d).lo) same)))
      (λ (other : i ≡ k → ⊥). (let far = are.apart i k d (omega (arith, late, other)) within in
      let filled = (are.each i d (omega (arith, late, within))).filled in has_not_before (get_or ps k d) t (omega (arith, far, filled, first))))
      (cases_eq i k)))
      (cases_lt k i))
