-- Pieces cut into those before a place and those from it on.
use Rattle.std.proofs.Common.{◌≡◌, ⊎_elim, ◌++◌, ℕ, ◌+◌, ◌≤◌, ◌<◌, false, zero, suc, Some, None, List, [], ◌∷◌, length, get_or, take, drop, All, AllPairs}
use Rattle.std.proofs.Common.{length-append, refl, ◌∙◌, ap, sym, subst, arith}
use Rattle.std.specs.List.{AllWithin}
use Rattle.std.proofs.lemmas.List.{get_or-take, get_or-drop, length-take-le, length-drop, get_or_default, take-append-drop}
use Rattle.std.proofs.Math.Seq.{take-append-add, take-append_seam, drop-append-add, drop-append_seam}
use Rattle.std.proofs.lemmas.Bool.{cases_lt, cases_eq}
use Rattle.std.specs.List.Sorted.{IsNonDecreasingBy}
use Rattle.cost_functions.proofs.Places.{ends_rise, value_onto, value_at_place, value_before_tail}
use Rattle.function_merge.specs.Least.{least_at, better_at}
use Rattle.function_merge.proofs.Nexts.{least_none, least_same, least_alone, least_kept, better_none, better_same}
use Rattle.cost_functions.specs.Lines.{line_at, IsPiece, IsSmallPiece, AreOneLine}
use Rattle.cost_functions.specs.Building.{AreBuilt, IsSettled}
use Rattle.function_merge.specs.Inside.Suffixes.{AreParts}
use Rattle.std.proofs.lemmas.List.Elements.{All-nil}
use Rattle.cost_functions.specs.Pieces.{value_at, ArePieces}
use Rattle.cost_functions.specs.declared.pieces.Piece.{Piece}
use Rattle.cost_functions.proofs.Values.{value_after, none_before, none_after}

pub value_drop : (ps : List Piece) (k t : ℕ) → k ≤ length ps → AllWithin (λ p. p.hi < t) ps 0 k → value_at (drop k ps) t ≡ value_at ps t
value_drop ps zero t le before = refl
value_drop [] (suc k) t le before = absurd (omega (arith, le))
value_drop (p ∷ ps) (suc k) t le before =
    value_drop ps k t (omega (arith, le)) (λ j d from upto. before (suc j) d (omega arith) (omega (arith, upto)))
    ∙ sym (value_after p ps t (before 0 p (omega arith) (omega arith)))

module _ {X : Type 0} (xs : List X) (k : ℕ) (le : k ≤ length xs) where
  pub all_take : (P : X → Type 0) → AllWithin P xs 0 k → All P (take k xs)
  all_take P before j d within = let lt : j < k = omega (arith, within, length-take-le k xs le) in
      subst P (sym (get_or-take k xs j d lt)) (before j d (omega arith) lt)

  pub all_drop : (P : X → Type 0) → AllWithin P xs k (length xs) → All P (drop k xs)
  all_drop P after j d within = subst P (sym (get_or-drop k xs j d)) (after (k + j) d (omega arith) (omega (arith, within, length-drop k xs)))

  pub pairs_take : (R : X → X → Type 0) → AllPairs R xs → AllPairs R (take k xs)
  pairs_take R all i j d lt within =
      let short : j < k = omega (arith, within, length-take-le k xs le) in
      let first : R (get_or xs i d) (get_or xs j d) = all i j d lt (omega (arith, short, le)) in
      rw (get_or-take k xs i d (omega (arith, lt, short)), get_or-take k xs j d short) first

  pub pairs_drop : (R : X → X → Type 0) → AllPairs R xs → AllPairs R (drop k xs)
  pairs_drop R all i j d lt within =
      let first : R (get_or xs (k + i) d) (get_or xs (k + j) d) = all (k + i) (k + j) d (omega (arith, lt)) (omega (arith, within, length-drop k xs)) in
      rw (get_or-drop k xs i d, get_or-drop k xs j d) first

  pub every_take : (P : X → Type 0) → All P xs → All P (take k xs)
  every_take P all = all_take P (λ j d from upto. all j d (omega (arith, upto, le)))

  pub every_drop : (P : X → Type 0) → All P xs → All P (drop k xs)
  every_drop P all = all_drop P (λ j d from upto. all j d upto)

  -- what is so of the taken part is so of the whole
  pub within_part : (P : X → Type 0) (i : ℕ) → i ≤ k → AllWithin P (take k xs) 0 i → AllWithin P xs 0 i
  within_part P i few before j d from upto = let lt : j < k = omega (arith, few, upto) in subst P (get_or-take k xs j d lt) (before j d from upto)

  pub within_both : (P : X → Type 0) (i : ℕ) → AllWithin P (take k xs) i (length (take k xs)) → AllWithin P xs k (length xs) → AllWithin P xs i (length xs)
  within_both P i part after j d from upto =
      ⊎_elim
      (λ (lt : j < k). subst P (get_or-take k xs j d lt) (part j d from (omega (arith, lt, length-take-le k xs le))))
      (λ (ge : k ≤ j). after j d ge upto)
      (cases_lt j k)

module _ (ps : List Piece) (k : ℕ) (le : k ≤ length ps) where
  pub pieces_take : ArePieces ps → ArePieces (take k ps)
  pieces_take are = record { each = every_take ps k le IsPiece are.each; apart = pairs_take ps k le (λ p q. p.hi < q.lo) are.apart }

  pub pieces_drop : ArePieces ps → ArePieces (drop k ps)
  pieces_drop are = record { each = every_drop ps k le IsPiece are.each; apart = pairs_drop ps k le (λ p q. p.hi < q.lo) are.apart }

  -- a piece before the place ends before each from it on begins
  pub apart_at : ArePieces ps → (i : ℕ) (d : Piece) → i < k → All (λ p. (get_or ps i d).hi < p.lo) (drop k ps)
  apart_at are i d before j e within =
      let far = are.apart i (k + j) d (omega (arith, before)) (omega (arith, within, length-drop k ps)) in
      let P : Piece → Type 0 = λ p. (get_or ps i d).hi < p.lo in
      subst P (sym (get_or-drop k ps j e ∙ get_or_default ps (k + j) e d (omega (arith, within, length-drop k ps)))) far

-- the beginnings rise
pub begins_rise : (ps : List Piece) → ArePieces ps → IsNonDecreasingBy (λ p. p.lo) ps
begins_rise ps are i j d le within =
    ⊎_elim
    (λ (same : i ≡ j). omega (arith, ap (λ n. (get_or ps n d).lo) same))
    (λ (other : i ≡ j → ⊥). (let far = are.apart i j d (omega (arith, le, other)) within in let filled = (are.each i d (omega (arith, le, within))).filled in
    omega (arith, far, filled)))
    (cases_eq i j)

-- nothing ends behind the last piece
pub last_ends : (ps : List Piece) (i : ℕ) (d : Piece) → ArePieces ps → length ps ≡ i + 1 → All (λ p. p.hi ≤ (get_or ps i d).hi) ps
last_ends ps i d are long k e within =
    let rise = ends_rise ps are k i e (omega (arith, within, long)) (omega (arith, long)) in
    let same = ap (λ (p : Piece). p.hi) (get_or_default ps i e d (omega (arith, long))) in
    omega (arith, rise, same)

-- built pieces before a place and from it on
pub parts_at : (ps : List Piece) (k : ℕ) → k ≤ length ps → AreBuilt ps → AreParts ps (take k ps) (drop k ps)
parts_at ps k le built = record {
  both = sym (take-append-drop k ps);
  front = record {
    pieces = pieces_take ps k le built.pieces;
    reduced = pairs_take ps k le (λ p q. (slope : ℕ) → AreOneLine p q slope → ⊥) built.reduced;
    small = every_take ps k le IsSmallPiece built.small;
  };
  back = record {
    pieces = pieces_drop ps k le built.pieces;
    reduced = pairs_drop ps k le (λ p q. (slope : ℕ) → AreOneLine p q slope → ⊥) built.reduced;
    small = every_drop ps k le IsSmallPiece built.small;
  };
  apart = λ j d within i e short.
      (let before : i < k = omega (arith, short, length-take-le k ps le) in
      let far = apart_at ps k le built.pieces i e before j d within in
      let same = ap (λ (p : Piece). p.hi) (get_or-take k ps i e before) in
      omega (arith, far, same));
}

-- a back that is cut: its front goes with the front
module _ (ps xs ys rest tail : List Piece) (built : AreBuilt ps) (whole : AreParts ps xs ys) (cut : AreParts ys rest tail) where
  rest_is : take (length rest) ys ≡ rest
  rest_is = ap (λ zs. take (length rest) zs) cut.both ∙ take-append_seam rest tail

  within : length rest ≤ length ys
  within = omega (arith, ap length cut.both, length-append rest tail)

  pub cut_front : AreParts (xs ++ rest) xs rest
  cut_front =
      let P : Piece → Type 0 = λ p. All (λ q. q.hi < p.lo) xs in
      record { both = refl; front = whole.front; back = cut.front; apart = subst (All P) rest_is (every_take ys (length rest) within P whole.apart) }

  pub cut_whole : AreParts ps (xs ++ rest) tail
  cut_whole =
      let n = length xs + length rest in
      let front : take n ps ≡ xs ++ rest =
      ap (λ zs. take n zs) whole.both ∙ take-append-add xs ys (length rest) ∙ ap (λ zs. xs ++ zs) rest_is in
      let back : drop n ps ≡ tail =
      ap (λ zs. drop n zs) whole.both ∙ drop-append-add xs ys (length rest) ∙ ap (λ zs. drop (length rest) zs) cut.both
      ∙ drop-append_seam rest tail in
      subst (λ zs. AreParts ps zs tail) front (subst (AreParts ps (take n ps)) back
      (parts_at ps n (omega (arith, ap length whole.both, length-append xs ys, within)) built))

-- behind the front the values are those of the back
pub value_past : (front back : List Piece) (from t : ℕ) → All (λ p. p.hi < from) front → from ≤ t → value_at (front ++ back) t ≡ value_at back t
value_past front back from t ended late =
    value_onto front [] back t (none_after front t (λ k d within. (let end = ended k d within in omega (arith, end, late)))
    ∙ sym (none_after [] t (All-nil (λ p. p.hi < t))))

-- before a sweep starts the front is settled, where the second function isn't better there
pub front_settled : (front back g : List Piece) (start : ℕ) → All (λ p. p.hi < start) front → All (λ p. start ≤ p.lo) back
    → ((t : ℕ) → t < start → better_at (front ++ back) g t ≡ false) → IsSettled (least_at (front ++ back) g) front start
front_settled front back g start ended after worse = record {
  values = λ t early.
      sym (least_kept (front ++ back) g t (worse t early)
      ∙ value_before_tail front back t (none_before back t (λ k d within. (let begin = after k d within in omega (arith, begin, early)))));
  ended = ended;
}

-- a function whose front is merged and whose back begins behind the other function
module _ (f front back g : List Piece) (end : ℕ) (parts : AreParts f front back) (after : All (λ p. end < p.lo) back) (ends : All (λ p. p.hi ≤ end) g) where
  g_none : (t : ℕ) → end < t → value_at g t ≡ None
  g_none t late = none_after g t (λ j d within. (let done = ends j d within in omega (arith, done, late)))

  back_none : (t : ℕ) → t ≤ end → value_at back t ≡ None
  back_none t early = none_before back t (λ j d within. (let begin = after j d within in omega (arith, begin, early)))

  front_value : (t : ℕ) → t ≤ end → value_at front t ≡ value_at f t
  front_value t early = sym (ap (λ ps. value_at ps t) parts.both ∙ value_before_tail front back t (back_none t early))

  pub better_whole : (t : ℕ) → better_at front g t ≡ better_at f g t
  better_whole t =
      ⊎_elim
      (λ (late : end < t). better_none front g t (g_none t late) ∙ sym (better_none f g t (g_none t late)))
      (λ (early : t ≤ end). better_same front g f g t (front_value t early) refl)
      (cases_lt end t)

  module _ (made : List Piece) (values : (t : ℕ) → value_at made t ≡ least_at front g t) where
    pub least_whole : (t : ℕ) → value_at (made ++ back) t ≡ least_at f g t
    least_whole t =
        ⊎_elim
        (λ (late : end < t).
        value_onto made front back t (values t ∙ least_alone front g t (g_none t late))
        ∙ ap (λ ps. value_at ps t) (sym parts.both)
        ∙ sym (least_alone f g t (g_none t late)))
        (λ (early : t ≤ end).
        value_before_tail made back t (back_none t early) ∙ values t ∙ least_same front g f g t (front_value t early) refl)
        (cases_lt end t)

    -- what is made ends before the back begins
    pub made_before : ArePieces made → All (λ p. All (λ q. q.hi < p.lo) made) back
    made_before are j d within i e short =
        let p = get_or back j d in
        let q = get_or made i e in
        let filled = (are.each i e short).filled in
        let value = value_at_place made i e q.hi are short filled (omega arith) in
        ⊎_elim
        (λ (fine : q.hi < p.lo). fine)
        (λ (over : p.lo ≤ q.hi).
        let begin = after j d within in
        let ended : value_at front q.hi ≡ None = none_after front q.hi (λ m z inside.
        (let far = parts.apart j d within m z inside in omega (arith, far, over))) in
        let none = values q.hi ∙ least_none front g q.hi ended (g_none q.hi (omega (arith, begin, over))) in
        let clash : None ≡ Some (line_at q q.hi) = sym none ∙ value in
        absurd cc)
        (cases_lt q.hi p.lo)
