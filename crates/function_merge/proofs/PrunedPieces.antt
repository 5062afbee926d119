-- A pruned function, and the next piece behind it.
use Rattle.std.proofs.Common.{◌≡◌, ◌⊎◌, inl, inr, ⊎_elim, ℕ, ◌+◌, ◌≤◌, ◌<◌, Option, Some, None, List, [], ◌∷◌, ◌++◌, length, get_or, take, All}
use Rattle.std.proofs.Common.{refl, ◌∙◌, ap, sym, subst, arith}
use Rattle.std.proofs.lemmas.Bool.{cases_lt}
use Rattle.std.proofs.lemmas.List.{take_more, get_or_default, get_or-take, length-take-le}
use Rattle.route_base.specs.Itinerary.{Position}
use Rattle.route_base.specs.Relaxing.{HasPair, IsDominatedOrLate}
use Rattle.route_base.specs.declared.limits.TheConstants.{LAST_INSTANT}
use Rattle.route_base.specs.declared.types.Bound.{Bound}
use Rattle.route_base.specs.declared.types.Pair.{Pair}
use Rattle.cost_functions.specs.Lines.{line_at}
use Rattle.cost_functions.specs.Pieces.{value_at, ArePieces}
use Rattle.cost_functions.specs.declared.pieces.Piece.{Piece}
use Rattle.cost_functions.proofs.Values.{value_front, value_last, none_after, has_not_before, has_not_after}
use Rattle.function_merge.specs.Pruning.{IsPruned}
use Rattle.function_merge.specs.Inside.Prefixes.{IsClearUntil, HasPrefix, HaveArrived, IsPrunedUpTo}

module _ (until : ℕ) (pairs : List Pair) (bound : Bound) (f g new : List Piece) (piece : Piece) (end : ℕ)
    (whole : All (λ q. q.hi < piece.lo) f) (ended : All (λ q. q.hi < piece.lo) g)
    (old : IsPruned until pairs bound (value_at f) (value_at g))
    (clear : IsClearUntil until pairs bound piece end)
    (put : HasPrefix piece end g new) where
  early : (t : ℕ) → t < piece.lo → value_at (f ++ piece ∷ []) t ≡ value_at f t
  early t before = value_front f piece t (has_not_before piece t before)

  here : (t : ℕ) → piece.lo ≤ t → t ≤ piece.hi → value_at (f ++ piece ∷ []) t ≡ Some (line_at piece t)
  here t from upto = value_last f piece t (λ k d within. (let e = whole k d within in omega (arith, e, from))) from upto

  late : (t : ℕ) → piece.lo ≤ t → piece.hi < t → value_at (f ++ piece ∷ []) t ≡ None
  late t from over = value_front f piece t (has_not_after piece t over) ∙ none_after f t (λ k d within. (let e = whole k d within in omega (arith, e, from)))

  kept : (t x : ℕ) → value_at new t ≡ Some x → value_at (f ++ piece ∷ []) t ≡ Some x
  kept t x is =
      ⊎_elim
      (λ (before : t < piece.lo). early t before ∙ old.kept t x (sym (put.front t before) ∙ is))
      (λ (from : piece.lo ≤ t).
      ⊎_elim
      (λ (within : t < end). here t from (let upto = clear.upto in omega (arith, within, upto)) ∙ sym (put.part t from within) ∙ is)
      (λ (gone : end ≤ t). (let none : None ≡ Some x = sym (put.rest t from gone) ∙ is in absurd cc))
      (cases_lt t end))
      (cases_lt t piece.lo)

  undominated : (p : Position) → value_at new p.minute ≡ Some p.cost → IsDominatedOrLate until pairs (Some bound) p → ⊥
  undominated p is =
      ⊎_elim
      (λ (before : p.minute < piece.lo). old.clear p (sym (put.front p.minute before) ∙ is))
      (λ (from : piece.lo ≤ p.minute).
      ⊎_elim
      (λ (within : p.minute < end). (let same : Some (line_at piece p.minute) ≡ Some p.cost = sym (put.part p.minute from within) ∙ is in
      clear.before p from within cc))
      (λ (gone : end ≤ p.minute). (let none : None ≡ Some p.cost = sym (put.rest p.minute from gone) ∙ is in absurd cc))
      (cases_lt p.minute end))
      (cases_lt p.minute piece.lo)

  left : (p : Position) → value_at (f ++ piece ∷ []) p.minute ≡ Some p.cost → (value_at new p.minute ≡ Some p.cost) ⊎ IsDominatedOrLate until pairs
      (Some bound) p
  left p is =
      ⊎_elim
      (λ (before : p.minute < piece.lo).
      ⊎_elim
      (λ (stays : value_at g p.minute ≡ Some p.cost). inl (put.front p.minute before ∙ stays))
      (λ (goes : IsDominatedOrLate until pairs (Some bound) p). inr goes)
      (old.left p (sym (early p.minute before) ∙ is)))
      (λ (from : piece.lo ≤ p.minute).
      ⊎_elim
      (λ (over : piece.hi < p.minute). (let none : None ≡ Some p.cost = sym (late p.minute from over) ∙ is in absurd cc))
      (λ (upto : p.minute ≤ piece.hi).
      let same : Some (line_at piece p.minute) ≡ Some p.cost = sym (here p.minute from upto) ∙ is in
      ⊎_elim
      (λ (within : p.minute < end). inl (put.part p.minute from within ∙ same))
      (λ (gone : end ≤ p.minute). inr (clear.after p from gone upto cc))
      (cases_lt p.minute end))
      (cases_lt piece.hi p.minute))
      (cases_lt p.minute piece.lo)

  pub pruned_more : IsPruned until pairs bound (value_at (f ++ piece ∷ [])) (value_at new)
  pruned_more = record { kept = kept; clear = undominated; left = left }

-- nothing of nothing is left
pub pruned_none : (until : ℕ) (pairs : List Pair) (bound : Bound) (g : List Piece) → ((t : ℕ) → value_at g t ≡ None)
    → IsPruned until pairs bound (value_at []) (value_at g)
pruned_none until pairs bound g none = record {
  kept = λ t x is. (let e : None ≡ Some x = sym (none t) ∙ is in absurd cc);
  clear = λ p is. (let e : None ≡ Some p.cost = sym (none p.minute) ∙ is in absurd cc);
  left = λ p is. (let e : None ≡ Some p.cost = sym (none_after [] p.minute (λ k d within. absurd (omega (arith, within)))) ∙ is in absurd cc);
}

-- the next of some pieces
module _ (until : ℕ) (pairs : List Pair) (bound : Bound) (xs g new : List Piece) (i end : ℕ) (none : Piece) (are : ArePieces xs) (short : i < length xs)
    (inv : IsPruned until pairs bound (value_at (take i xs)) (value_at g)) (ended : All (λ q. q.hi < (get_or xs i none).lo) g)
    (clear : IsClearUntil until pairs bound (get_or xs i none) end) (put : HasPrefix (get_or xs i none) end g new) where
  pub next_pruned : IsPruned until pairs bound (value_at (take (i + 1) xs)) (value_at new)
  next_pruned =
      subst (λ ps. IsPruned until pairs bound (value_at ps) (value_at new)) (sym (take_more xs i none short))
      (pruned_more until pairs bound (take i xs) g new (get_or xs i none) end
      (λ k d within.
      (let lt = length-take-le i xs (omega (arith, short)) in
      let far = are.apart k i d (omega (arith, within, lt)) short in
      let same = ap (λ (q : Piece). q.hi) (get_or-take i xs k d (omega (arith, within, lt))) in
      let here = ap (λ (q : Piece). q.lo) (get_or_default xs i d none short) in
      omega (arith, far, same, here)))
      ended inv clear put)

  pub next_ended : (d : Piece) → i + 1 < length xs → All (λ q. q.hi < (get_or xs (i + 1) d).lo) new
  next_ended d h k d' w =
      let here = put.ended k d' w in
      let next = are.apart i (i + 1) none (omega arith) h in
      let same = ap (λ (q : Piece). q.lo) (get_or_default xs (i + 1) none d h) in
      omega (arith, here, next, same)

-- the pairs that have arrived when a piece begins have done so when the next begins
pub next_arrived : (bound : Bound) (pairs : List Pair) (xs : List Piece) (i count : ℕ) (none d : Piece) → ArePieces xs → i + 1 < length xs
    → HaveArrived bound (get_or xs i none).lo pairs count → HaveArrived bound (get_or xs (i + 1) d).lo pairs count
next_arrived bound pairs xs i count none d are short before k e from lt =
    let far = are.apart i (i + 1) none (omega arith) short in
    let filled = (are.each i none (omega (arith, short))).filled in
    let same = ap (λ (q : Piece). q.lo) (get_or_default xs (i + 1) none d short) in
    let arrival = before k e from lt in
    omega (arith, far, filled, same, arrival)

-- a prefix of a piece that is put behind others
module _ (piece : Piece) (end : ℕ) (old : List Piece) (later : All (λ q. q.hi < piece.lo) old) where
  ended_by : (t : ℕ) → piece.lo ≤ t → All (λ q. q.hi < t) old
  ended_by t from k d within = let e = later k d within in omega (arith, e, from)

  pub put_none : piece.lo ≤ piece.hi → end ≤ piece.lo → HasPrefix piece end old old
  put_none filled none = record {
    front = λ t before. refl;
    part = λ t from before. absurd (omega (arith, none, from, before));
    rest = λ t from late. none_after old t (ended_by t from);
    ended = λ k d within. (let e = later k d within in omega (arith, e, filled));
  }

  pub put_some : (new : List Piece) (cut : Piece) → piece.lo < end → cut.lo ≡ piece.lo → cut.hi + 1 ≡ end
      → ((t : ℕ) → piece.lo ≤ t → t < end → line_at cut t ≡ line_at piece t)
      → ((t : ℕ) → value_at new t ≡ value_at (old ++ cut ∷ []) t) → All (λ q. q.hi ≤ piece.hi) new → HasPrefix piece end old new
  put_some new cut some lo hi line values ended = record {
    front = λ t before. values t ∙ value_front old cut t (has_not_before cut t (omega (arith, before, lo)));
    part = λ t from before. values t ∙ value_last old cut t (ended_by t from) (omega (arith, from, lo)) (omega (arith, before, hi))
        ∙ ap Some (line t from before);
    rest = λ t from late. values t ∙ value_front old cut t (has_not_after cut t (omega (arith, late, hi))) ∙ none_after old t (ended_by t from);
    ended = ended;
  }

-- a pruned function is built up to a minute
module _ (until : ℕ) (pairs : List Pair) (bound : Bound) (wanted : ℕ → Option ℕ) (g : List Piece) (from : ℕ)
    (old : IsPrunedUpTo until pairs bound wanted g from) where
  g_none : (t : ℕ) → from ≤ t → value_at g t ≡ None
  g_none t late = none_after g t (λ k d within. (let e = old.ended k d within in omega (arith, e, late)))

  pub pruned_skip : (to : ℕ) → from ≤ to → ((t : ℕ) → from ≤ t → t < to → wanted t ≡ None) → IsPrunedUpTo until pairs bound wanted g to
  pruned_skip to le gap = record {
    kept = λ t x soon is.
        ⊎_elim
        (λ (before : t < from). old.kept t x before is)
        (λ (late : from ≤ t). (let none : None ≡ Some x = sym (g_none t late) ∙ is in absurd cc))
        (cases_lt t from);
    clear = λ p soon is done.
        ⊎_elim
        (λ (before : p.minute < from). old.clear p before is done)
        (λ (late : from ≤ p.minute). (let none : None ≡ Some p.cost = sym (g_none p.minute late) ∙ is in absurd cc))
        (cases_lt p.minute from);
    left = λ p soon is.
        ⊎_elim
        (λ (before : p.minute < from). old.left p before is)
        (λ (late : from ≤ p.minute). (let none : None ≡ Some p.cost = sym (gap p.minute late soon) ∙ is in absurd cc))
        (cases_lt p.minute from);
    ended = λ k d within. (let e = old.ended k d within in omega (arith, e, le));
  }

  pub pruned_whole : ((t : ℕ) → from ≤ t → wanted t ≡ None) → IsPruned until pairs bound wanted (value_at g)
  pruned_whole none = record {
    kept = λ t x is.
        ⊎_elim
        (λ (before : t < from). old.kept t x before is)
        (λ (late : from ≤ t). (let clash : None ≡ Some x = sym (g_none t late) ∙ is in absurd cc))
        (cases_lt t from);
    clear = λ p is done.
        ⊎_elim
        (λ (before : p.minute < from). old.clear p before is done)
        (λ (late : from ≤ p.minute). (let clash : None ≡ Some p.cost = sym (g_none p.minute late) ∙ is in absurd cc))
        (cases_lt p.minute from);
    left = λ p is.
        ⊎_elim
        (λ (before : p.minute < from). old.left p before is)
        (λ (late : from ≤ p.minute). (let clash : None ≡ Some p.cost = sym (none p.minute late) ∙ is in absurd cc))
        (cases_lt p.minute from);
  }

-- what stays of a piece is added
pub pruned_part : (until : ℕ) (pairs : List Pair) (bound : Bound) (wanted : ℕ → Option ℕ) (g new : List Piece) (piece : Piece) (end : ℕ)
    → IsPrunedUpTo until pairs bound wanted g piece.lo → IsClearUntil until pairs bound piece end → HasPrefix piece end g new
    → ((t : ℕ) → piece.lo ≤ t → t ≤ piece.hi → wanted t ≡ Some (line_at piece t)) → IsPrunedUpTo until pairs bound wanted new (piece.hi + 1)
pruned_part until pairs bound wanted g new piece end old clear put is_line = record {
  kept = λ t x soon is.
      ⊎_elim
      (λ (before : t < piece.lo). old.kept t x before (sym (put.front t before) ∙ is))
      (λ (from : piece.lo ≤ t).
      ⊎_elim
      (λ (within : t < end). is_line t from (omega (arith, soon)) ∙ sym (put.part t from within) ∙ is)
      (λ (gone : end ≤ t). (let none : None ≡ Some x = sym (put.rest t from gone) ∙ is in absurd cc))
      (cases_lt t end))
      (cases_lt t piece.lo);
  clear = λ p soon is done.
      ⊎_elim
      (λ (before : p.minute < piece.lo). old.clear p before (sym (put.front p.minute before) ∙ is) done)
      (λ (from : piece.lo ≤ p.minute).
      ⊎_elim
      (λ (within : p.minute < end). (let same : Some (line_at piece p.minute) ≡ Some p.cost = sym (put.part p.minute from within) ∙ is in
      let cost : p.cost ≡ line_at piece p.minute = cc in
      clear.before p from within cost done))
      (λ (gone : end ≤ p.minute). (let none : None ≡ Some p.cost = sym (put.rest p.minute from gone) ∙ is in absurd cc))
      (cases_lt p.minute end))
      (cases_lt p.minute piece.lo);
  left = λ p soon is.
      ⊎_elim
      (λ (before : p.minute < piece.lo).
      ⊎_elim
      (λ (stays : value_at g p.minute ≡ Some p.cost). inl (put.front p.minute before ∙ stays))
      (λ (goes : IsDominatedOrLate until pairs (Some bound) p). inr goes)
      (old.left p before is))
      (λ (from : piece.lo ≤ p.minute).
      let same : Some (line_at piece p.minute) ≡ Some p.cost = sym (is_line p.minute from (omega (arith, soon))) ∙ is in
      ⊎_elim
      (λ (within : p.minute < end). inl (put.part p.minute from within ∙ same))
      (λ (gone : end ≤ p.minute). inr (clear.after p from gone (omega (arith, soon)) cc))
      (cases_lt p.minute end))
      (cases_lt p.minute piece.lo);
  ended = λ k d within. (let e = put.ended k d within in omega (arith, e));
}

-- nothing is built yet
pub pruned_nothing : (until : ℕ) (pairs : List Pair) (bound : Bound) (wanted : ℕ → Option ℕ) → IsPrunedUpTo until pairs bound wanted [] 0
pruned_nothing until pairs bound wanted = record {
  kept = λ t x soon is. absurd (omega (arith, soon));
  clear = λ p soon is done. absurd (omega (arith, soon));
  left = λ p soon is. absurd (omega (arith, soon));
  ended = λ k d within. absurd (omega (arith, within));
}

pub arrived_later : (bound : Bound) (pairs : List Pair) (count early late : ℕ) → early ≤ late → HaveArrived bound early pairs count
    → HaveArrived bound late pairs count
arrived_later bound pairs count early late le before k d from lt = let at = before k d from lt in omega (arith, at, le)

-- what has each value of another, and no other, is the same
same_option : (a b : Option ℕ) → ((x : ℕ) → a ≡ Some x → b ≡ Some x) → ((x : ℕ) → b ≡ Some x → a ≡ Some x) → a ≡ b
same_option None None there back = refl
same_option None (Some x) there back = back x refl
same_option (Some x) b there back = sym (there x refl)

-- for a goal that is here, with no pair and no time that is late, all stays
pub pruned_by_nothing : (f g : ℕ → Option ℕ) → ((t x : ℕ) → f t ≡ Some x → t ≤ LAST_INSTANT)
    → IsPruned LAST_INSTANT [] (record { minutes = 0; cost = 0 }) f g → (t : ℕ) → g t ≡ f t
pruned_by_nothing f g fits pruned t =
    same_option (g t) (f t) (pruned.kept t)
    (λ x is.
    let p : Position = record { node = 0; minute = t; cost = x } in
    ⊎_elim
    (λ (stays : g t ≡ Some x). stays)
    (λ (goes : IsDominatedOrLate LAST_INSTANT [] (Some (record { minutes = 0; cost = 0 })) p).
    ⊎_elim
    (λ (late : LAST_INSTANT < t + 0). absurd (let fit = fits t x is in omega (arith, late, fit)))
    (λ (one : HasPair [] (t + 0) (x + 0)). absurd (let found = one.is_one in omega (arith, found.1)))
    goes)
    (pruned.left p is))
