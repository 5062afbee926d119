-- Costs without the pieces that are above a bar.
use Rattle.std.proofs.Common.{◌≡◌, ◌⊎◌, inl, inr, ⊎_elim, ℕ, suc, ◌+◌, ◌-◌, ◌≤◌, ◌<◌, Option, Some, None, List, [], ◌∷◌, ◌++◌, length, refl, sym, ◌∙◌, ap, subst, arith}
use Rattle.std.specs.Prelude.{All}
use Rattle.std.proofs.lemmas.Bool.{cases_lt}
use Rattle.std.proofs.lemmas.List.Elements.{All-head, All-tail}
use Rattle.std.proofs.lemmas.Option.{same_Some}
use Rattle.cost_functions.specs.Lines.{line_at, IsPiece, IsSmallPiece}
use Rattle.cost_functions.specs.Pieces.{value_at, ArePieces, AreSmallPieces}
use Rattle.cost_functions.specs.declared.pieces.Piece.{Piece}
use Rattle.cost_functions.proofs.Values.{pieces_tail, rising_head, none_after, none_behind, value_after, value_before, value_front, value_here, value_last, has_not_after, has_not_before}
use Rattle.ruled_search.specs.Inside.Charges.{charged}
use Rattle.ruled_search.specs.Inside.Surpassing.{IsLeftBelow}

pub none_left : (xs : List Piece) → length xs < 1 → xs ≡ []
none_left [] few = refl
none_left (x ∷ xs) few = absurd (omega (arith, few))

-- no value is before the first piece
pub since_first : (p : Piece) (rest : List Piece) (t x : ℕ) → ArePieces (p ∷ rest) → value_at (p ∷ rest) t ≡ Some x → p.lo ≤ t
since_first p rest t x are is = ⊎_elim
    (λ (early : t < p.lo).
    let filled = (All-head IsPiece p rest are.each).filled in
    let bad : None ≡ Some x = sym (none_behind p rest t are (omega (arith, early, filled))) ∙ (sym (value_before p rest t early) ∙ is) in cc)
    (λ (begun : p.lo ≤ t). begun)
    (cases_lt t p.lo)

module _ (price until added bar : ℕ) (pieces : List Piece) where
  -- a cost is above the bar
  abbrev pub IsAbove : ℕ → ℕ → Type 0
  IsAbove t x = (t ≤ until) × (bar < charged price until t x + added)

  -- each cost is built, or above the bar, or still left
  pub record AreSorted (built left : List Piece) : Type 0 where
    pub are : ArePieces left
    pub small : AreSmallPieces left
    pub kept : (t x : ℕ) → value_at built t ≡ Some x → value_at pieces t ≡ Some x
    pub from : (t x : ℕ) → value_at left t ≡ Some x → value_at pieces t ≡ Some x
    pub sorted : (t x : ℕ) → value_at pieces t ≡ Some x → (value_at left t ≡ Some x) ⊎ ((value_at built t ≡ Some x) ⊎ IsAbove t x)
    pub apart : All (λ p. All (λ q. q.hi < p.lo) built) left

  pub at_first : ArePieces pieces → AreSmallPieces pieces → AreSorted [] pieces
  at_first are small = record {
    are = are;
    small = small;
    kept = λ t x is. (let bad : None ≡ Some x = sym (none_after [] t (λ k d within. absurd (omega (arith, within)))) ∙ is in cc);
    from = λ t x is. is;
    sorted = λ t x is. inl is;
    apart = λ i d within k e none. absurd (omega (arith, none));
  }

  pub at_last : (built : List Piece) → AreSorted built [] → IsLeftBelow price until added bar (value_at pieces) (value_at built)
  at_last built all = record {
    kept = all.kept;
    dropped = λ t x is. ⊎_elim
        (λ (none : value_at [] t ≡ Some x). let bad : None ≡ Some x = sym (none_after [] t (λ k d within. absurd (omega (arith, within)))) ∙ none in cc)
        (λ (done : (value_at built t ≡ Some x) ⊎ IsAbove t x). done)
        (all.sorted t x is);
  }

  module _ (built : List Piece) (p : Piece) (rest : List Piece) (all : AreSorted built (p ∷ rest)) where
    -- a minute is on the piece, and its cost that of the piece, or it is left by the rest as before
    where_is : (t x : ℕ) → value_at (p ∷ rest) t ≡ Some x → ((p.lo ≤ t) × (t ≤ p.hi) × (x ≡ line_at p t)) ⊎ (value_at rest t ≡ Some x)
    where_is t x is = ⊎_elim
        (λ (early : t < p.lo). inr (sym (value_before p rest t early) ∙ is))
        (λ (begun : p.lo ≤ t). ⊎_elim
        (λ (late : p.hi < t). inr (sym (value_after p rest t late) ∙ is))
        (λ (within : t ≤ p.hi). inl (begun, within, same_Some x (line_at p t) (sym is ∙ value_here p rest t begun within)))
        (cases_lt p.hi t))
        (cases_lt t p.lo)

    rest_left : (t x : ℕ) → value_at rest t ≡ Some x → value_at (p ∷ rest) t ≡ Some x
    rest_left t x is = ⊎_elim
        (λ (late : p.hi < t). value_after p rest t late ∙ is)
        (λ (within : t ≤ p.hi). let bad : None ≡ Some x = sym (none_behind p rest t all.are within) ∙ is in cc)
        (cases_lt p.hi t)

    pub dropped : ((t : ℕ) → p.lo ≤ t → t ≤ p.hi → IsAbove t (line_at p t)) → AreSorted built rest
    dropped above = record {
      are = pieces_tail p rest all.are;
      small = All-tail IsSmallPiece p rest all.small;
      kept = all.kept;
      from = λ t x is. all.from t x (rest_left t x is);
      sorted = λ t x is. ⊎_elim
          (λ (l : value_at (p ∷ rest) t ≡ Some x). ⊎_elim
          (λ (here : (p.lo ≤ t) × (t ≤ p.hi) × (x ≡ line_at p t)). inr (inr (subst (λ y. IsAbove t y) (sym here.2) (above t here.0 here.1))))
          (λ (there : value_at rest t ≡ Some x). inl there)
          (where_is t x l))
          (λ (done : (value_at built t ≡ Some x) ⊎ IsAbove t x). inr done)
          (all.sorted t x is);
      apart = All-tail (λ r. All (λ q. q.hi < r.lo) built) p rest all.apart;
    }

    module _ (new : List Piece) (values : (t : ℕ) → value_at new t ≡ value_at (built ++ p ∷ []) t) (ended : All (λ q. q.hi ≤ p.hi) new) where
      before : All (λ q. q.hi < p.lo) built
      before = All-head (λ r. All (λ q. q.hi < r.lo) built) p rest all.apart

      on_it : (t : ℕ) → p.lo ≤ t → t ≤ p.hi → value_at new t ≡ Some (line_at p t)
      on_it t begun within = values t ∙ value_last built p t (λ k d in_it. (let b = before k d in_it in omega (arith, b, begun))) begun within

      off_it : (t x : ℕ) → value_at built t ≡ Some x → value_at new t ≡ Some x
      off_it t x is = ⊎_elim
          (λ (early : t < p.lo). values t ∙ value_front built p t (has_not_before p t early) ∙ is)
          (λ (begun : p.lo ≤ t).
          let bad : None ≡ Some x = sym (none_after built t (λ k d in_it. (let b = before k d in_it in omega (arith, b, begun)))) ∙ is in cc)
          (cases_lt t p.lo)

      new_kept : (t x : ℕ) → value_at new t ≡ Some x → value_at pieces t ≡ Some x
      new_kept t x is = ⊎_elim
          (λ (early : t < p.lo). all.kept t x (sym (values t ∙ value_front built p t (has_not_before p t early)) ∙ is))
          (λ (begun : p.lo ≤ t). ⊎_elim
          (λ (late : p.hi < t). all.kept t x (sym (values t ∙ value_front built p t (has_not_after p t late)) ∙ is))
          (λ (within : t ≤ p.hi). all.from t x (value_here p rest t begun within ∙ sym (on_it t begun within) ∙ is))
          (cases_lt p.hi t))
          (cases_lt t p.lo)

      pub pushed : AreSorted new rest
      pushed = record {
        are = pieces_tail p rest all.are;
        small = All-tail IsSmallPiece p rest all.small;
        kept = new_kept;
        from = λ t x is. all.from t x (rest_left t x is);
        sorted = λ t x is. ⊎_elim
            (λ (l : value_at (p ∷ rest) t ≡ Some x). ⊎_elim
            (λ (here : (p.lo ≤ t) × (t ≤ p.hi) × (x ≡ line_at p t)). inr (inl (on_it t here.0 here.1 ∙ ap (λ (y : ℕ). Some y) (sym here.2))))
            (λ (there : value_at rest t ≡ Some x). inl there)
            (where_is t x l))
            (λ (done : (value_at built t ≡ Some x) ⊎ IsAbove t x). inr (⊎_elim
            (λ (b : value_at built t ≡ Some x). inl (off_it t x b))
            (λ (a : IsAbove t x). inr a)
            done))
            (all.sorted t x is);
        apart = λ i d within k e in_new. (let far = rising_head p rest all.are i d within in let near = ended k e in_new in omega (arith, far, near));
      }
