-- Lists that are in order and have the same items are one, where of two items at most one comes before the other.
use Rattle.std.proofs.Common.{◌≡◌, ◌⊎◌, inl, inr, ⊎_elim, zero, suc, List, [], ◌∷◌, refl, sym, ◌∙◌, subst, arith}
use Rattle.std.specs.Prelude.{AllPairs, Contains}
use Rattle.std.proofs.lemmas.Map.Made.{Contains-tail}

module _ {A : Type 0} (Before : A → A → Type 0) (never : (p q : A) → Before p q → Before q p → ⊥) where
  -- the first item of a list in order comes before all others
  first_before : (p : A) (ps : List A) → AllPairs Before (p ∷ ps) → (q : A) → Contains ps q → Before p q
  first_before p ps ordered q (k, within, is) = subst (λ (w : A). Before p w) is (ordered 0 (suc k) q (omega arith) (omega (arith, within)))

  least_first : (p : A) (ps : List A) → AllPairs Before (p ∷ ps) → (q : A) → Contains (p ∷ ps) q → (p ≡ q) ⊎ Before p q
  least_first p ps ordered q (zero, within, is) = inl is
  least_first p ps ordered q (suc k, within, is) = inr (first_before p ps ordered q (k, omega (arith, within), is))

  ordered_tail : (p : A) (ps : List A) → AllPairs Before (p ∷ ps) → AllPairs Before ps
  ordered_tail p ps ordered i j d less within = ordered (suc i) (suc j) d (omega (arith, less)) (omega (arith, within))

  one_more : (p : A) (ps : List A) (q : A) → Contains ps q → Contains (p ∷ ps) q
  one_more p ps q (k, within, is) = (suc k, omega (arith, within), is)

  first_is_in : (p : A) (ps : List A) → Contains (p ∷ ps) p
  first_is_in p ps = (0, omega arith, refl)

  -- lists in order that have the same items are one
  pub one_list : (ps qs : List A) → AllPairs Before ps → AllPairs Before qs → ((p : A) → Contains ps p → Contains qs p)
      → ((p : A) → Contains qs p → Contains ps p) → ps ≡ qs
  one_list [] [] order_p order_q there back = refl
  one_list [] (q ∷ qs) order_p order_q there back = let none = back q (first_is_in q qs) in absurd (omega (arith, none.1))
  one_list (p ∷ ps) [] order_p order_q there back = let none = there p (first_is_in p ps) in absurd (omega (arith, none.1))
  one_list (p ∷ ps) (q ∷ qs) order_p order_q there back =
      λ i. first i ∷ one_list ps qs (ordered_tail p ps order_p) (ordered_tail q qs order_q) later back_later i
    where
      first : p ≡ q
      first = ⊎_elim
          (λ (same : p ≡ q). same)
          (λ (before : Before p q). ⊎_elim
          (λ (same : q ≡ p). sym same)
          (λ (after : Before q p). absurd (never p q before after))
          (least_first q qs order_q p (there p (first_is_in p ps))))
          (least_first p ps order_p q (back q (first_is_in q qs)))

      -- an item behind another is not that one
      apart : (u : A) (us : List A) → AllPairs Before (u ∷ us) → (v : A) → Contains us v → u ≡ v → ⊥
      apart u us ordered v one same =
          let before : Before u v = first_before u us ordered v one in
          never u v before (subst (λ (w : A). Before v w) (sym same) (subst (λ (w : A). Before w v) same before))

      later : (v : A) → Contains ps v → Contains qs v
      later v one = Contains-tail q qs v (λ same. apart p ps order_p v one (first ∙ same)) (there v (one_more p ps v one))

      back_later : (v : A) → Contains qs v → Contains ps v
      back_later v one = Contains-tail p ps v (λ same. apart q qs order_q v one (sym first ∙ same)) (back v (one_more q qs v one))
