-- A state more in the table.
use Rattle.std.proofs.Common.{◌≡◌, ◌⊎◌, inl, inr, ⊎_elim, ℕ, zero, suc, ◌+◌, Some, None, List, [], ◌∷◌, ◌++◌, length, refl, sym, ◌∙◌, ap, subst, arith}
use Rattle.std.specs.Prelude.{Contains}
use Rattle.std.proofs.lemmas.Bool.{cases_eq}
use Rattle.std.proofs.lemmas.Option.{same_Some, slice_get_within}
use Rattle.std.proofs.lemmas.List.Elements.{Contains-push, Contains-push_cases, Contains-append_left}
use Rattle.route_base.specs.Net.{at_number}
use Rattle.route_base.proofs.Items.{slice_get-append_left, slice_get-push_end}
use Rattle.ruled_states.specs.Inside.Tables.{IsStateOf, ArePlacesOf, IsTable, row_at}
use Rattle.ruled_states.specs.declared.table.Info.{Info}
use Rattle.ruled_states.specs.declared.table.Place.{Place}

-- a state before the new one, or the new one
at_push : (infos : List Info) (i j : Info) (n : ℕ) → at_number (infos ++ i ∷ []) n ≡ Some j
    → (at_number infos n ≡ Some j) ⊎ ((n ≡ length infos + 1) × (i ≡ j))
at_push infos i j zero is = let bad : None ≡ Some j = is in cc
at_push [] i j (suc zero) is = inr (refl, same_Some i j is)
at_push [] i j (suc (suc n)) is = let bad : None ≡ Some j = is in cc
at_push (x ∷ xs) i j (suc zero) is = inl is
at_push (x ∷ xs) i j (suc (suc n)) is = ⊎_elim
    (λ (old : at_number xs (suc n) ≡ Some j). inl old)
    (λ (new : (suc n ≡ length xs + 1) × (i ≡ j)). inr (omega (arith, new.0), new.1))
    (at_push xs i j (suc n) is)

at_old : (infos : List Info) (i j : Info) (n : ℕ) → at_number infos n ≡ Some j → at_number (infos ++ i ∷ []) n ≡ Some j
at_old infos i j zero is = let bad : None ≡ Some j = is in cc
at_old infos i j (suc n) is = slice_get-append_left infos (i ∷ []) n (slice_get_within infos n j is) ∙ is

at_new : (infos : List Info) (i : Info) → at_number (infos ++ i ∷ []) (length infos + 1) ≡ Some i
at_new infos i =
    let next : length infos + 1 ≡ suc (length infos) = omega arith in
    ap (at_number (infos ++ i ∷ [])) next ∙ slice_get-push_end infos i

module _ (infos : List Info) (rows after : List (List Place)) (i : Info) (table : IsTable infos rows)
    (fresh : (n : ℕ) → IsStateOf infos i.node.0 i.state n → ⊥)
    (here : row_at after i.node.0 ≡ row_at rows i.node.0 ++ record { state = i.state; number = length infos + 1 } ∷ [])
    (others : (v : ℕ) → (v ≡ i.node.0 → ⊥) → row_at after v ≡ row_at rows v) where
  own : Place
  own = record { state = i.state; number = length infos + 1 }

  still : (v k n : ℕ) → IsStateOf infos v k n → IsStateOf (infos ++ i ∷ []) v k n
  still v k n is = record { info = is.info; at = at_old infos i is.info n is.at; node = is.node; state = is.state }

  newest : IsStateOf (infos ++ i ∷ []) i.node.0 i.state (length infos + 1)
  newest = record { info = i; at = at_new infos i; node = refl; state = refl }

  -- each state is an old one, or the new one
  either : (v k n : ℕ) → IsStateOf (infos ++ i ∷ []) v k n → IsStateOf infos v k n ⊎ ((n ≡ length infos + 1) × (i.node.0 ≡ v) × (i.state ≡ k))
  either v k n is = ⊎_elim
      (λ (old : at_number infos n ≡ Some is.info). inl (record { info = is.info; at = old; node = is.node; state = is.state }))
      (λ (new : (n ≡ length infos + 1) × (i ≡ is.info)).
      inr (new.0, ap (λ (w : Info). w.node.0) new.1 ∙ is.node, ap (λ (w : Info). w.state) new.1 ∙ is.state))
      (at_push infos i is.info n is.at)

  at_node : ArePlacesOf (infos ++ i ∷ []) i.node.0 (row_at rows i.node.0 ++ record { state = i.state; number = length infos + 1 } ∷ [])
  unfolding own
  at_node =
      let old = table.places i.node.0 in
      record {
        sound = λ p one. ⊎_elim
            (λ (was : Contains (row_at rows i.node.0) p). still i.node.0 p.state p.number (old.sound p was))
            (λ (is : own ≡ p). subst (λ (w : Place). IsStateOf (infos ++ i ∷ []) i.node.0 w.state w.number) is newest)
            (Contains-push_cases (row_at rows i.node.0) own p one);
        full = λ k n is. ⊎_elim
            (λ (was : IsStateOf infos i.node.0 k n). let p = old.full k n was in
            (p.0, Contains-append_left (row_at rows i.node.0) (own ∷ []) p.0 p.1, p.2, p.3))
            (λ (new : (n ≡ length infos + 1) × (i.node.0 ≡ i.node.0) × (i.state ≡ k)).
            (own, Contains-push (row_at rows i.node.0) own, new.2, sym new.0))
            (either i.node.0 k n is);
      }

  at_other : (v : ℕ) → (v ≡ i.node.0 → ⊥) → ArePlacesOf (infos ++ i ∷ []) v (row_at rows v)
  at_other v other =
      let old = table.places v in
      record {
        sound = λ p one. still v p.state p.number (old.sound p one);
        full = λ k n is. ⊎_elim
            (λ (was : IsStateOf infos v k n). old.full k n was)
            (λ (new : (n ≡ length infos + 1) × (i.node.0 ≡ v) × (i.state ≡ k)). absurd (other (sym new.1)))
            (either v k n is);
      }

  pub added : IsTable (infos ++ i ∷ []) after
  added = record {
    places = λ v. ⊎_elim
        (λ (same : v ≡ i.node.0). subst (λ n. ArePlacesOf (infos ++ i ∷ []) n (row_at after n)) (sym same)
        (subst (ArePlacesOf (infos ++ i ∷ []) i.node.0) (sym here) at_node))
        (λ (other : v ≡ i.node.0 → ⊥). subst (ArePlacesOf (infos ++ i ∷ []) v) (sym (others v other)) (at_other v other))
        (cases_eq v i.node.0);
    distinct = λ v k n m one two. ⊎_elim
        (λ (a : IsStateOf infos v k n). ⊎_elim
        (λ (b : IsStateOf infos v k m). table.distinct v k n m a b)
        (λ (b : (m ≡ length infos + 1) × (i.node.0 ≡ v) × (i.state ≡ k)). absurd (clash v k n b.1 b.2 a))
        (either v k m two))
        (λ (a : (n ≡ length infos + 1) × (i.node.0 ≡ v) × (i.state ≡ k)). ⊎_elim
        (λ (b : IsStateOf infos v k m). absurd (clash v k m a.1 a.2 b))
        (λ (b : (m ≡ length infos + 1) × (i.node.0 ≡ v) × (i.state ≡ k)). a.0 ∙ sym b.0)
        (either v k m two))
        (either v k n one);
  }
    where
      clash : (v k n : ℕ) → i.node.0 ≡ v → i.state ≡ k → IsStateOf infos v k n → ⊥
      clash v k n node state is = fresh n (record { info = is.info; at = is.at; node = is.node ∙ sym node; state = is.state ∙ sym state })
