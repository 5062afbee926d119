-- Numbers by row and place, where a row is added, lengthened or written, and states that they number.
use Rattle.std.proofs.Common.{◌≡◌, ◌≢◌, ⊎_elim, ℕ, zero, suc, ◌+◌, ◌≤◌, ◌<◌, Some, List, [], ◌∷◌, ◌++◌, length, map, get_or, set, replicate, AllPairs}
use Rattle.std.proofs.Common.{refl, sym, ◌∙◌, ap, subst, arith}
use Rattle.std.specs.Prelude.{Contains}
use Rattle.std.proofs.lemmas.Bool.{cases_eq}
use Rattle.std.proofs.lemmas.List.{get_or-set_same, get_or-set_other, get_or-map, length-map, map-set, map-append}
use Rattle.route_base.specs.Net.{at_number}
use Rattle.route_base.proofs.Numbered.{number_within, no_number, at_number-next}
use Rattle.front_transport.proofs.Places.{at_left, at_either, at_last}
use Rattle.drive_states.specs.Inside.Numbering.{number_at, HasPlace, IsNumberSet, AreNumbered}
use Rattle.drive_states.specs.declared.rule.State.{State}
use Rattle.drive_states.proofs.SameStates.{same_state}

-- an empty row more
pub row_more : (rows : List (List ℕ)) (v : ℕ) → get_or (rows ++ [] ∷ []) v [] ≡ get_or rows v []
row_more [] zero = refl
row_more [] (suc v) = refl
row_more (row ∷ rows) zero = refl
row_more (row ∷ rows) (suc v) = row_more rows v

-- zeros behind a row
pub zeros : (n k : ℕ) → get_or (replicate n zero) k zero ≡ zero
zeros zero k = refl
zeros (suc n) zero = refl
zeros (suc n) (suc k) = zeros n k

pub zeros_behind : (row : List ℕ) (n k : ℕ) → get_or (row ++ replicate n zero) k zero ≡ get_or row k zero
zeros_behind [] n k = zeros n k
zeros_behind (x ∷ row) n zero = refl
zeros_behind (x ∷ row) n (suc k) = zeros_behind row n k

-- behind a row is 0
pub past_row : (row : List ℕ) (k : ℕ) → length row ≤ k → get_or row k 0 ≡ 0
past_row [] k past = refl
past_row (x ∷ row) zero past = absurd (omega (arith, past))
past_row (x ∷ row) (suc k) past = past_row row k (omega (arith, past))

-- behind the rows is none
pub past_rows : (rows : List (List ℕ)) (v : ℕ) → length rows ≤ v → get_or rows v [] ≡ []
past_rows [] v past = refl
past_rows (row ∷ rows) zero past = absurd (omega (arith, past))
past_rows (row ∷ rows) (suc v) past = past_rows rows v (omega (arith, past))

-- a row with the same numbers in the place of one
pub row_same : (rows : List (List ℕ)) (v : ℕ) (row : List ℕ) → v < length rows → ((k : ℕ) → get_or row k 0 ≡ get_or (get_or rows v []) k 0)
    → (w k : ℕ) → number_at (set rows v row) w k ≡ number_at rows w k
row_same rows v row within same w k = ⊎_elim
    (λ (here : w ≡ v). ap (λ (n : ℕ). get_or (get_or (set rows v row) n []) k 0) here
    ∙ ap (λ (xs : List ℕ). get_or xs k 0) (get_or-set_same rows v row [] within) ∙ same k
    ∙ ap (λ (n : ℕ). get_or (get_or rows n []) k 0) (sym here))
    (λ (other : w ≡ v → ⊥). ap (λ (xs : List ℕ). get_or xs k 0) (get_or-set_other rows v w row [] other))
    (cases_eq w v)

pub row_within : (rows : List (List ℕ)) (v k : ℕ) → HasPlace rows v k → v < length rows
row_within [] v k has = absurd (omega (arith, has))
row_within (row ∷ rows) zero k has = omega arith
row_within (row ∷ rows) (suc v) k has = omega (arith, row_within rows v k has)

-- one number is written
pub number_set : (rows : List (List ℕ)) (v k n : ℕ) → HasPlace rows v k → IsNumberSet rows (set rows v (set (get_or rows v []) k n)) v k n
number_set rows v k n has =
    let within = row_within rows v k has in
    record {
      here = ap (λ (xs : List ℕ). get_or xs k 0) (get_or-set_same rows v (set (get_or rows v []) k n) [] within)
          ∙ get_or-set_same (get_or rows v []) k n 0 has;
      others = λ w j other. ⊎_elim
          (λ (here : w ≡ v). ap (λ (m : ℕ). get_or (get_or (set rows v (set (get_or rows v []) k n)) m []) j 0) here
          ∙ ap (λ (xs : List ℕ). get_or xs j 0) (get_or-set_same rows v (set (get_or rows v []) k n) [] within)
          ∙ get_or-set_other (get_or rows v []) k j n 0 (λ is. other (here, is))
          ∙ ap (λ (m : ℕ). get_or (get_or rows m []) j 0) (sym here))
          (λ (there : w ≡ v → ⊥). ap (λ (xs : List ℕ). get_or xs j 0) (get_or-set_other rows v w (set (get_or rows v []) k n) [] there))
          (cases_eq w v);
    }

-- no state is numbered
pub none_numbered : AreNumbered [] []
none_numbered = record {
  each = λ i st is. absurd (no_number i st is);
  only = λ i st is. absurd (omega (arith, is));
}

-- rows with the same numbers number the same states
pub same_numbered : (rows more : List (List ℕ)) (states : List State) → AreNumbered rows states
    → ((v k : ℕ) → number_at more v k ≡ number_at rows v k) → AreNumbered more states
same_numbered rows more states are same = record {
  each = λ i st is. same st.node.0 st.driven ∙ are.each i st is;
  only = λ i st is. are.only i st (sym (same st.node.0 st.driven) ∙ is);
}

-- a state more is numbered
pub numbered_more : (rows more : List (List ℕ)) (states : List State) (state : State) (n : ℕ) → AreNumbered rows states
    → number_at rows state.node.0 state.driven ≡ 0 → n ≡ length states + 1 → IsNumberSet rows more state.node.0 state.driven n
    → AreNumbered more (states ++ state ∷ [])
numbered_more rows more states state n are new number is_set = record {
  each = λ i st is. ⊎_elim
      (λ (old : at_number states i ≡ Some st). is_set.others st.node.0 st.driven (λ same. (let own = are.each i st old in
      let zero_is : number_at rows st.node.0 st.driven ≡ 0 =
      ap (λ (v : ℕ). number_at rows v st.driven) same.0 ∙ ap (λ (k : ℕ). number_at rows state.node.0 k) same.1 ∙ new in
      omega (arith, own, zero_is, (number_within states i st old).0))) ∙ are.each i st old)
      (λ (last : (i ≡ length states + 1) × (state ≡ st)).
      ap (λ (w : State). number_at more w.node.0 w.driven) (sym last.1) ∙ is_set.here ∙ number ∙ sym last.0)
      (at_either states state i st is);
  only = λ i st is. ⊎_elim
      (λ (same_node : st.node.0 ≡ state.node.0). ⊎_elim
      (λ (same_driven : st.driven ≡ state.driven).
      (let here : suc i ≡ length states + 1 = sym is ∙ ap (λ (v : ℕ). number_at more v st.driven) same_node
      ∙ ap (λ (k : ℕ). number_at more state.node.0 k) same_driven ∙ is_set.here ∙ number in
      ap (at_number (states ++ state ∷ [])) here ∙ at_last states state ∙ ap (λ (w : State). Some w) (sym (same_state st state same_node same_driven))))
      (λ (other : st.driven ≡ state.driven → ⊥).
      at_left states (state ∷ []) (suc i) st (are.only i st (sym (is_set.others st.node.0 st.driven (λ same. other same.1)) ∙ is)))
      (cases_eq st.driven state.driven))
      (λ (other : st.node.0 ≡ state.node.0 → ⊥).
      at_left states (state ∷ []) (suc i) st (are.only i st (sym (is_set.others st.node.0 st.driven (λ same. other same.0)) ∙ is)))
      (cases_eq st.node.0 state.node.0);
}

-- the state of a number other than 0
pub state_numbered : (rows : List (List ℕ)) (states : List State) (st : State) (n : ℕ) → AreNumbered rows states → n ≡ number_at rows st.node.0 st.driven
    → 0 < n → at_number states n ≡ Some st
state_numbered rows states st zero are is some = absurd (omega (arith, some))
state_numbered rows states st (suc i) are is some = are.only i st (sym is)

-- a state whose number is 0 isn't among them
pub not_numbered : (rows : List (List ℕ)) (states : List State) (st : State) → AreNumbered rows states → number_at rows st.node.0 st.driven ≡ 0
    → Contains states st → ⊥
not_numbered rows states st are none one =
    let own = are.each (one.0 + 1) st (at_number-next states one.0 st one.1 ∙ ap (λ (w : State). Some w) one.2) in
    omega (arith, own, none)

-- numbered states differ
pub numbered_distinct : (rows : List (List ℕ)) (states : List State) → AreNumbered rows states → AllPairs (λ x y. x ≢ y) states
numbered_distinct rows states are i j d before within same =
    let first = are.each (i + 1) _ (at_number-next states i d (omega (arith, before, within))) in
    let second = are.each (j + 1) _ (at_number-next states j d within) in
    omega (arith, before, first, second, ap (λ (w : State). number_at rows w.node.0 w.driven) same)

-- a row without numbers more, and rows of which one is another
module _ {A : Type 0} (f : A → List ℕ) where
  pub rows_more : (rows more : List A) (row : A) → more ≡ rows ++ row ∷ [] → f row ≡ [] → (v k : ℕ)
      → number_at (map f more) v k ≡ number_at (map f rows) v k
  rows_more rows more row is empty v k =
      ap (λ (w : List A). number_at (map f w) v k) is
      ∙ ap (λ (w : List (List ℕ)). number_at w v k) (map-append f rows (row ∷ []))
      ∙ ap (λ (x : List ℕ). number_at (map f rows ++ x ∷ []) v k) empty
      ∙ ap (λ (x : List ℕ). get_or x k 0) (row_more (map f rows) v)

  -- a place among the values of rows is one among the rows
  pub among_rows : (rows : List A) (v : ℕ) (values : List (List ℕ)) → map f rows ≡ values → v < length values → v < length rows
  among_rows rows v values is within = omega (arith, within, ap (λ (w : List (List ℕ)). length w) is, length-map rows f)

  pub rows_same : (rows : List A) (v : ℕ) (row old : A) → v < length rows → get_or rows v old ≡ old
      → ((k : ℕ) → get_or (f row) k 0 ≡ get_or (f old) k 0) → (w k : ℕ) → number_at (map f (set rows v row)) w k ≡ number_at (map f rows) w k
  rows_same rows v row old within is same w k =
      ap (λ (x : List (List ℕ)). number_at x w k) (map-set f rows v row)
      ∙ row_same (map f rows) v (f row) (omega (arith, within, length-map rows f))
      (λ j. same j ∙ ap (λ (x : List ℕ). get_or x j 0) (ap f (sym is) ∙ sym (get_or-map f rows v old [] within))) w k

  pub has_place : (rows : List A) (v k : ℕ) (row : A) → v < length rows → k < length (f row) → HasPlace (map f (set rows v row)) v k
  has_place rows v k row within inside =
      subst (λ (x : List ℕ). k < length x)
      (sym (ap (λ (x : List (List ℕ)). get_or x v []) (map-set f rows v row)
      ∙ get_or-set_same (map f rows) v (f row) [] (omega (arith, within, length-map rows f)))) inside

  pub rows_set : (rows : List A) (v k n : ℕ) (row old : A) → HasPlace (map f rows) v k → get_or rows v old ≡ old → f row ≡ set (f old) k n
      → IsNumberSet (map f rows) (map f (set rows v row)) v k n
  rows_set rows v k n row old has is made =
      let within : v < length rows = omega (arith, row_within (map f rows) v k has, length-map rows f) in
      let was : f old ≡ get_or (map f rows) v [] = ap f (sym is) ∙ sym (get_or-map f rows v old [] within) in
      subst (λ (x : List (List ℕ)). IsNumberSet (map f rows) x v k n)
      (ap (λ (x : List ℕ). set (map f rows) v x) (ap (λ (x : List ℕ). set x k n) (sym was) ∙ sym made) ∙ sym (map-set f rows v row))
      (number_set (map f rows) v k n has)

  -- a row is replaced
  pub row_here : (rows : List A) (v : ℕ) (row old : A) → v < length rows → get_or rows v old ≡ old → (P : List ℕ → List ℕ → Type 0) (was : List ℕ)
      → get_or (map f rows) v [] ≡ was → P (f old) (f row) → P was (get_or (map f (set rows v row)) v [])
  row_here rows v row old within is P was same holds =
      subst (λ (w : List ℕ). P was w)
      (sym (ap (λ (x : List (List ℕ)). get_or x v []) (map-set f rows v row)
      ∙ get_or-set_same (map f rows) v (f row) [] (omega (arith, within, length-map rows f))))
      (subst (λ (w : List ℕ). P w (f row)) (sym (ap f is) ∙ sym (get_or-map f rows v old [] within) ∙ same) holds)

  pub row_there : (rows : List A) (v u : ℕ) (row : A) → (u ≡ v → ⊥) → get_or (map f (set rows v row)) u [] ≡ get_or (map f rows) u []
  row_there rows v u row other = ap (λ (x : List (List ℕ)). get_or x u []) (map-set f rows v row) ∙ get_or-set_other (map f rows) v u (f row) [] other
