-- The numbers of states by their codes.
use Rattle.std.proofs.Common.{◌≡◌, ℕ, zero, suc, ◌/◌, ◌%◌, ◌<◌, eqb, Bool, true, false, Some, None, List, [], ◌∷◌, refl, sym, ◌∙◌, ap, arith}
use Rattle.std.specs.Prelude.{if◌then◌else◌}
use Rattle.std.proofs.lemmas.Bool.{eqb-true, eq-eqb, false≢true}
use Rattle.std.proofs.lemmas.Nat.{div-mul-add, mod-mul-add}
use Rattle.std.proofs.lemmas.Option.{same_Some}
use Rattle.route_base.specs.Net.{at_number}
use Rattle.cost_functions.specs.declared.pieces.Piece.{Piece}
use Rattle.propagation.specs.Found.{cost_at}
use Rattle.state_dominance.specs.Inside.Product.{code}
use Rattle.ruled_states.specs.Inside.Codes.{base, HaveSmallNodes}
use Rattle.ruled_states.specs.Inside.Tables.{IsStateOf, code_of, next_number, number_in}
use Rattle.ruled_states.specs.declared.table.Info.{Info}

next_is : (n m : ℕ) → next_number n ≡ suc m → (k : ℕ) × (n ≡ suc k) × (m ≡ suc k)
next_is zero m is = absurd (omega (arith, is))
next_is (suc k) m is = (k, refl, omega (arith, is))

-- the number is that of a state with the code
pub number_is : (infos : List Info) (c m : ℕ) → number_in infos c ≡ suc m → (i : Info) × (at_number infos (suc m) ≡ Some i) × (code_of i ≡ c)
number_is [] c m is = absurd (omega (arith, is))
number_is (i ∷ is) c m at = by (λ k there. number_is is c k there) (eqb (code_of i) c) refl at
  where
    by : ((k : ℕ) → number_in is c ≡ suc k → (j : Info) × (at_number is (suc k) ≡ Some j) × (code_of j ≡ c)) → (b : Bool) → eqb (code_of i) c ≡ b
        → (if b then 1 else next_number (number_in is c)) ≡ suc m → (j : Info) × (at_number (i ∷ is) (suc m) ≡ Some j) × (code_of j ≡ c)
    by more true same at =
        let first : m ≡ 0 = omega (arith, at) in
        (i, ap (λ n. at_number (i ∷ is) (suc n)) first, eqb-true (code_of i) c same)
    by more false other at =
        let k = next_is (number_in is c) m at in
        let rest = more k.0 k.1 in
        (rest.0, ap (λ n. at_number (i ∷ is) (suc n)) k.2 ∙ rest.1, rest.2)

-- a state that is there has a number
pub has_number : (infos : List Info) (n : ℕ) (i : Info) → at_number infos n ≡ Some i → (m : ℕ) × (number_in infos (code_of i) ≡ suc m)
has_number infos zero i at = let bad : None ≡ Some i = at in cc
has_number [] (suc n) i at = let bad : None ≡ Some i = at in cc
has_number (x ∷ xs) (suc n) i at = by (λ k there. has_number xs (suc k) i there) (eqb (code_of x) (code_of i)) refl
  where
    rest : ((k : ℕ) → at_number xs (suc k) ≡ Some i → (m : ℕ) × (number_in xs (code_of i) ≡ suc m))
        → (k : ℕ) → at_number (x ∷ xs) (suc k) ≡ Some i → eqb (code_of x) (code_of i) ≡ false → (m : ℕ) × (number_in xs (code_of i) ≡ suc m)
    rest more zero at other = absurd (false≢true (sym other ∙ eq-eqb (code_of x) (code_of i) (ap code_of (same_Some x i at))))
    rest more (suc k) at other = more k at

    by : ((k : ℕ) → at_number xs (suc k) ≡ Some i → (m : ℕ) × (number_in xs (code_of i) ≡ suc m)) → (b : Bool) → eqb (code_of x) (code_of i) ≡ b → (m : ℕ) × ((if b then 1 else next_number (number_in xs (code_of i))) ≡ suc m)
    by more true same = (0, refl)
    by more false other = let r = rest more n at other in (suc r.0, ap next_number r.1)

-- nothing has number 0
none_at_zero : (functions : List (List Piece)) (n t y : ℕ) → n ≡ 0 → cost_at functions n t ≡ Some y → ⊥
none_at_zero functions n t y is at = let bad : None ≡ Some y = ap (λ m. cost_at functions m t) (sym is) ∙ at in cc

module _ (infos : List Info) (small : HaveSmallNodes infos) where
  -- the number of a state by its code
  pub number_of_code : ((v k n m : ℕ) → IsStateOf infos v k n → IsStateOf infos v k m → n ≡ m) → (v j n : ℕ) → v < base → IsStateOf infos v j n
      → number_in infos (code base v j) ≡ n
  number_of_code distinct v j n node is =
      let own : code_of is.info ≡ code base v j = ap (λ w. code base w is.info.state) is.node ∙ ap (λ w. code base v w) is.state in
      let m = has_number infos n is.info is.at in
      let same : number_in infos (code base v j) ≡ suc m.0 = ap (number_in infos) (sym own) ∙ m.1 in
      let first = number_is infos (code base v j) m.0 same in
      let small_first = small (suc m.0) first.0 first.1 in
      let at_first : IsStateOf infos v j (suc m.0) = record {
        info = first.0;
        at = first.1;
        node = sym (mod-mul-add first.0.state base first.0.node.0 small_first) ∙ ap (λ n. n % base) first.2 ∙ mod-mul-add j base v node;
        state = sym (div-mul-add first.0.state base first.0.node.0 small_first) ∙ ap (λ n. n / base) first.2 ∙ div-mul-add j base v node;
      } in
      same ∙ distinct v j (suc m.0) n at_first is

  -- a state with a code of a node that has a cost
  pub state_at : (v : ℕ) (functions : List (List Piece)) (c t y m : ℕ) → number_in infos c ≡ m → cost_at functions (number_in infos c) t ≡ Some y → c % base ≡ v
      → IsStateOf infos v (c / base) (number_in infos c)
  state_at v functions c t y zero is at same = absurd (none_at_zero functions (number_in infos c) t y is at)
  state_at v functions c t y (suc m) is at same =
      let i = number_is infos c m is in
      let low = small (suc m) i.0 i.1 in
      record {
        info = i.0;
        at = ap (at_number infos) is ∙ i.1;
        node = sym (mod-mul-add i.0.state base i.0.node.0 low) ∙ ap (λ n. n % base) i.2 ∙ same;
        state = sym (div-mul-add i.0.state base i.0.node.0 low) ∙ ap (λ n. n / base) i.2;
      }

-- a code with the number of a state is the code of that state
pub code_with : (infos : List Info) (c n : ℕ) (i : Info) → at_number infos n ≡ Some i → number_in infos c ≡ n → c ≡ code_of i
code_with infos c zero i at is = let bad : None ≡ Some i = at in cc
code_with infos c (suc m) i at is = let j = number_is infos c m is in sym j.2 ∙ ap code_of (same_Some j.0 i (sym j.1 ∙ at))
