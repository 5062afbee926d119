-- The parts of equal lists, the first item of a list and the others as a slice pattern gives them, and two lists in order behind one another.
use Rattle.std.proofs.Common.{◌≡◌, ⊎_elim, ℕ, ◌-◌, ◌≤◌, ◌<◌, suc, List, [], ◌∷◌, ◌++◌, length, get_or, take, drop, All, AllPairs, refl, ap, sym, arith}
use Rattle.std.proofs.Common.{length-append}
use Rattle.std.proofs.lemmas.Bool.{cases_lt}
use Rattle.std.proofs.lemmas.List.{take_all, get_or_append_left, get_or-append_right}

-- equal lists have equal parts
pub same_head : {A : Type 0} {x y : A} {xs ys : List A} → x ∷ xs ≡ y ∷ ys → x ≡ y
same_head same = cc

pub same_tail : {A : Type 0} {x y : A} {xs ys : List A} → x ∷ xs ≡ y ∷ ys → xs ≡ ys
same_tail same = cc

pub first_and_rest : {X : Type 0} (xs : List X) (d : X) → 1 ≤ length xs → xs ≡ get_or xs 0 d ∷ take (length xs - 1) (drop 1 xs)
first_and_rest [] d some = absurd (omega (arith, some))
first_and_rest (x ∷ xs) d some = ap (λ ys. x ∷ ys) (sym (take_all (suc (length xs) - 1) xs (omega arith)))

-- pairs within each list, and each of the first with each of the second
pub pairs_append : {X : Type 0} (R : X → X → Type 0) (xs ys : List X) → AllPairs R xs → AllPairs R ys → All (λ y. All (λ x. R x y) xs) ys
    → AllPairs R (xs ++ ys)
pairs_append R xs ys first second across i j d lt within =
    let n : ℕ = length xs in
    let long = length-append xs ys in
    ⊎_elim
    (λ (left : j < n). rw (get_or_append_left xs ys d i (omega (arith, lt, left)), get_or_append_left xs ys d j left) (first i j d lt left))
    (λ (right : n ≤ j). ⊎_elim
    (λ (left : i < n).
    rw (get_or_append_left xs ys d i left, get_or-append_right xs ys n j d refl right) (across (j - n) d (omega (arith, within, long, right)) i d left))
    (λ (late : n ≤ i).
    rw (get_or-append_right xs ys n i d refl late, get_or-append_right xs ys n j d refl right)
    (second (i - n) (j - n) d (omega (arith, lt, late)) (omega (arith, within, long, right))))
    (cases_lt i n))
    (cases_lt j n)
