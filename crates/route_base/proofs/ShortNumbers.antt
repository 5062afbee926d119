-- How large a number of few digits is.
use Rattle.std.proofs.Common.{◌≡◌, ℕ, ◌+◌, ◌-◌, ◌*◌, ◌≤◌, ◌&&◌, leb, None, List, [], ◌∷◌, length}
use Rattle.std.proofs.Common.{IfSome, refl, arith}
use Rattle.std.proofs.lemmas.Bool.{leb-true, and_parts}
use Rattle.route_base.specs.Digits.{digits_from, number_of}
use Rattle.route_base.specs.Forms.{short_number_of, thousandths_in}
use Rattle.route_base.proofs.Logic.{when_true}

one_more : (P : ℕ → Type 0) (n m b : ℕ) (bs : List ℕ) → n ≤ m → ((k : ℕ) → k ≤ 10 * m + 9 → IfSome (digits_from k bs) P) → IfSome
    (digits_from n (b ∷ bs)) P
one_more P n m b bs small rest =
    when_true P (leb 48 b && leb b 57) (digits_from (10 * n + (b - 48)) bs)
    (λ digit. rest (10 * n + (b - 48)) (omega (arith, leb-true b 57 (and_parts (leb 48 b) (leb b 57) digit).1)))

pub short_of_one : (bs : List ℕ) → length bs ≡ 1 → IfSome (short_number_of bs) (λ n. n ≤ 9)
short_of_one [] h = tt
short_of_one (a ∷ []) h = one_more (λ n. n ≤ 9) 0 0 a [] (omega arith) (λ k s. s)
short_of_one (a ∷ b ∷ bs) h = absurd (omega arith)

pub short_of_two : (bs : List ℕ) → length bs ≡ 2 → IfSome (short_number_of bs) (λ n. n ≤ 99)
short_of_two [] h = tt
short_of_two (a ∷ []) h = absurd (omega arith)
short_of_two (a ∷ b ∷ []) h =
    one_more (λ n. n ≤ 99) 0 0 a (b ∷ []) (omega arith) (λ k s. one_more (λ n. n ≤ 99) k 9 b [] (omega arith) (λ k s. omega arith))
short_of_two (a ∷ b ∷ c ∷ bs) h = absurd (omega arith)

pub number_of_three : (bs : List ℕ) → length bs ≤ 3 → IfSome (number_of bs) (λ n. n ≤ 999)
number_of_three [] h = tt
number_of_three (a ∷ []) h =
    one_more (λ n. n ≤ 999) 0 0 a [] (omega arith) (λ k s. omega arith)
number_of_three (a ∷ b ∷ []) h =
    one_more (λ n. n ≤ 999) 0 0 a (b ∷ []) (omega arith) (λ k s. one_more (λ n. n ≤ 999) k 9 b [] (omega arith) (λ k s. omega arith))
number_of_three (a ∷ b ∷ c ∷ []) h =
    one_more (λ n. n ≤ 999) 0 0 a (b ∷ c ∷ []) (omega arith)
    (λ k s. one_more (λ n. n ≤ 999) k 9 b (c ∷ []) (omega arith) (λ k s. one_more (λ n. n ≤ 999) k 99 c [] (omega arith) (λ k s. omega arith)))
number_of_three (a ∷ b ∷ c ∷ d ∷ bs) h = absurd (omega arith)

pub many_parts : (whole decimals : List ℕ) (more : List (List ℕ)) → 1 ≤ length more → thousandths_in (whole ∷ decimals ∷ more) ≡ None
many_parts whole decimals [] h = absurd (omega arith)
many_parts whole decimals (part ∷ more) h = refl
