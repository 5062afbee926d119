-- Runs of bytes of a kind at the front of a text, and the numbers that digits write.
use Rattle.std.proofs.Common.{◌≡◌, ℕ, zero, suc, ◌+◌, ◌-◌, ◌*◌, ◌≤◌, Bool, true, false, cond, leb, List, [], ◌∷◌, ◌++◌}
use Rattle.std.proofs.Common.{length, drop, take, Option, Some, None, IfSome, refl, sym, ap, ◌∙◌, arith}
use Rattle.std.specs.Prelude.{◌&&◌, nat_le}
use Rattle.std.specs.List.{take_while, list_all}
use Rattle.std.proofs.lemmas.Bool.{and_parts, and_from, leb-true}
use Rattle.std.proofs.lemmas.List.{take-append-drop, drop_at}
use Rattle.std.proofs.lemmas.List.Folds.{length-prefix_len}
use Rattle.std.proofs.lemmas.List.Sums.{take_while-cons}
use Rattle.route_base.specs.Digits.{digits_from, number_of}
use Rattle.route_base.proofs.Logic.{when_true, behind_test}
use Rattle.opening_hours.specs.Tokens.{is_digit}
use Rattle.opening_hours.proofs.Lists.{Stops}
use Rattle.conditional_rules.specs.Inside.Comparisons.{bytes_behind}

pub run_again : (kind : ℕ → Bool) (w rest : List ℕ) → list_all kind w ≡ true → Stops kind rest → take_while kind (w ++ rest) ≡ w
run_again kind [] [] h s = refl
run_again kind [] (b ∷ bs) h s = take_while-cons kind b bs ∙ ap (λ v. cond v (b ∷ take_while kind bs) []) s
run_again kind (b ∷ bs) rest h s =
    let p = and_parts (kind b) (list_all kind bs) h in
    take_while-cons kind b (bs ++ rest) ∙ ap (λ v. cond v (b ∷ take_while kind (bs ++ rest)) []) p.0
    ∙ ap (λ (ws : List ℕ). b ∷ ws) (run_again kind bs rest p.1 s)

pub behind_again : (kind : ℕ → Bool) (w rest : List ℕ) → list_all kind w ≡ true → Stops kind rest → bytes_behind kind (w ++ rest) ≡ rest
behind_again kind w rest h s = ap (λ (v : List ℕ). drop (length v) (w ++ rest)) (run_again kind w rest h s) ∙ drop_at w rest (length w) refl

pub run_whole : (kind : ℕ → Bool) (text : List ℕ) → text ≡ take_while kind text ++ bytes_behind kind text
run_whole kind text =
    sym (take-append-drop (length (take_while kind text)) text)
    ∙ ap (λ (w : List ℕ). w ++ bytes_behind kind text) (ap (λ n. take n text) (length-prefix_len kind text))

all_cond : (kind : ℕ → Bool) (b : ℕ) (w : List ℕ) (v : Bool) → kind b ≡ v → list_all kind w ≡ true → list_all kind (cond v (b ∷ w) []) ≡ true
all_cond kind b w true e h = and_from (kind b) (list_all kind w) e h
all_cond kind b w false e h = refl

pub run_all : (kind : ℕ → Bool) (text : List ℕ) → list_all kind (take_while kind text) ≡ true
run_all kind [] = refl
run_all kind (b ∷ bs) = ap (list_all kind) (take_while-cons kind b bs) ∙ all_cond kind b (take_while kind bs) (kind b) refl (run_all kind bs)

-- the bytes of one kind are none of another
pub stops_behind : (kind other : ℕ → Bool) (w rest : List ℕ) → ((b : ℕ) → kind b ≡ true → other b ≡ false)
    → list_all kind w ≡ true → Stops other rest → Stops other (w ++ rest)
stops_behind kind other [] rest apart h s = s
stops_behind kind other (b ∷ bs) rest apart h s = apart b (and_parts (kind b) (list_all kind bs) h).0

-- the greatest number that n and k further digits write
most : ℕ → ℕ → ℕ
most n zero = n
most n (suc k) = most (10 * n + 9) k

most_grows : (n k : ℕ) → n ≤ most n k
unfolding most
most_grows n zero = omega arith
most_grows n (suc k) = omega (arith, most_grows (10 * n + 9) k)

from_small : (k n m : ℕ) (bs : List ℕ) → n ≤ m → length bs ≤ k → IfSome (digits_from n bs) (λ r. r ≤ most m k)
unfolding most
from_small k n m [] low short = omega (arith, most_grows m k)
from_small zero n m (b ∷ bs) low short = absurd (omega arith)
from_small (suc k) n m (b ∷ bs) low short =
    when_true (λ r. r ≤ most (10 * m + 9) k) (leb 48 b && leb b 57) (digits_from (10 * n + (b - 48)) bs)
    (λ digit. from_small k (10 * n + (b - 48)) (10 * m + 9) bs (omega (arith, leb-true b 57 (and_parts (leb 48 b) (leb b 57) digit).1)) (omega arith))

-- the number of at most six digits is small
pub number_small : (bs : List ℕ) → length bs ≤ 6 → IfSome (number_of bs) (λ n. n ≤ 999999)
unfolding most
number_small [] short = tt
number_small (b ∷ bs) short =
    when_true (λ n. n ≤ 999999) (nat_le (length (b ∷ bs)) 18) (digits_from 0 (b ∷ bs)) (λ _. from_small 6 0 0 (b ∷ bs) (omega arith) short)

when_some : (v w : Bool) (o : Option ℕ) (m : ℕ) → (o ≡ Some m → w ≡ true) → cond v o None ≡ Some m → v && w ≡ true
when_some true w o m h e = h e
when_some false w o m h e = absurd cc

digits_all : (n : ℕ) (bs : List ℕ) (m : ℕ) → digits_from n bs ≡ Some m → list_all is_digit bs ≡ true
digits_all n [] m e = refl
digits_all n (b ∷ bs) m e = when_some (is_digit b) (list_all is_digit bs) (digits_from (10 * n + (b - 48)) bs) m
    (λ f. digits_all (10 * n + (b - 48)) bs m f) e

-- a number has digits alone, and one at least
pub number_all : (bs : List ℕ) (m : ℕ) → number_of bs ≡ Some m → list_all is_digit bs ≡ true
number_all [] m e = refl
number_all (b ∷ bs) m e = digits_all 0 (b ∷ bs) m (behind_test (nat_le (length (b ∷ bs)) 18) (digits_from 0 (b ∷ bs)) m e).1

pub stops_number : (other : ℕ → Bool) (bs rest : List ℕ) (m : ℕ) → ((b : ℕ) → is_digit b ≡ true → other b ≡ false)
    → number_of bs ≡ Some m → Stops other (bs ++ rest)
stops_number other [] rest m apart e = absurd cc
stops_number other (b ∷ bs) rest m apart e = apart b (and_parts (is_digit b) (list_all is_digit bs) (number_all (b ∷ bs) m e)).0
