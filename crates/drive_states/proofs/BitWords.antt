-- Bits of words, and of rows of words.
use Rattle.std.proofs.Common.{◌≡◌, ◌⊎◌, inl, inr, ⊎_elim, ℕ, zero, suc, ◌+◌, ◌-◌, ◌*◌, ◌/◌, ◌%◌, ◌^◌, ◌≤◌, ◌<◌, Bool, true, false, cond, leb, ◌&&◌}
use Rattle.std.proofs.Common.{List, length, get_or, set, take, drop, max, min, refl, sym, ◌∙◌, ap, subst, arith}
use Rattle.std.specs.Prelude.{bit_and, bit_or}
use Rattle.std.specs.Int.{bit_at, w64}
use Rattle.std.specs.Int.Count.{ones}
use Rattle.std.proofs.lemmas.Bool.{cases_eq, cases_lt, le-leb, lt-leb}
use Rattle.std.proofs.lemmas.List.{get_or-set_same, get_or-set_other, get_or-take, get_or-drop, get_or_past, length-take}
use Rattle.std.proofs.lemmas.Nat.{shr_split, shr-shr, shr_below, and_le_l, pow_pos, mod_below, ones-le, and_mask}
use Rattle.std.proofs.lemmas.Nat.Bits.{bit_at_lowest, bit_at-suc, bit_at-zero, bit_at_and, bit_at_or, bit_at_not, bit_at-lt, bit_at_above, bit_at_cat_low, bit_at_cat_high}
use Rattle.std.proofs.lemmas.Nat.Bits.{ones_shr}
use Rattle.drive_states.specs.Inside.BitRows.{sum_below, bit_of, later_bit, TakesFresh, TakesLater, IsTrimmed}
use Rattle.drive_states.proofs.Sums.{sum_same, sum_split, sum_first, sum_both, sum_small}
use lib.Count.{ones_step}

-- the low bits of a number
pub low_bit : (n k i : ℕ) → i < k → bit_at (n % 2 ^ k) i ≡ bit_at n i
low_bit n k i low = sym (bit_at_cat_low (n / 2 ^ k) k (n % 2 ^ k) i low) ∙ ap (λ (m : ℕ). bit_at m i) (shr_split n k)

-- the bits of a number that is shifted down
pub shr_bit : (n k i : ℕ) → bit_at (n / 2 ^ k) i ≡ bit_at n (k + i)
shr_bit n k i = ap (λ (m : ℕ). m % 2) (shr-shr n k i)

-- the bits of a number that is shifted up
pub shl_bit : (n k i : ℕ) → k ≤ i → bit_at (n * 2 ^ k) i ≡ bit_at n (i - k)
shl_bit n k i high = let none : n * 2 ^ k + 0 ≡ n * 2 ^ k = omega arith in
    sym (ap (λ (m : ℕ). bit_at m i) none) ∙ bit_at_cat_high n k 0 i (omega (arith, pow_pos k)) high

pub shl_low : (n k i : ℕ) → i < k → bit_at (n * 2 ^ k) i ≡ 0
shl_low n k i low = let none : n * 2 ^ k + 0 ≡ n * 2 ^ k = omega arith in
    sym (ap (λ (m : ℕ). bit_at m i) none) ∙ bit_at_cat_low n k 0 i low ∙ bit_at-zero i

-- the ones of a number are counted bit by bit
pub ones_sum : (k n : ℕ) → n < 2 ^ k → ones n ≡ sum_below (λ i. bit_at n i) k
ones_sum zero n low = omega (arith, ones-le 0 n low)
ones_sum (suc k) n low =
    let half : n / 2 < 2 ^ k = shr_below n k 1 (subst (λ (m : ℕ). n < 2 ^ m) (omega arith) low) in
    omega (
      arith,
      ones_step n,
      ones_sum k (n / 2) half,
      sum_first (λ i. bit_at n i) k,
      bit_at_lowest n,
      sum_same (λ i. bit_at n (suc i)) (λ i. bit_at (n / 2) i) k (λ i below. bit_at-suc n i),
    )

-- a bit of a row is one of a word
pub bit_in_word : (words : List ℕ) (i k : ℕ) → k < 64 → bit_of words (64 * i + k) ≡ bit_at (get_or words i 0) k
unfolding bit_of
bit_in_word words i k low =
    let place : (64 * i + k) / 64 ≡ i = omega (arith, low) in
    let bit : (64 * i + k) % 64 ≡ k = omega (arith, low) in
    ap (λ (j : ℕ). bit_at (get_or words j 0) ((64 * i + k) % 64)) place ∙ ap (λ (j : ℕ). bit_at (get_or words i 0) j) bit

pub bit-lt : (words : List ℕ) (r : ℕ) → bit_of words r < 2
unfolding bit_of
bit-lt words r = bit_at-lt (get_or words (r / 64) 0) (r % 64)

-- the bits of a row up to some in a word
pub sum_word : (words : List ℕ) (i c : ℕ) → c ≤ 64
    → sum_below (bit_of words) (64 * i + c) ≡ sum_below (bit_of words) (64 * i) + sum_below (λ k. bit_at (get_or words i 0) k) c
sum_word words i c few = omega (
  arith,
  sum_split (bit_of words) (64 * i) c,
  sum_same (λ k. bit_of words (64 * i + k)) (λ k. bit_at (get_or words i 0) k) c (λ k low. bit_in_word words i k (omega (arith, low, few))),
)

-- a mask of the lowest bits
pub masked : (w count : ℕ) → 1 ≤ count → count ≤ 64 → bit_and w ((2 ^ 64 - 1) / 2 ^ (64 - count)) ≡ w % 2 ^ count
masked w count some few =
    let back : 64 - (64 - count) ≡ count = omega (arith, few) in
    ap (bit_and w) (ones_shr 64 (64 - count) (omega arith) ∙ ap (λ (k : ℕ). 2 ^ k - 1) back) ∙ and_mask w count

-- no sum of bits is larger than their number
pub bits_few : (words : List ℕ) (n : ℕ) → sum_below (bit_of words) n ≤ n
bits_few words n = omega (arith, sum_small (bit_of words) 1 n (λ k low. omega (arith, bit-lt words k)))

pub ones_few : (w c : ℕ) → ones (w % 2 ^ c) ≤ c
ones_few w c = ones-le c (w % 2 ^ c) (mod_below w (2 ^ c) (pow_pos c))

-- the bits of one word more are counted
pub counted_on : (words : List ℕ) (end i count w c : ℕ) → 64 * i < end → c ≡ min (end - 64 * i) 64 → w ≡ get_or words i 0
    → count ≡ sum_below (bit_of words) (min end (64 * i))
    → count + ones (w % 2 ^ c) ≡ sum_below (bit_of words) (min end (64 * (i + 1)))
counted_on words end i count w c low part word was =
    let before : min end (64 * i) ≡ 64 * i = omega (arith, low) in
    let after : min end (64 * (i + 1)) ≡ 64 * i + c = omega (arith, low, part) in
    omega (
      arith,
      was,
      ap (sum_below (bit_of words)) before,
      ap (sum_below (bit_of words)) after,
      sum_word words i c (omega (arith, part)),
      ones_sum c (w % 2 ^ c) (mod_below w (2 ^ c) (pow_pos c)),
      sum_same (λ k. bit_at (w % 2 ^ c) k) (λ k. bit_at (get_or words i 0) k) c
          (λ k below. low_bit w c k below ∙ ap (λ (m : ℕ). bit_at m k) word),
    )

-- a bit of a word that is shifted up within 64 bits
pub shifted : (w p k : ℕ) → k < 64 → p ≤ k → bit_at (w * 2 ^ p % 2 ^ 64) k ≡ bit_at w (k - p)
shifted w p k low high = low_bit (w * 2 ^ p) 64 k low ∙ shl_bit w p k high

pub shifted_in : (w p k : ℕ) → k < 64 → k < p → bit_at (w * 2 ^ p % 2 ^ 64) k ≡ 0
shifted_in w p k low below = low_bit (w * 2 ^ p) 64 k low ∙ shl_low w p k below

cond_true : (b : Bool) (x y z : ℕ) → b ≡ true → z ≡ x → z ≡ cond b x y
cond_true true x y z is same = same
cond_true false x y z is same = absurd (cc)

cond_false : (b : Bool) (x y z : ℕ) → b ≡ false → z ≡ y → z ≡ cond b x y
cond_false false x y z is same = same
cond_false true x y z is same = absurd (cc)

-- the upper part of a word of a row that is later comes from one word
from_low : (words : List ℕ) (by i k w : ℕ) → k < 64 → by / 64 ≤ i → w ≡ get_or words (i - by / 64) 0 → by % 64 ≤ k
    → bit_at (w * 2 ^ (by % 64) % 2 ^ 64) k ≡ bit_of words (64 * i + k - by)
from_low words by i k w low whole word high =
    let place : 64 * (i - by / 64) + (k - by % 64) ≡ 64 * i + k - by = omega (arith, low, whole, high) in
    shifted w (by % 64) k low high ∙ ap (λ (m : ℕ). bit_at m (k - by % 64)) word
    ∙ sym (bit_in_word words (i - by / 64) (k - by % 64) (omega (arith, low))) ∙ ap (bit_of words) place

-- the lower part comes from the word before
from_high : (words : List ℕ) (by i k v : ℕ) → by / 64 < i → v ≡ get_or words (i - by / 64 - 1) 0 → k < by % 64
    → bit_at (v / 2 ^ (64 - by % 64)) k ≡ bit_of words (64 * i + k - by)
from_high words by i k v whole word below =
    let place : 64 * (i - by / 64 - 1) + (64 - by % 64 + k) ≡ 64 * i + k - by = omega (arith, whole, below) in
    shr_bit v (64 - by % 64) k ∙ ap (λ (m : ℕ). bit_at m (64 - by % 64 + k)) word
    ∙ sym (bit_in_word words (i - by / 64 - 1) (64 - by % 64 + k) (omega (arith, below))) ∙ ap (bit_of words) place

-- where the minutes are later by whole words, or the word is the first
pub later_one : (words : List ℕ) (by i w k : ℕ) → by / 64 ≤ i → w ≡ get_or words (i - by / 64) 0 → (by % 64 ≡ 0) ⊎ (i ≡ by / 64) → k < 64
    → bit_at (w * 2 ^ (by % 64) % 2 ^ 64) k ≡ cond (leb by (64 * i + k)) (bit_of words (64 * i + k - by)) 0
later_one words by i w k whole word simple low = ⊎_elim
    (λ (below : k < by % 64).
    (let first : i ≡ by / 64 = ⊎_elim (λ (none : by % 64 ≡ 0). absurd (omega (arith, none, below))) (λ (is : i ≡ by / 64). is) simple in
    cond_false (leb by (64 * i + k)) (bit_of words (64 * i + k - by)) 0 _ (lt-leb by (64 * i + k) (omega (arith, below, first)))
    (shifted_in w (by % 64) k low below)))
    (λ (high : by % 64 ≤ k).
    cond_true (leb by (64 * i + k)) (bit_of words (64 * i + k - by)) 0 _ (le-leb by (64 * i + k) (omega (arith, high, whole)))
    (from_low words by i k w low whole word high))
    (cases_lt k (by % 64))

-- where two words make one
pub later_two : (words : List ℕ) (by i w v k : ℕ) → by / 64 < i → w ≡ get_or words (i - by / 64) 0 → v ≡ get_or words (i - by / 64 - 1) 0 → v < 2 ^ 64
    → k < 64 → bit_at (bit_or (w * 2 ^ (by % 64) % 2 ^ 64) (v / 2 ^ (64 - by % 64))) k
    ≡ cond (leb by (64 * i + k)) (bit_of words (64 * i + k - by)) 0
later_two words by i w v k whole word before fits low =
    let low_part : ℕ = w * 2 ^ (by % 64) % 2 ^ 64 in
    let high_part : ℕ = v / 2 ^ (64 - by % 64) in
    cond_true (leb by (64 * i + k)) (bit_of words (64 * i + k - by)) 0 _ (le-leb by (64 * i + k) (omega (arith, whole)))
    (bit_at_or low_part high_part k ∙ ⊎_elim
    (λ (below : k < by % 64). omega (arith, shifted_in w (by % 64) k low below, from_high words by i k v whole before below))
    (λ (high : by % 64 ≤ k). omega (
      arith,
      from_low words by i k w low (omega (arith, whole)) word high,
      shr_bit v (64 - by % 64) k,
      bit_at_above v 64 (64 - by % 64 + k) fits (omega (arith, high)),
    ))
    (cases_lt k (by % 64)))

-- whichever word it is
pub later_any : (words : List ℕ) (by i w v k : ℕ) → by / 64 ≤ i → w ≡ get_or words (i - by / 64) 0
    → ((i ≡ by / 64) × (v ≡ 0)) ⊎ ((by / 64 < i) × (v ≡ get_or words (i - by / 64 - 1) 0)) → v < 2 ^ 64 → k < 64
    → bit_at (bit_or (w * 2 ^ (by % 64) % 2 ^ 64) (v / 2 ^ (64 - by % 64))) k ≡ cond (leb by (64 * i + k)) (bit_of words (64 * i + k - by)) 0
later_any words by i w v k whole word (inl none) fits low = omega (
  arith,
  bit_at_or (w * 2 ^ (by % 64) % 2 ^ 64) (v / 2 ^ (64 - by % 64)) k,
  later_one words by i w k whole word (inr none.0) low,
  shr_bit v (64 - by % 64) k,
  ap (λ (m : ℕ). bit_at m (64 - by % 64 + k)) none.1,
  bit_at-zero (64 - by % 64 + k),
)
later_any words by i w v k whole word (inr some) fits low = later_two words by i w v k some.0 word some.1 fits low

-- the bits that a word lacks
pub lacks : (a l c : ℕ) → a < 2 ^ 64 → c ≤ 64 → l < 2 ^ c
    → sum_below (λ k. bit_at (bit_or a l) k) c ≡ sum_below (λ k. bit_at a k) c + ones (bit_and l (2 ^ 64 - 1 - a))
lacks a l c fits few small =
    let new : ℕ = bit_and l (2 ^ 64 - 1 - a) in
    let one : (k : ℕ) → k < c → bit_at (bit_or a l) k ≡ bit_at a k + bit_at new k = λ k low.
    omega (arith, bit_at_or a l k, bit_at_and l (2 ^ 64 - 1 - a) k, bit_at_not w64 a k fits (omega (arith, low, few)), bit_at-lt a k, bit_at-lt l k) in
    let counted : ones new ≡ sum_below (λ k. bit_at new k) c = ones_sum c new (omega (arith, and_le_l l (2 ^ 64 - 1 - a), small)) in
    omega (arith, counted, sum_both (λ k. bit_at a k) (λ k. bit_at new k) (λ k. bit_at (bit_or a l) k) c one)

pub lacks_few : (a l : ℕ) → l < 2 ^ 64 → ones (bit_and l (2 ^ 64 - 1 - a)) ≤ 64
lacks_few a l small = ones-le 64 (bit_and l (2 ^ 64 - 1 - a)) (omega (arith, and_le_l l (2 ^ 64 - 1 - a), small))

-- a bit of a row whose minutes are later
pub later_within : (from : List ℕ) (by most r : ℕ) → r ≤ most → later_bit from by most r ≡ cond (leb by r) (bit_of from (r - by)) 0
later_within from by most r low = both (leb by r) (leb r most) (bit_of from (r - by)) (le-leb r most low)
  where
    both : (b c : Bool) (x : ℕ) → c ≡ true → cond (b && c) x 0 ≡ cond b x 0
    both true true x is = refl
    both false true x is = refl
    both true false x is = absurd (cc)
    both false false x is = absurd (cc)

-- nothing where one of two tests fails
neither : (b c : Bool) (x : ℕ) → (b ≡ false) ⊎ (c ≡ false) → cond (b && c) x 0 ≡ 0
neither false false x fails = refl
neither false true x fails = refl
neither true false x fails = refl
neither true true x (inl fails) = absurd (cc)
neither true true x (inr fails) = absurd (cc)

pub later_past : (from : List ℕ) (by most r : ℕ) → most < r → later_bit from by most r ≡ 0
later_past from by most r past = neither (leb by r) (leb r most) (bit_of from (r - by)) (inr (lt-leb r most past))

pub later_early : (from : List ℕ) (by most r : ℕ) → r < by → later_bit from by most r ≡ 0
later_early from by most r early = neither (leb by r) (leb r most) (bit_of from (r - by)) (inl (lt-leb by r early))

later_is : (from : List ℕ) (by most r : ℕ) → by ≤ r → r ≤ most → later_bit from by most r ≡ bit_of from (r - by)
later_is from by most r high low = later_within from by most r low ∙ sym (cond_true (leb by r) (bit_of from (r - by)) 0 _ (le-leb by r high) refl)

-- what is said of all bits and of their sum is said of the minutes
pub takes_later : (old same new from : List ℕ) (by most fresh : ℕ) → ((k : ℕ) → get_or same k 0 ≡ get_or old k 0)
    → ((r : ℕ) → bit_of new r ≡ max (bit_of same r) (later_bit from by most r))
    → sum_below (bit_of new) (most + 1) ≡ sum_below (bit_of same) (most + 1) + fresh → TakesLater old new from by most fresh
unfolding bit_of
takes_later old same new from by most fresh words bits count =
    let was : (r : ℕ) → bit_of same r ≡ bit_of old r = λ r. ap (λ (m : ℕ). bit_at m (r % 64)) (words (r / 64)) in
    let small : (r : ℕ) → later_bit from by most r < 2 = λ r. ⊎_elim
    (λ (early : r < by). omega (arith, later_early from by most r early))
    (λ (high : by ≤ r). ⊎_elim
    (λ (past : most < r). omega (arith, later_past from by most r past))
    (λ (low : r ≤ most). omega (arith, later_is from by most r high low, bit-lt from (r - by)))
    (cases_lt most r))
    (cases_lt r by) in
    record {
      kept = λ r has. omega (arith, bits r, was r, has, small r);
      taken = λ r has low.
          (let back : r + by - by ≡ r = omega arith in
          omega (arith, bits (r + by), was (r + by), bit-lt old (r + by), later_is from by most (r + by) (omega arith) low, ap (bit_of from) back, has));
      only = λ r has. ⊎_elim
          (λ (here : bit_of old r ≡ 1). inl here)
          (λ (none : bit_of old r ≡ 1 → ⊥).
          (let later : later_bit from by most r ≡ 1 = omega (arith, bits r, was r, bit-lt old r, none, has) in
          ⊎_elim
          (λ (early : r < by). absurd (omega (arith, later, later_early from by most r early)))
          (λ (high : by ≤ r). ⊎_elim
          (λ (past : most < r). absurd (omega (arith, later, later_past from by most r past)))
          (λ (low : r ≤ most). inr (r - by, sym (later_is from by most r high low) ∙ later, omega (arith, high), low))
          (cases_lt most r))
          (cases_lt r by)))
          (cases_eq (bit_of old r) 1);
      count = omega (arith, count, sum_same (bit_of same) (bit_of old) (most + 1) (λ r low. was r));
    }

-- a word of a row is replaced
other_words : (row : List ℕ) (i x r : ℕ) → r < 64 * i → bit_of (set row i x) r ≡ bit_of row r
unfolding bit_of
other_words row i x r low = ap (λ (m : ℕ). bit_at m (r % 64)) (get_or-set_other row i (r / 64) x 0 (λ is. absurd (omega (arith, is, low))))

same_words : (row old : List ℕ) (i r : ℕ) → ((j : ℕ) → i ≤ j → get_or row j 0 ≡ get_or old j 0) → 64 * i ≤ r → bit_of row r ≡ bit_of old r
unfolding bit_of
same_words row old i r rest high = ap (λ (m : ℕ). bit_at m (r % 64)) (rest (r / 64) (omega (arith, high)))

-- the words up to one have taken what is later
pub record AreJoined (row old from : List ℕ) (by most i fresh : ℕ) : Type 0 where
  pub done : (r : ℕ) → r < 64 * i → bit_of row r ≡ max (bit_of old r) (later_bit from by most r)
  pub rest : (j : ℕ) → i ≤ j → get_or row j 0 ≡ get_or old j 0
  pub count : sum_below (bit_of row) (min (most + 1) (64 * i)) ≡ sum_below (bit_of old) (min (most + 1) (64 * i)) + fresh

pub joined_few : (row old from : List ℕ) (by most i fresh : ℕ) → AreJoined row old from by most i fresh → fresh ≤ most + 1
joined_few row old from by most i fresh joined = omega (arith, joined.count, bits_few row (min (most + 1) (64 * i)))

module _ (row old from : List ℕ) (by most i fresh later c more : ℕ) (low : 64 * i < most + 1) (part : c ≡ min (most + 1 - 64 * i) 64)
    (within : i < length row) (is : (k : ℕ) → k < 64 → bit_at later k ≡ cond (leb by (64 * i + k)) (bit_of from (64 * i + k - by)) 0)
    (joined : AreJoined row old from by most i fresh)
    (lacking : (d : ℕ) → d ≤ 64 → later % 2 ^ c < 2 ^ d → sum_below (λ k. bit_at (bit_or (get_or row i 0) (later % 2 ^ c)) k) d
    ≡ sum_below (λ k. bit_at (get_or row i 0) k) d + more) where
  word : ℕ
  word = bit_or (get_or row i 0) (later % 2 ^ c)

  -- a bit of the word
  joined_bit : (k : ℕ) → k < 64 → bit_at word k ≡ max (bit_of old (64 * i + k)) (later_bit from by most (64 * i + k))
  unfolding word
  joined_bit k small =
      let here : bit_at (get_or row i 0) k ≡ bit_of old (64 * i + k) =
      ap (λ (m : ℕ). bit_at m k) (joined.rest i (omega arith)) ∙ sym (bit_in_word old i k small) in
      omega (
        arith,
        bit_at_or (get_or row i 0) (later % 2 ^ c) k,
        here,
        ⊎_elim
            (λ (inside : k < c). low_bit later c k inside ∙ is k small ∙ sym (later_within from by most (64 * i + k) (omega (arith, inside, part))))
            (λ (outside : c ≤ k). bit_at_above (later % 2 ^ c) c k (mod_below later (2 ^ c) (pow_pos c)) outside
            ∙ sym (later_past from by most (64 * i + k) (omega (arith, outside, part, small))))
            (cases_lt k c),
      )

  pub joined_on : AreJoined (set row i (bit_or (get_or row i 0) (later % 2 ^ c))) old from by most (i + 1) (fresh + more)
  unfolding word
  joined_on =
      let new : List ℕ = set row i word in
      let at : get_or new i 0 ≡ word = get_or-set_same row i word 0 within in
      let before : min (most + 1) (64 * i) ≡ 64 * i = omega (arith, low) in
      let after : min (most + 1) (64 * (i + 1)) ≡ 64 * i + c = omega (arith, low, part) in
      record {
        done = λ r below. ⊎_elim
            (λ (early : r < 64 * i). other_words row i word r early ∙ joined.done r early)
            (λ (here : 64 * i ≤ r).
            (let place : 64 * i + (r - 64 * i) ≡ r = omega (arith, here) in
            let small : r - 64 * i < 64 = omega (arith, below, here) in
            subst (λ (m : ℕ). bit_of new m ≡ max (bit_of old m) (later_bit from by most m)) place
            (bit_in_word new i (r - 64 * i) small ∙ ap (λ (m : ℕ). bit_at m (r - 64 * i)) at ∙ joined_bit (r - 64 * i) small)))
            (cases_lt r (64 * i));
        rest = λ j behind. get_or-set_other row i j word 0 (λ same. absurd (omega (arith, same, behind))) ∙ joined.rest j (omega (arith, behind));
        count = omega (
          arith,
          joined.count,
          ap (sum_below (bit_of row)) before,
          ap (sum_below (bit_of old)) before,
          ap (sum_below (bit_of new)) after,
          ap (sum_below (bit_of old)) after,
          sum_word new i c (omega (arith, part)),
          sum_word old i c (omega (arith, part)),
          sum_same (bit_of new) (bit_of row) (64 * i) (λ r early. other_words row i word r early),
          ap (λ (m : ℕ). sum_below (λ k. bit_at m k) c) at,
          ap (λ (m : ℕ). sum_below (λ k. bit_at m k) c) (joined.rest i (omega arith)),
          lacking c (omega (arith, part)) (mod_below later (2 ^ c) (pow_pos c)),
        );
      }

pub joined_step : (row old from : List ℕ) (by most i fresh later c more low_word : ℕ) → low_word ≡ later % 2 ^ c → 64 * i < most + 1
    → c ≡ min (most + 1 - 64 * i) 64 → i < length row
    → ((k : ℕ) → k < 64 → bit_at later k ≡ cond (leb by (64 * i + k)) (bit_of from (64 * i + k - by)) 0) → AreJoined row old from by most i fresh
    → ((d : ℕ) → d ≤ 64 → low_word < 2 ^ d → sum_below (λ k. bit_at (bit_or (get_or row i 0) low_word) k) d
    ≡ sum_below (λ k. bit_at (get_or row i 0) k) d + more)
    → AreJoined (set row i (bit_or (get_or row i 0) low_word)) old from by most (i + 1) (fresh + more)
joined_step row old from by most i fresh later c more low_word same low part within is joined lacking =
    subst (λ (w : ℕ). AreJoined (set row i (bit_or (get_or row i 0) w)) old from by most (i + 1) (fresh + more)) (sym same)
    (joined_on row old from by most i fresh later c more low part within is joined (λ d few small.
    subst (λ (w : ℕ). sum_below (λ k. bit_at (bit_or (get_or row i 0) w) k) d ≡ sum_below (λ k. bit_at (get_or row i 0) k) d + more) same
    (lacking d few (subst (λ (w : ℕ). w < 2 ^ d) (sym same) small))))

-- no word has taken any
pub joined_none : (row from : List ℕ) (by most : ℕ) → AreJoined row row from by most (by / 64) 0
joined_none row from by most = record {
  done = λ r low. omega (arith, later_early from by most r (omega (arith, low)));
  rest = λ j high. refl;
  count = omega arith;
}

-- a row has nothing behind its end
bit_behind : (words : List ℕ) (r : ℕ) → length words ≤ r / 64 → bit_of words r ≡ 0
unfolding bit_of
bit_behind words r high = ap (λ (m : ℕ). bit_at m (r % 64)) (get_or_past words (r / 64) 0 high) ∙ bit_at-zero (r % 64)

later_behind : (from : List ℕ) (by most i r : ℕ) → (most / 64 + 1 ≤ i) ⊎ (by / 64 + length from + 1 ≤ i) → 64 * i ≤ r → later_bit from by most r ≡ 0
later_behind from by most i r end late = ⊎_elim
    (λ (past : most < r). later_past from by most r past)
    (λ (low : r ≤ most). ⊎_elim
    (λ (over : most / 64 + 1 ≤ i). absurd (omega (arith, over, late, low)))
    (λ (behind : by / 64 + length from + 1 ≤ i).
    later_is from by most r (omega (arith, behind, late)) low ∙ bit_behind from (r - by) (omega (arith, behind, late)))
    end)
    (cases_lt most r)

-- all words have taken it
pub joined_all : (row old from : List ℕ) (by most i fresh : ℕ) → AreJoined row old from by most i fresh
    → (most / 64 + 1 ≤ i) ⊎ (by / 64 + length from + 1 ≤ i) → (r : ℕ) → bit_of row r ≡ max (bit_of old r) (later_bit from by most r)
joined_all row old from by most i fresh joined end r = ⊎_elim
    (λ (early : r < 64 * i). joined.done r early)
    (λ (late : 64 * i ≤ r). omega (arith, same_words row old i r joined.rest late, later_behind from by most i r end late))
    (cases_lt r (64 * i))

pub joined_count : (row old from : List ℕ) (by most i fresh : ℕ) → AreJoined row old from by most i fresh
    → sum_below (bit_of row) (most + 1) ≡ sum_below (bit_of old) (most + 1) + fresh
joined_count row old from by most i fresh joined =
    let upto : ℕ = min (most + 1) (64 * i) in
    let rest : ℕ = most + 1 - upto in
    let whole : upto + rest ≡ most + 1 = omega arith in
    omega (
      arith,
      joined.count,
      sum_split (bit_of row) upto rest,
      sum_split (bit_of old) upto rest,
      ap (sum_below (bit_of row)) whole,
      ap (sum_below (bit_of old)) whole,
      sum_same (λ k. bit_of row (upto + k)) (λ k. bit_of old (upto + k)) rest
          (λ k low. same_words row old i (upto + k) joined.rest (omega (arith, low))),
    )

-- the words below one were taken, and what was new of them is written
pub record AreTaken (old new row fresh : List ℕ) (i : ℕ) : Type 0 where
  pub taken : (j : ℕ) → j < i → get_or new j 0 ≡ get_or row j 0
  pub written : (j : ℕ) → j < i → get_or fresh j 0 ≡ bit_and (get_or row j 0) (2 ^ 64 - 1 - get_or old j 0)
  pub rest : (j : ℕ) → i ≤ j → get_or new j 0 ≡ get_or old j 0
  pub none : (j : ℕ) → i ≤ j → get_or fresh j 0 ≡ 0

pub taken_none : (old row fresh : List ℕ) → ((j : ℕ) → get_or fresh j 0 ≡ 0) → AreTaken old old row fresh 0
taken_none old row fresh none = record {
  taken = λ j low. absurd (omega (arith, low));
  written = λ j low. absurd (omega (arith, low));
  rest = λ j high. refl;
  none = λ j high. none j;
}

pub taken_on : (old new row fresh : List ℕ) (i : ℕ) → i < length new → i < length fresh → AreTaken old new row fresh i
    → AreTaken old (set new i (get_or row i 0)) row (set fresh i (bit_and (get_or row i 0) (2 ^ 64 - 1 - get_or new i 0))) (i + 1)
taken_on old new row fresh i within within_fresh taken =
    let word : ℕ = bit_and (get_or row i 0) (2 ^ 64 - 1 - get_or new i 0) in
    record {
      taken = λ j low. ⊎_elim
          (λ (here : i ≡ j). subst (λ (k : ℕ). get_or (set new i (get_or row i 0)) k 0 ≡ get_or row k 0) here
          (get_or-set_same new i (get_or row i 0) 0 within))
          (λ (other : i ≡ j → ⊥).
          get_or-set_other new i j (get_or row i 0) 0 (λ is. other (sym is)) ∙ taken.taken j (omega (arith, low, other)))
          (cases_eq i j);
      written = λ j low. ⊎_elim
          (λ (here : i ≡ j). subst (λ (k : ℕ). get_or (set fresh i word) k 0 ≡ bit_and (get_or row k 0) (2 ^ 64 - 1 - get_or old k 0)) here
          (get_or-set_same fresh i word 0 within_fresh
          ∙ ap (λ (m : ℕ). bit_and (get_or row i 0) (2 ^ 64 - 1 - m)) (taken.rest i (omega arith))))
          (λ (other : i ≡ j → ⊥). get_or-set_other fresh i j word 0 (λ is. other (sym is)) ∙ taken.written j (omega (arith, low, other)))
          (cases_eq i j);
      rest = λ j high. get_or-set_other new i j (get_or row i 0) 0 (λ is. absurd (omega (arith, is, high))) ∙ taken.rest j (omega (arith, high));
      none = λ j high. get_or-set_other fresh i j word 0 (λ is. absurd (omega (arith, is, high))) ∙ taken.none j (omega (arith, high));
    }

-- a bit of a word that another lacks
new_bit : (a b k : ℕ) → b < 2 ^ 64 → k < 64 → bit_at (bit_and a (2 ^ 64 - 1 - b)) k ≡ bit_at a k - bit_at b k
new_bit a b k fits low = omega (arith, bit_at_and a (2 ^ 64 - 1 - b) k, bit_at_not w64 b k fits low, bit_at-lt a k, bit_at-lt b k)

pub taken_all : (old new row fresh : List ℕ) (i : ℕ) → length row ≤ i → ((j : ℕ) → get_or old j 0 < 2 ^ 64) → AreTaken old new row fresh i
    → TakesFresh old new row fresh
unfolding bit_of
taken_all old new row fresh i whole fits taken = record {
  has = λ r has. ⊎_elim
      (λ (low : r / 64 < i). ap (λ (m : ℕ). bit_at m (r % 64)) (taken.taken (r / 64) low) ∙ has)
      (λ (high : i ≤ r / 64). absurd (omega (arith, has, bit_behind row r (omega (arith, high, whole)))))
      (cases_lt (r / 64) i);
  found = λ r has. ⊎_elim
      (λ (low : r / 64 < i). ⊎_elim
      (λ (was : bit_at (get_or old (r / 64) 0) (r % 64) ≡ 1). inl was)
      (λ (not : bit_at (get_or old (r / 64) 0) (r % 64) ≡ 1 → ⊥). inr (omega (
        arith,
        not,
        ap (λ (m : ℕ). bit_at m (r % 64)) (taken.written (r / 64) low),
        new_bit (get_or row (r / 64) 0) (get_or old (r / 64) 0) (r % 64) (fits (r / 64)) (omega arith),
        bit_at-lt (get_or old (r / 64) 0) (r % 64),
        ap (λ (m : ℕ). bit_at m (r % 64)) (taken.taken (r / 64) low),
        has,
      )))
      (cases_eq (bit_at (get_or old (r / 64) 0) (r % 64)) 1))
      (λ (high : i ≤ r / 64). inl (sym (ap (λ (m : ℕ). bit_at m (r % 64)) (taken.rest (r / 64) high)) ∙ has))
      (cases_lt (r / 64) i);
  within = λ r has. ⊎_elim
      (λ (low : r / 64 < i). omega (
        arith,
        ap (λ (m : ℕ). bit_at m (r % 64)) (taken.written (r / 64) low),
        new_bit (get_or row (r / 64) 0) (get_or old (r / 64) 0) (r % 64) (fits (r / 64)) (omega arith),
        bit_at-lt (get_or row (r / 64) 0) (r % 64),
        has,
      ))
      (λ (high : i ≤ r / 64). absurd (omega (
        arith,
        has,
        ap (λ (m : ℕ). bit_at m (r % 64)) (taken.none (r / 64) high),
        bit_at-zero (r % 64),
      )))
      (cases_lt (r / 64) i);
}

-- rows whose words are the same have the same minutes
pub fresh_since : (old same new row fresh : List ℕ) → ((k : ℕ) → get_or same k 0 ≡ get_or old k 0) → TakesFresh same new row fresh
    → TakesFresh old new row fresh
unfolding bit_of
fresh_since old same new row fresh words takes = record {
  has = takes.has;
  found = λ r has. ⊎_elim
      (λ (was : bit_of same r ≡ 1). inl (sym (ap (λ (m : ℕ). bit_at m (r % 64)) (words (r / 64))) ∙ was))
      (λ (new : bit_of fresh r ≡ 1). inr new)
      (takes.found r has);
  within = takes.within;
}

-- a part of a row without which only words of 0 are left
part_bit : (row : List ℕ) (first end q : ℕ) → q / 64 < end - first → bit_of (take (end - first) (drop first row)) q ≡ bit_of row (q + 64 * first)
unfolding bit_of
part_bit row first end q low =
    let place : first + q / 64 ≡ (q + 64 * first) / 64 = omega arith in
    let bit : q % 64 ≡ (q + 64 * first) % 64 = omega arith in
    ap (λ (m : ℕ). bit_at m (q % 64)) (get_or-take (end - first) (drop first row) (q / 64) 0 low ∙ get_or-drop first row (q / 64) 0
    ∙ ap (λ (k : ℕ). get_or row k 0) place) ∙ ap (bit_at (get_or row ((q + 64 * first) / 64) 0)) bit

pub is_trimmed : (row : List ℕ) (first end : ℕ) → first ≤ end → end ≤ length row → ((k : ℕ) → k < first → get_or row k 0 ≡ 0)
    → ((k : ℕ) → end ≤ k → get_or row k 0 ≡ 0) → IsTrimmed row (take (end - first) (drop first row)) (64 * first)
unfolding bit_of
is_trimmed row first end order within before behind = record {
  found = λ r has. ⊎_elim
      (λ (early : r / 64 < first). absurd (omega (arith, has, ap (λ (m : ℕ). bit_at m (r % 64)) (before (r / 64) early), bit_at-zero (r % 64))))
      (λ (high : first ≤ r / 64). ⊎_elim
      (λ (low : r / 64 < end).
      (let back : r - 64 * first + 64 * first ≡ r = omega (arith, high) in
      (r - 64 * first, part_bit row first end (r - 64 * first) (omega (arith, high, low)) ∙ ap (bit_of row) back ∙ has, back)))
      (λ (late : end ≤ r / 64). absurd (omega (arith, has, ap (λ (m : ℕ). bit_at m (r % 64)) (behind (r / 64) late), bit_at-zero (r % 64))))
      (cases_lt (r / 64) end))
      (cases_lt (r / 64) first);
  within = λ r has. ⊎_elim
      (λ (low : has.0 / 64 < end - first). subst (λ (m : ℕ). bit_of row m ≡ 1) has.2 (sym (part_bit row first end has.0 low) ∙ has.1))
      (λ (high : end - first ≤ has.0 / 64). absurd (omega (
        arith,
        has.1,
        bit_behind (take (end - first) (drop first row)) has.0 (omega (arith, high, length-take (end - first) (drop first row))),
      )))
      (cases_lt (has.0 / 64) (end - first));
}
