-- Sums over the numbers below one.
use Rattle.std.proofs.Common.{◌≡◌, ◌≢◌, ⊎_elim, ℕ, zero, suc, ◌+◌, ◌*◌, ◌≤◌, ◌<◌, refl, sym, ap, subst, arith}
use Rattle.std.proofs.lemmas.Bool.{cases_eq}
use Rattle.drive_states.specs.Inside.BitRows.{sum_below}

pub sum_same : (f g : ℕ → ℕ) (n : ℕ) → ((k : ℕ) → k < n → f k ≡ g k) → sum_below f n ≡ sum_below g n
sum_same f g zero same = refl
sum_same f g (suc n) same = omega (arith, sum_same f g n (λ k low. same k (omega (arith, low))), same n (omega arith))

-- a sum in two parts
pub sum_split : (f : ℕ → ℕ) (a b : ℕ) → sum_below f (a + b) ≡ sum_below f a + sum_below (λ k. f (a + k)) b
sum_split f a zero = let none : a + 0 ≡ a = omega arith in omega (arith, ap (sum_below f) none)
sum_split f a (suc b) = let next : a + suc b ≡ suc (a + b) = omega arith in omega (arith, ap (sum_below f) next, sum_split f a b)

pub sum_first : (f : ℕ → ℕ) (n : ℕ) → sum_below f (suc n) ≡ f 0 + sum_below (λ k. f (suc k)) n
sum_first f zero = omega arith
sum_first f (suc n) = omega (arith, sum_first f n)

-- the sum of sums
pub sum_both : (f g h : ℕ → ℕ) (n : ℕ) → ((k : ℕ) → k < n → h k ≡ f k + g k) → sum_below h n ≡ sum_below f n + sum_below g n
sum_both f g h zero both = omega arith
sum_both f g h (suc n) both = omega (arith, sum_both f g h n (λ k low. both k (omega (arith, low))), both n (omega arith))

pub sum_small : (f : ℕ → ℕ) (c n : ℕ) → ((k : ℕ) → k < n → f k ≤ c) → sum_below f n ≤ c * n
sum_small f c zero small = omega arith
sum_small f c (suc n) small = omega (arith, sum_small f c n (λ k low. small k (omega (arith, low))), small n (omega arith))

-- one value grows
pub sum_changed : (f g : ℕ → ℕ) (v d n : ℕ) → v < n → g v ≡ f v + d → ((k : ℕ) → k ≢ v → g k ≡ f k) → sum_below g n ≡ sum_below f n + d
sum_changed f g v d zero low here others = absurd (omega (arith, low))
sum_changed f g v d (suc n) low here others = ⊎_elim
    (λ (last : n ≡ v). (let same = sum_same g f n (λ k before. others k (λ is. absurd (omega (arith, before, is, last)))) in
    omega (arith, same, here, ap f last, ap g last)))
    (λ (other : n ≡ v → ⊥). omega (arith, sum_changed f g v d n (omega (arith, low, other)) here others, others n other))
    (cases_eq n v)

-- a sum that isn't 0 has a value that isn't
pub some_value : (f : ℕ → ℕ) (n : ℕ) → 0 < sum_below f n → (k : ℕ) × (k < n) × (0 < f k)
some_value f zero some = absurd (omega (arith, some))
some_value f (suc n) some = ⊎_elim
    (λ (last : f n ≡ 0). (let found = some_value f n (omega (arith, some, last)) in (found.0, omega (arith, found.1), found.2)))
    (λ (not_last : f n ≡ 0 → ⊥). (n, omega arith, omega (arith, not_last)))
    (cases_eq (f n) 0)

pub sum_least : (f g : ℕ → ℕ) (n : ℕ) → ((k : ℕ) → k < n → f k ≤ g k) → sum_below f n ≤ sum_below g n
sum_least f g zero least = omega arith
sum_least f g (suc n) least = omega (arith, sum_least f g n (λ k low. least k (omega (arith, low))), least n (omega arith))

-- where no value falls and the sum stays, all values stay
pub no_more : (f g : ℕ → ℕ) (n : ℕ) → ((k : ℕ) → k < n → f k ≤ g k) → sum_below g n ≡ sum_below f n → (k : ℕ) → k < n → g k ≡ f k
no_more f g zero least same k low = absurd (omega (arith, low))
no_more f g (suc n) least same k low =
    let before = sum_least f g n (λ j below. least j (omega (arith, below))) in
    let last = least n (omega arith) in
    ⊎_elim
    (λ (is : k ≡ n). subst (λ (w : ℕ). g w ≡ f w) (sym is) (omega (arith, before, last, same)))
    (λ (other : k ≡ n → ⊥). no_more f g n (λ j below. least j (omega (arith, below))) (omega (arith, before, last, same)) k (omega (arith, low, other)))
    (cases_eq k n)
