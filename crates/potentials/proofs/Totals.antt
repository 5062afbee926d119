-- Sums of numbers that are no larger, one by one.
use Rattle.std.proofs.Common.{⊎_elim, ℕ, zero, suc, ◌≡◌, ◌+◌, ◌≤◌, ◌<◌, subst, arith}
use Rattle.std.proofs.lemmas.Bool.{cases_lt}
use Rattle.potentials.specs.Inside.Totals.{total}

pub total_le : (n : ℕ) (f g : ℕ → ℕ) → ((i : ℕ) → i < n → f i ≤ g i) → total n f ≤ total n g
unfolding total
total_le zero f g le = omega arith
total_le (suc n) f g le = omega (arith, total_le n f g (λ i below. le i (omega (arith, below))), le n (omega arith))

pub total_one : (n j : ℕ) (f g : ℕ → ℕ) → ((i : ℕ) → i < n → f i ≤ g i) → j < n → f j + 1 ≤ g j → total n f + 1 ≤ total n g
unfolding total
total_one zero j f g le below lt = absurd (omega (arith, below))
total_one (suc n) j f g le below lt = ⊎_elim
    (λ (before : j < n). omega (arith, total_one n j f g (λ i b. le i (omega (arith, b))) before lt, le n (omega arith)))
    (λ (here : n ≤ j). let same : j ≡ n = omega (arith, here, below) in
    let last : f n + 1 ≤ g n = subst (λ i. f i + 1 ≤ g i) same lt in
    omega (arith, total_le n f g (λ i b. le i (omega (arith, b))), last))
    (cases_lt j n)
