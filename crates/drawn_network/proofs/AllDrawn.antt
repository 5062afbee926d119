-- Lists that are drawn number by number: what holds of each item, and how many items there are at most.
use Rattle.std.proofs.Common.{ℕ, zero, suc, ◌*◌, ◌≤◌, length, length-append, arith}
use Rattle.std.specs.Prelude.{All}
use Rattle.std.proofs.lemmas.List.Elements.{All-nil, All-append}
use Rattle.net_generator.specs.Draws.{Drawn, drawn_to}

pub drawn_all : {A : Type 0} (P : A → Type 0) (draw : ℕ → ℕ → Drawn A) (n s : ℕ)
    → ((v from : ℕ) → 1 ≤ v → v ≤ n → All P (draw v from).values) → All P (drawn_to draw n s).values
drawn_all P draw zero s each = All-nil P
drawn_all P draw (suc n) s each =
    let before = drawn_to draw n s in
    All-append P before.values (draw (suc n) before.state).values
    (drawn_all P draw n s (λ v from low high. each v from low (omega (arith, high))))
    (each (suc n) before.state (omega arith) (omega arith))

pub drawn_few : {A : Type 0} (most : ℕ) (draw : ℕ → ℕ → Drawn A) (n s : ℕ) → ((v from : ℕ) → length (draw v from).values ≤ most)
    → length (drawn_to draw n s).values ≤ most * n
drawn_few most draw zero s each = omega arith
drawn_few most draw (suc n) s each =
    let before = drawn_to draw n s in
    let all = length-append before.values (draw (suc n) before.state).values in
    omega (arith, all, drawn_few most draw n s each, each (suc n) before.state)
