-- Closures as they are drawn are lawful.
use Rattle.std.proofs.Common.{ℕ, ◌%◌, ◌≤◌, [], length, arith}
use Rattle.std.specs.Prelude.{◌==◌, All}
use Rattle.std.proofs.lemmas.List.Elements.{All-nil, All-cons}
use Rattle.net_generator.specs.Draws.{next_state}
use Rattle.net_generator.specs.Layout.{drawn_closure, closures_at, closures_drawn}
use Rattle.drawn_network.proofs.AllDrawn.{drawn_all, drawn_few}
use Rattle.drawn_network.proofs.DrawnOrNot.{drawn_or_not, one_or_none}
use Rattle.drawn_network.proofs.LawfulRows.{IsLawfulClosure}

one-lawful : (arcs a s : ℕ) → 1 ≤ a → a ≤ arcs → All (IsLawfulClosure arcs) (drawn_closure a s).values
one-lawful arcs a s low high =
    All-cons (IsLawfulClosure arcs) _ []
    (record { low = low; high = high; from = (omega arith, omega arith); to = (omega arith, omega arith); rises = omega arith })
    (All-nil (IsLawfulClosure arcs))

arc-lawful : (arcs a s : ℕ) → 1 ≤ a → a ≤ arcs → All (IsLawfulClosure arcs) (closures_at a s).values
arc-lawful arcs a s low high =
    drawn_or_not (All (IsLawfulClosure arcs)) (next_state s % 10 == 0) (drawn_closure a (next_state s)) (next_state s)
    (one-lawful arcs a (next_state s) low high) (All-nil (IsLawfulClosure arcs))

pub closures_drawn-lawful : (arcs s : ℕ) → All (IsLawfulClosure arcs) (closures_drawn arcs s).values
closures_drawn-lawful arcs s = drawn_all (IsLawfulClosure arcs) closures_at arcs s (λ a from low high. arc-lawful arcs a from low high)

at_most_one : (a s : ℕ) → length (closures_at a s).values ≤ 1
at_most_one a s = one_or_none (next_state s % 10 == 0) (drawn_closure a (next_state s)) (next_state s) (omega arith)

-- at most one for each arc
pub closures_drawn-length : (arcs s : ℕ) → length (closures_drawn arcs s).values ≤ arcs
closures_drawn-length arcs s = omega (arith, drawn_few 1 closures_at arcs s at_most_one)
