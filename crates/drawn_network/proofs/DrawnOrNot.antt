-- What holds of what is drawn or not.
use Rattle.std.proofs.Common.{ℕ, ◌≤◌, Bool, true, false, cond, List, [], length, arith}
use Rattle.net_generator.specs.Draws.{Drawn, undrawn}

-- what holds of what is drawn, and of nothing, holds either way
pub drawn_or_not : {A : Type 0} (P : List A → Type 0) (b : Bool) (drawn : Drawn A) (s : ℕ) → P drawn.values → P [] → P (cond b drawn (undrawn s)).values
drawn_or_not P true drawn s some none = some
drawn_or_not P false drawn s some none = none

-- at most one is drawn
pub one_or_none : {A : Type 0} (b : Bool) (drawn : Drawn A) (s : ℕ) → length drawn.values ≤ 1 → length (cond b drawn (undrawn s)).values ≤ 1
one_or_none b drawn s one = drawn_or_not (λ values. length values ≤ 1) b drawn s one (omega arith)
