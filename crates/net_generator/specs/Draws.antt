-- Draws of a linear congruential generator (source: Park and Miller 1988, with the multiplier of 1993).
use Rattle.std.specs.Prelude.{◌≡◌, ℕ, zero, suc, ◌*◌, ◌%◌, List, [], ◌++◌}

-- the state that follows another
abbrev pub next_state : ℕ → ℕ
next_state s = s * 48271 % 2147483647

-- what was drawn, and the last state
pub record Drawn (A : Type 0) : Type 0 where
  pub values : List A
  pub state : ℕ

-- nothing is drawn
abbrev pub undrawn : {A : Type 0} → ℕ → Drawn A
undrawn s = record { values = []; state = s }

-- one draw after another
abbrev pub then_drawn : {A : Type 0} → Drawn A → Drawn A → Drawn A
then_drawn first second = record { values = first.values ++ second.values; state = second.state }

-- what is drawn from a state on for the numbers from 1 up to a number, in this order
abbrev pub drawn_to : {A : Type 0} → (ℕ → ℕ → Drawn A) → ℕ → ℕ → Drawn A
drawn_to draw zero s = undrawn s
drawn_to draw (suc n) s = then_drawn (drawn_to draw n s) (draw (suc n) (drawn_to draw n s).state)

-- a list goes on with what is drawn from a state, which leads to another
pub record Continues {A : Type 0} (draw : ℕ → Drawn A) (old : List A) (from : ℕ) (new : List A) (to : ℕ) : Type 0 where
  pub values : new ≡ old ++ (draw from).values
  pub state : to ≡ (draw from).state
