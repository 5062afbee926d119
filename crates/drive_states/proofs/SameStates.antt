-- Equal states.
use Rattle.std.proofs.Common.{◌≡◌, ℕ, ◌∙◌, ap}
use Rattle.drive_states.specs.declared.rule.State.{State}

state_of : ℕ → ℕ → State
state_of v r = record { node = record { 0 = v }; driven = r }

pub same_state : (a b : State) → a.node.0 ≡ b.node.0 → a.driven ≡ b.driven → a ≡ b
unfolding state_of
same_state a b v r = ap (λ (w : ℕ). state_of w a.driven) v ∙ ap (λ (w : ℕ). state_of b.node.0 w) r
