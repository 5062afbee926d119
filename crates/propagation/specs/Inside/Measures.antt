-- How much is left to do: by this number the search ends (source: own; no law).
use Rattle.std.specs.Prelude.{ℕ, suc, ◌+◌, ◌*◌, Bool, true, false, Option, Some, None}
use Rattle.route_base.specs.declared.limits.TheConstants.{HIGHEST_COST}
use Rattle.potentials.specs.Inside.Totals.{total}
use Rattle.propagation.specs.Inside.Invariants.{Progress}

-- a cost, or more than any cost
abbrev pub height : Option ℕ → ℕ
height None = HIGHEST_COST + 1
height (Some x) = x

abbrev pub bit : Bool → ℕ
bit true = 1
bit false = 0

-- a cost that falls by one outweighs what becomes pending
abbrev pub rank : Progress → ℕ → ℕ → ℕ
rank now v t = 2 * height (now.cost v t) + bit (now.pending v t)

-- over all nodes and minutes
abbrev pub work : ℕ → ℕ → Progress → ℕ
work nodes until now = total (suc nodes) (λ v. total (suc until) (λ t. rank now v t))
