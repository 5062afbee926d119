-- Walks without their first steps.
use Rattle.std.proofs.Common.{ℕ, List, [], ◌∷◌, ◌++◌}
use Rattle.route_base.specs.Setting.{Setting}
use Rattle.route_base.specs.Itinerary.{Position, Step, Walks}

module _ (s : Setting) (until : ℕ) where
  -- the walk behind its first steps
  pub walk_after : (xs ys : List Step) (p q : Position) → Walks s until (xs ++ ys) p q → (r : Position) × Walks s until ys r q
  walk_after [] ys p q walk = (p, walk)
  walk_after (x ∷ xs) ys p q walk = walk_after xs ys walk.0 q walk.2
