-- Steps each of which is the first source of its end.
use Rattle.std.proofs.Common.{◌≡◌, ℕ, Option, List, [], ◌∷◌, ◌++◌, refl, sym, subst}
use Rattle.route_base.specs.Itinerary.{Position, Step, Walks}
use Rattle.state_dominance.specs.Inside.Dominance.{Task}
use Rattle.ruled_search.specs.Inside.Sources.{AreFirstSteps, IsFirstSource}

module _ (k : Task) (cost : ℕ → ℕ → Option ℕ) where
  pub first_walk : (xs : List Step) (p q : Position) → AreFirstSteps k cost xs p q → Walks k.setting k.until xs p q
  first_walk [] p q first = first
  first_walk (x ∷ xs) p q first = (first.0, first.1.comes.move, first_walk xs first.0 q first.2)

  pub first_append : (xs ys : List Step) (p q o : Position) → AreFirstSteps k cost xs p q → AreFirstSteps k cost ys q o
      → AreFirstSteps k cost (xs ++ ys) p o
  first_append [] ys p q o one two = subst (λ (w : Position). AreFirstSteps k cost ys w o) (sym one) two
  first_append (x ∷ xs) ys p q o one two = (one.0, one.1, first_append xs ys one.0 q o one.2 two)

  pub first_parts : (xs ys : List Step) (p o : Position) → AreFirstSteps k cost (xs ++ ys) p o
      → (q : Position) × AreFirstSteps k cost xs p q × AreFirstSteps k cost ys q o
  first_parts [] ys p o first = (p, refl, first)
  first_parts (x ∷ xs) ys p o first =
      let rest = first_parts xs ys first.0 o first.2 in
      (rest.0, (first.0, first.1, rest.1), rest.2)
