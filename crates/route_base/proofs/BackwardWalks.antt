-- Walks by their steps from the last one back.
use Rattle.std.proofs.Common.{◌≡◌, ℕ, List, [], ◌∷◌, ◌++◌, refl, sym, subst}
use Rattle.std.specs.Prelude.{reverse}
use Rattle.std.proofs.lemmas.List.{reverse-append}
use Rattle.route_base.specs.Setting.{Setting}
use Rattle.route_base.specs.Itinerary.{Position, Step, Moves, Walks}

module _ (s : Setting) (until : ℕ) where
  -- steps, the last one first, that lead from p to q
  abbrev pub LeadsBack : List Step → Position → Position → Type 0
  LeadsBack [] p q = p ≡ q
  LeadsBack (x ∷ xs) p q = (u : Position) × LeadsBack xs p u × Moves s until x u q

  leads_push : (xs : List Step) (x : Step) (p q u : Position) → LeadsBack xs q u → Moves s until x p q → LeadsBack (xs ++ x ∷ []) p u
  leads_push [] x p q u leads move = (p, refl, subst (λ (w : Position). Moves s until x p w) leads move)
  leads_push (y ∷ xs) x p q u leads move = (leads.0, leads_push xs x p q leads.0 leads.1 move, leads.2)

  -- a walk's steps reversed lead there
  pub leads_back : (xs : List Step) (p q : Position) → Walks s until xs p q → LeadsBack (reverse xs) p q
  leads_back [] p q walk = walk
  leads_back (x ∷ xs) p q walk = subst (λ (w : List Step). LeadsBack w p q) (sym (reverse-append (x ∷ []) xs))
      (leads_push (reverse xs) x p walk.0 q (leads_back xs walk.0 q walk.2) walk.1)
