-- The value of the last element that gives one, in two lists one after another.
use Rattle.std.proofs.Common.{◌≡◌, Option, List, [], ◌∷◌, ◌++◌, sym, ap, ◌∙◌}
use Rattle.std.specs.Option.{option_or}
use Rattle.route_base.proofs.Logic.{option_or-none, option_or-assoc}
use Rattle.conditional_rules.specs.Decisions.{last_given}

pub last_append : {Q A : Type 0} (f : Q → Option A) (xs ys : List Q) → last_given f (xs ++ ys) ≡ option_or (last_given f ys) (last_given f xs)
last_append f [] ys = sym (option_or-none (last_given f ys))
last_append f (x ∷ xs) ys = ap (λ o. option_or o (f x)) (last_append f xs ys) ∙ option_or-assoc (last_given f ys) (last_given f xs) (f x)
