-- The last item that gives a value, in lists one after another.
use Rattle.std.proofs.Common.{◌≡◌, Option, List, [], ◌∷◌, refl, sym, ◌∙◌, ap}
use Rattle.std.specs.Option.{option_or}
use Rattle.conditional_rules.specs.Decisions.{last_given}
use Rattle.conditional_rules.proofs.LastGiven.{last_append}
use Rattle.ban_expansion.specs.Layers.{all_parts}

pub last_flat : {P Q A : Type 0} (parts : P → List Q) (f : Q → Option A) (places : List P)
    → last_given (λ p. last_given f (parts p)) places ≡ last_given f (all_parts parts places)
last_flat parts f [] = refl
last_flat parts f (p ∷ ps) = ap (λ o. option_or o (last_given f (parts p))) (last_flat parts f ps) ∙ sym (last_append f (parts p) (all_parts parts ps))
