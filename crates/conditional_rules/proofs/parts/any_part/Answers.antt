use Rattle.std.proofs.Common.{◌≡◌, true, false, List, ℕ, sym, subst}
use Rattle.conditional_rules.specs.Conditions.{has_sign, is_flag, IsPart}
use Rattle.conditional_rules.specs.Conditions as law
use Rattle.conditional_rules.specs.declared.conditional.Part.TheVariants.{Flag}
use Rattle.conditional_rules.proofs.parts.any_part.Goals as goal

pub returns-in_ok-copied-clause-found : goal.returns-in_ok-copied-clause-found
returns-in_ok-copied-clause-found c =
    let text = c.args.text.now in
    let no_sign : has_sign text ≡ false = cc in
    let flag : is_flag text ≡ true = cc in
    subst (λ (w : List ℕ). IsPart text (Flag w)) (sym c.in_ok-copied.ensures) (law.flagged no_sign flag)
