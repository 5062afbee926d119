use Rattle.std.proofs.Common.{sym}
use Rattle.conditional_rules.specs.Conditions as conditions
use Rattle.conditional_rules.proofs.Parentheses.{bracketed_found}
use Rattle.conditional_rules.proofs.parser.parts_text.Goals as goal

pub returns-then-not-has_parentheses-clause-found : goal.returns-then-not-has_parentheses-clause-found
returns-then-not-has_parentheses-clause-found c = λ parts h. conditions.bare (sym c.if-not-has_parentheses.ensures) h

pub returns-clause-found : goal.returns-clause-found
returns-clause-found c = λ parts h. bracketed_found c.in_ok-inner.inner.now c.in_ok-inner.ensures.found (sym c.if-has_parentheses.ensures)
    (rw c.trim.ensures at h)
