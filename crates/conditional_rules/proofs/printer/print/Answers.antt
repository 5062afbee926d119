use Rattle.std.proofs.Common.{◌≡◌, ℕ, List, rules, subst, sym}
use Rattle.conditional_rules.specs.CanonicalText.{conditional_text}
use Rattle.conditional_rules.specs.Conditions.{IsConditional}
use Rattle.conditional_rules.proofs.CanonicalReading.{canonical_again}
use Rattle.conditional_rules.proofs.OneReading.{one_reading}
use Rattle.conditional_rules.proofs.printer.print.Goals as goal

pub returns-clause-read : goal.returns-clause-read
returns-clause-read c =
    let clauses = c.args.conditional.now in
    let e : c.push_clauses.new.out.items ≡ conditional_text clauses = search rules in
    subst (λ (text : List ℕ). IsConditional text clauses) (sym e) (canonical_again clauses c.clauses.ensures.read)

pub returns-clause-only : goal.returns-clause-only
returns-clause-only c = λ others h.
    let clauses = c.args.conditional.now in
    let e : c.push_clauses.new.out.items ≡ conditional_text clauses = search rules in
    one_reading (conditional_text clauses) others clauses (subst (λ (text : List ℕ). IsConditional text others) e h)
    (canonical_again clauses c.clauses.ensures.read)
