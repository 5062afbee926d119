use Rattle.std.proofs.Common.{◌≡◌, ℕ, List, rules, subst, sym}
use Rattle.opening_hours.specs.CanonicalTokens.{hours_text}
use Rattle.opening_hours.specs.Hours.{IsHours}
use Rattle.opening_hours.specs.PlainText.{IsPlain}
use Rattle.opening_hours.proofs.PlainTexts.{hours_plain}
use Rattle.opening_hours.proofs.Whole.{print_read, one_reading}
use Rattle.opening_hours.proofs.printer.tokens.print.Goals as goal

pub returns-clause-read : goal.returns-clause-read
returns-clause-read c =
    let e : c.in_ok-spelled.field-0.items ≡ hours_text c.args.hours.now = search rules in
    subst (λ (text : List ℕ). IsHours text c.args.hours.now) (sym e) (print_read c.args.hours.now c.rules.ensures.read)

pub returns-clause-only : goal.returns-clause-only
returns-clause-only c = λ us h.
    let e : c.in_ok-spelled.field-0.items ≡ hours_text c.args.hours.now = search rules in
    one_reading (hours_text c.args.hours.now) c.args.hours.now us (print_read c.args.hours.now c.rules.ensures.read)
    (subst (λ (text : List ℕ). IsHours text us) e h)

pub returns-clause-plain : goal.returns-clause-plain
returns-clause-plain c =
    let e : c.in_ok-spelled.field-0.items ≡ hours_text c.args.hours.now = search rules in
    subst IsPlain (sym e) (hours_plain (hours_text c.args.hours.now) c.args.hours.now (print_read c.args.hours.now c.rules.ensures.read))
