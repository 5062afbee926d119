use Rattle.std.proofs.Common.{◌≡◌, ◌+◌, ◌-◌, ◌*◌, ◌∙◌, ap, sym, arith}
use Rattle.cost_functions.specs.Lines.{line_at}
use Rattle.function_merge.proofs.KeptParts.{part_line}
use Rattle.function_merge.proofs.clearing.moved_part.Goals.{then-lo-end, else-lo-end}
use Rattle.function_merge.proofs.clearing.moved_part.Goals as goal

pub returns-clause-line : goal.returns-clause-line
returns-clause-line c = λ t from before.
    let p = c.args.piece in
    let lo = c.args.lo in
    let m = c.args.minutes in
    elim c.if-lo-end.branch [
      | then-lo-end w ↦ ap (λ s. c.value.result + c.args.cost + s * (t + m - (lo + m))) w.slope-is
          ∙ ap (λ v. v + c.args.cost + p.slope * (t + m - (lo + m))) c.value.ensures ∙ sym (part_line p lo m c.args.cost t c.requires.from from)
      | else-lo-end w ↦ (let first : t ≡ lo = omega (arith, from, before, w.if-lo-end.false) in
          omega (arith, ap (λ s. s * (t + m - (lo + m))) w.slope-is, c.value.ensures, ap (λ n. line_at p n) first))
    ]
