use Rattle.std.proofs.Common.{◌≡◌, ◌+◌, ◌-◌, ◌≤◌, ◌<◌, ℕ, max, Some, ◌∙◌, ap, sym, subst, arith}
use Rattle.cost_functions.specs.Lines.{line_at}
use Rattle.function_merge.specs.Inside.Prefixes.{IsPrunedUpTo}
use Rattle.function_merge.proofs.PrunedPieces.{pruned_part}
use Rattle.function_merge.proofs.clearing.add_moved.Goals as goal

pub returns-then-end-lo-clause-pruned : goal.returns-then-end-lo-clause-pruned
returns-then-end-lo-clause-pruned c = λ wanted old right.
    let same : c.args.lo + c.args.minutes ≡ max c.args.lo c.args.end + c.args.minutes = omega (arith, c.if-end-lo.true) in
    subst (λ n. IsPrunedUpTo c.args.until c.args.pairs.now c.args.bound wanted c.args.built.now n) same old

pub returns-clause-pruned : goal.returns-clause-pruned
returns-clause-pruned c = λ wanted old right.
    let part = c.moved_part-part in
    let m = c.args.minutes in
    let until = c.args.until in
    let pairs = c.args.pairs.now in
    let bound = c.args.bound in
    let new = c.add_before.new.built in
    let ends : part.result.hi + 1 ≡ max c.args.lo c.args.end + m = omega (arith, part.ensures.hi, c.if-end-lo.false) in
    subst (IsPrunedUpTo until pairs bound wanted new) ends
    (pruned_part until pairs bound wanted c.args.built.now new part.result c.clear_until-stop.result
    (subst (IsPrunedUpTo until pairs bound wanted c.args.built.now) (sym part.ensures.lo) old)
    c.clear_until-stop.ensures c.in_ok-add_before.ensures
    (λ u from upto.
    let t : ℕ = u - m in
    let at : t + m ≡ u = omega (arith, from, part.ensures.lo) in
    let begun : c.args.lo ≤ t = omega (arith, from, at, part.ensures.lo) in
    let before : t < c.args.end = omega (arith, upto, at, part.ensures.hi) in
    subst (λ (n : ℕ). wanted n ≡ Some (line_at part.result n)) at (right t begun before ∙ ap Some (sym (part.ensures.line t begun before)))))
