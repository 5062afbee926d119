use Rattle.std.proofs.Common.{◌≡◌, true, false, sym, ◌∙◌}
use Rattle.minute_sets.proofs.HeadRuns.{head_before, head_ends}
use Rattle.minute_sets.proofs.sweep.stretch_at.Goals as goal

pub returns-then-run-from-clause-change : goal.returns-then-run-from-clause-change
returns-then-run-from-clause-change c = λ some has.
    no_both (sym (head_ends c.args.runs.now c.in-len1-up.len_at_least c.requires.runs) ∙ has)
  where
    no_both : false ≡ true → ⊥
    no_both is = cc

pub returns-else-run-from-clause-same : goal.returns-else-run-from-clause-same
returns-else-run-from-clause-same c = λ t late early. head_before c.args.runs.now c.in-len1-up.len_at_least c.requires.runs t early
