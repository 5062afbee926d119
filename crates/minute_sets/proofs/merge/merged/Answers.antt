use Rattle.std.proofs.Common.{◌+◌, ◌||◌, get_or, sym, ◌∙◌, ap, arith}
use Rattle.std.proofs.lemmas.List.{get_or_default}
use Rattle.std.proofs.lemmas.List.Folds.{list_any_more}
use Rattle.route_base.specs.Runs.{has_minute}
use Rattle.route_base.specs.declared.types.Run.{Run}
use Rattle.minute_sets.proofs.merge.merged.Goals as goal

pub loop-run-preserved : goal.loop-run-preserved
loop-run-preserved c =
    let xs = c.args.runs.now in
    let i = c.loop-run.run-index in
    let none : Run = record { lo = 0; hi = 0 } in
    record {
      runs = c.in_ok-add.ensures.runs;
      begins = λ d h k d' w.
          (let here = c.in_ok-add.ensures.begins k d' w in
          let next = c.requires i (i + 1) none (omega arith) h in
          let same = ap (λ (r : Run). r.lo) (get_or_default xs (i + 1) none d h) in
          omega (arith, here, next, same));
      minutes = λ t.
          c.in_ok-add.ensures.minutes t
          ∙ ap (λ b. b || has_minute t (get_or xs i none)) (c.loop-run.invariant.minutes t)
          ∙ sym (list_any_more (has_minute t) xs i none (omega arith));
    }
