use Rattle.std.proofs.Common.{◌∙◌, arith}
use Rattle.route_base.specs.declared.types.Run.{Run}
use Rattle.minute_sets.proofs.FreeMinutes.{entries_more, gap_only, gap_every}
use Rattle.minute_sets.proofs.HeadRuns.{others_behind, rest_runs}
use Rattle.minute_sets.proofs.entries.entries_of.Goals as goal

pub gaps-preserved : goal.gaps-preserved
gaps-preserved c =
    let inv = c.gaps.invariant in
    let runs = c.args.runs.now in
    let w = c.args.window in
    let m = c.args.minutes in
    let some = c.requires.some in
    let one = c.in-len1-up.len_at_least in
    let left = c.gaps.left.now in
    let from = c.gaps.from in
    let append = c.in_ok-append.ensures in
    let added : Run = record { lo = from; hi = c.saturating_sub.result } in
    let to = c.max-from.ensures in
    let filled = inv.left.filled 0 (record { lo = 0; hi = 0 }) (omega (arith, one)) in
    let hi = c.saturating_sub.ensures in
    let end = c.min-end.ensures in
    record {
      entries = entries_more runs w m some c.gaps.entries c.append.new.self added c.max-from.result (omega (arith, to)) append.minutes
          inv.entries (omega (arith, to, hi, end, filled)) append.begins
          (λ t late early.
          gap_only runs w m some from left one inv.left inv.same inv.begun t late (omega (arith, early, hi, end)) (omega (arith, early, hi, end)))
          (λ t late before is.
          let fits = gap_every runs w m some from left one inv.left inv.same t late (omega (arith, before, to)) is in
          let ends = is.ends in
          omega (arith, fits, ends, hi, end, some));
      left = rest_runs left one inv.left;
      same = λ t late. others_behind left one t (omega (arith, late, to)) ∙ inv.same t (omega (arith, late, to));
      begun = omega (arith, to, inv.begun);
    }
