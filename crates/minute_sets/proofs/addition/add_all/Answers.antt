use Rattle.std.proofs.Common.{◌<◌, All, length, get_or, ap, subst, arith}
use Rattle.std.specs.List.{AllWithin}
use Rattle.route_base.specs.declared.types.Run.{Run}
use Rattle.minute_sets.proofs.AddedRuns.{runs_append, end_before}
use Rattle.minute_sets.proofs.addition.add_all.Goals.{After-ending_before-keep}
use Rattle.minute_sets.proofs.addition.add_all.Goals as goal

early : (c : After-ending_before-keep) → AllWithin (λ (r : Run). All (λ q. r.hi < q.lo) c.args.other.now) c.args.held.now.items 0 c.ending_before-keep.result
early c =
    let first : Run = record { lo = 0; hi = 0 } in
    let k = c.ending_before-keep.result in
    end_before c.args.held.now.items c.args.other.now k first c.requires.other
    (subst (λ rs. AllWithin (λ r. r.hi < (get_or c.args.other.now 0 first).lo) rs 0 k) c.deref.ensures.value c.ending_before-keep.ensures.early)

pub append_all-requires-clause-whole : goal.append_all-requires-clause-whole
append_all-requires-clause-whole c = runs_append c.args.held.now.items c.args.other.now c.requires.held c.requires.other
    (λ i d within. early (goal.at.append_all-requires-clause-whole c).After-ending_before-keep i d (omega arith)
    (omega (arith, within, c.len.ensures, c.deref.ensures.len, ap length c.deref.ensures.value)))

pub sweep_from-requires-clause-early : goal.sweep_from-requires-clause-early
sweep_from-requires-clause-early c = early (goal.at.sweep_from-requires-clause-early c).After-ending_before-keep
