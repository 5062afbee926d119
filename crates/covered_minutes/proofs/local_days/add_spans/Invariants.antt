use Rattle.std.proofs.Common.{◌&&◌, take}
use Rattle.std.specs.List.{list_any}
use Rattle.covered_minutes.specs.LocalDays.{Adds, local_of, is_in, span_holds}
use Rattle.covered_minutes.proofs.local_days.add_spans.Given as goal

abbrev pub invariant-loop-span : goal.invariant-loop-span
invariant-loop-span l = Adds l.fn.runs.items l.runs.items (λ t.
    is_in l.stretch t && list_any (span_holds l.day (local_of l.stretch.ahead t)) (take l.span-index l.spans))
