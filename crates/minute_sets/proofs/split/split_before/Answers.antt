use Rattle.std.proofs.Common.{◌≡◌, ◌≤◌, ◌-◌, ◌&&◌, ◌++◌, not, ltb, length, take, drop, ◌∙◌, ap, subst, arith}
use Rattle.std.specs.List.{AllWithin}
use Rattle.std.proofs.lemmas.List.{take_at, length-drop}
use Rattle.route_base.specs.Runs.{any_has}
use Rattle.route_base.specs.declared.types.Run.{Run}
use Rattle.minute_sets.proofs.SplitRuns.{late_runs}
use Rattle.minute_sets.proofs.split.split_before.Goals as goal

pub returns-clause-after : goal.returns-clause-after
returns-clause-after c = λ t.
    let held = c.args.held.now.items in
    let k = c.ending_by-count.result in
    let items : c.rotate_left.new.self.items ≡ drop k held ++ take k held = c.rotate_left.ensures.items in
    let long : length (drop k held) ≡ c.len.result - k
    = omega (arith, length-drop k held, c.len.ensures, c.rotate_left.ensures.len, ap length c.deref.ensures.value, c.deref.ensures.len) in
    let rest : c.truncate.new.self.items ≡ drop k held
    = c.truncate.ensures.items ∙ ap (take (c.len.result - k)) items ∙ take_at (drop k held) (take k held) (c.len.result - k) long in
    let le : k ≤ length held = omega (arith, c.ending_by-count.ensures.within, ap length c.deref.ensures.value) in
    let early = subst (λ rs. AllWithin (λ (r : Run). r.hi ≤ c.args.end) rs 0 k) c.deref.ensures.value c.ending_by-count.ensures.early in
    c.begin_at.ensures.minutes t ∙ ap (λ rs. any_has rs t && not (ltb t c.args.end)) rest ∙ late_runs held k c.args.end t le early
