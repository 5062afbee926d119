use Rattle.std.proofs.Common.{◌≡◌, ◌≤◌, ◌<◌, ◌&&◌, ◌||◌, ◌++◌, false, leb, ltb, length, get_or, take, All, sym, ◌∙◌, ap, subst, arith}
use Rattle.std.proofs.lemmas.Bool.{ltb-true, ltb-false}
use Rattle.std.proofs.lemmas.List.{drop_all}
use Rattle.std.proofs.lemmas.Result.{on_ok_weaker}
use Rattle.route_base.specs.Runs.{any_has}
use Rattle.route_base.specs.declared.types.Run.{Run}
use Rattle.route_base.proofs.Logic.{or-false}
use Rattle.minute_sets.proofs.SplitRuns.{early_runs, over_runs, begin_before}
use Rattle.minute_sets.proofs.split.copy_before.Goals.{In-Some, In-None, After-extend_from_slice}
use Rattle.minute_sets.proofs.split.copy_before.Goals as goal

pub add-requires-clause-later : goal.add-requires-clause-later
add-requires-clause-later c =
    let items : c.extend_from_slice.new.self.items ≡ take c.args.count c.args.runs.now
    = c.in_ok-extend_from_slice.ensures.items ∙ ap (λ xs. xs ++ take c.args.count c.args.runs.now) c.clear.ensures.items in
    let some : c.args.count < length c.args.runs.now = ltb-true _ _ (sym c.in-Some.ensures.lookup.0) in
    subst (All (λ r. r.lo ≤ c.in-Some.run'.now.lo)) (sym items)
    (begin_before c.args.runs.now c.args.count c.in-Some.run'.now c.requires.runs some c.in-Some.ensures.lookup.1)

pub returns-in-Some-clause-minutes : goal.returns-in-Some-clause-minutes
returns-in-Some-clause-minutes c = on_ok_weaker c.add.result (λ minutes t.
    let rs = c.args.runs.now in
    let k = c.args.count in
    let run = c.in-Some.run'.now in
    let first = leb run.lo t && ltb t c.args.end in
    let items : c.extend_from_slice.new.self.items ≡ take k rs
    = c.in_ok-extend_from_slice.ensures.items ∙ ap (λ xs. xs ++ take k rs) c.clear.ensures.items in
    let some : k < length rs = ltb-true _ _ (sym c.in-Some.ensures.lookup.0) in
    let over = c.requires.late run some in
    let is : run ≡ get_or rs k run = c.in-Some.ensures.lookup.1 in
    minutes t
    ∙ ap (λ xs. any_has xs t || first) items
    ∙ early_runs rs k c.args.end t first c.requires.early
    (over_runs rs k run c.requires.runs some is c.args.end t (omega (arith, over, ap (λ (r : Run). r.hi) is)))) c.add.ensures.minutes

pub returns-in-None-clause-minutes : goal.returns-in-None-clause-minutes
returns-in-None-clause-minutes c = λ t.
    let rs = c.args.runs.now in
    let k = c.args.count in
    let items : c.extend_from_slice.new.self.items ≡ take k rs
    = c.in_ok-extend_from_slice.ensures.items ∙ ap (λ xs. xs ++ take k rs) c.clear.ensures.items in
    let none : length rs ≤ k = ltb-false _ _ (sym c.in-None.ensures.lookup.0) in
    ap (λ xs. any_has xs t) items
    ∙ sym (or-false (any_has (take k rs) t))
    ∙ early_runs rs k c.args.end t false c.requires.early (ap (λ xs. any_has xs t && ltb t c.args.end) (sym (drop_all k rs none)))
