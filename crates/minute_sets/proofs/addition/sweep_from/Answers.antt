use Rattle.std.proofs.Common.{◌≡◌, ◌-◌, ◌++◌, ◌||◌, ℕ, Bool, List, length, take, drop, ◌∙◌, ap, sym, subst}
use Rattle.std.proofs.lemmas.List.{take_rest}
use Rattle.std.proofs.lemmas.Result.{on_ok_weaker}
use Rattle.route_base.specs.Runs.{any_has, AreRuns}
use Rattle.route_base.specs.declared.types.Run.{Run}
use Rattle.minute_sets.proofs.AddedRuns.{added}
use Rattle.minute_sets.proofs.addition.sweep_from.Goals.{After-runs}
use Rattle.minute_sets.proofs.addition.sweep_from.Goals as goal

-- what both have, told of the runs that are there and not of the slice
told : (held xs both : List Run) (k : ℕ) (other : ℕ → Bool) → xs ≡ held → ((t : ℕ) → any_has both t ≡ (any_has (take (length xs - k) (drop k xs)) t || other t))
    → (t : ℕ) → any_has both t ≡ (any_has (drop k held) t || other t)
told held xs both k other same have t = have t ∙ ap (λ rs. any_has rs t || other t) (take_rest xs k ∙ ap (drop k) same)

-- the runs that stay, with those of both behind them
whole : (c : After-runs) → AreRuns (c.truncate.new.self.items ++ c.runs.result.now)
    × ((t : ℕ) → any_has (c.truncate.new.self.items ++ c.runs.result.now) t ≡ (any_has c.args.held.now.items t || any_has c.args.other.now t))
whole c =
    let held = c.args.held.now.items in
    let other = c.args.other.now in
    let k = c.args.place in
    let both = c.in_ok-both.both in
    let minutes = told held c.deref.result.now both k (any_has other) c.deref.ensures.value c.in_ok-both.ensures.minutes in
    let same = ap (λ rs. rs ++ both) (sym c.truncate.ensures.items) ∙ ap (λ rs. c.truncate.new.self.items ++ rs) (sym c.runs.ensures.items) in
    subst (λ rs. AreRuns rs × ((t : ℕ) → any_has rs t ≡ (any_has held t || any_has other t))) same
    (added held other both k c.requires.within c.requires.held c.in_ok-both.ensures.runs c.requires.early minutes)

pub append_all-requires-clause-whole : goal.append_all-requires-clause-whole
append_all-requires-clause-whole c = (whole c).0

pub returns-clause-minutes : goal.returns-clause-minutes
returns-clause-minutes c = on_ok_weaker c.append_all.result (λ items t.
    (ap (λ rs. any_has rs t) items ∙ (whole (goal.at.returns-clause-minutes c).After-runs).1 t)) c.append_all.ensures.items
