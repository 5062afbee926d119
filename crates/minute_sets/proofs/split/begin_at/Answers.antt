use Rattle.std.proofs.Common.{◌≡◌, ℕ, ◌<◌, ◌&&◌, not, max, ltb, List, [], ◌∷◌, set, length, get_or, ap, subst, sym, ◌∙◌, arith}
use Rattle.route_base.specs.Runs.{any_has, AreRuns}
use Rattle.route_base.specs.declared.types.Run.{Run}
use Rattle.minute_sets.proofs.SplitRuns.{first_behind}
use Rattle.minute_sets.proofs.split.begin_at.Goals as goal

cut : (rs : List Run) (first : Run) (minute t : ℕ) → 0 < length rs → first ≡ get_or rs 0 first → AreRuns rs → minute < (get_or rs 0 first).hi
    → any_has (set rs 0 (record { lo = max first.lo minute; hi = first.hi })) t ≡ (any_has rs t && not (ltb t minute))
cut [] first minute t some same are over = absurd (omega (arith, some))
cut (r ∷ rs) first minute t some same are over =
    subst (λ (f : Run). any_has (record { lo = max f.lo minute; hi = f.hi } ∷ rs) t ≡ (any_has (r ∷ rs) t && not (ltb t minute))) (sym same)
    (first_behind r rs minute t are over)

pub returns-in-Some-clause-minutes : goal.returns-in-Some-clause-minutes
returns-in-Some-clause-minutes c = λ t.
    let runs = c.args.runs.now.items in
    let first = c.in-Some.first.now in
    let some : 0 < length runs = omega (arith, c.in-Some.ensures.item.3.0) in
    ap (λ m. any_has (set runs 0 (record { lo = m; hi = first.hi })) t) c.max-first.ensures
    ∙ cut runs first c.args.minute t some c.in-Some.ensures.value c.requires.runs (c.requires.late first some)
