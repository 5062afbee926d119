-- The runs from a place on.
use Rattle.std.proofs.Common.{◌≡◌, ℕ, ◌≤◌, zero, suc, List, [], ◌∷◌, length, drop, refl, ◌∙◌, sym, arith}
use Rattle.std.specs.List.{AllWithin}
use Rattle.route_base.specs.Runs.{any_has}
use Rattle.route_base.specs.declared.types.Run.{Run}
use Rattle.route_base.proofs.FirstRuns.{in_others, not_behind}

-- those that end by a minute do not have it
pub any_drop : (rs : List Run) (k t : ℕ) → k ≤ length rs → AllWithin (λ r. r.hi ≤ t) rs 0 k → any_has (drop k rs) t ≡ any_has rs t
any_drop rs zero t le before = refl
any_drop [] (suc k) t le before = absurd (omega (arith, le))
any_drop (r ∷ rs) (suc k) t le before =
    any_drop rs k t (omega (arith, le)) (λ j d from upto. before (suc j) d (omega arith) (omega (arith, upto)))
    ∙ sym (in_others r rs t (not_behind r t (before 0 r (omega arith) (omega arith))))
