-- Accesses laid over one another.
use Rattle.std.proofs.Common.{◌≡◌, ℕ, ◌&&◌, Bool, true, false, not, Option, Some, None, unwrap_or, if◌then◌else◌, List, refl, sym, ◌∙◌, ap}
use Rattle.std.specs.Option.{option_or}
use Rattle.route_base.specs.Runs.{any_has, has_minute}
use Rattle.route_base.specs.declared.types.Run.{Run}
use Rattle.vehicle_classes.specs.declared.classes.Purpose.{Purpose}
use Rattle.conditional_rules.specs.Accesses.{lets_purpose_in}
use Rattle.conditional_rules.specs.declared.access.Access.{Access}
use Rattle.conditional_rules.specs.declared.access.Access.TheVariants.{Free}
use Rattle.ban_expansion.specs.Bans.{Lays, barred_by, given_within}

over : (purpose : Purpose) (inside : Bool) (later earlier : Option Access) (before : Bool)
    → barred_by purpose (if inside then option_or later earlier else None) before
    ≡ barred_by purpose (if inside then later else None) (barred_by purpose (if inside then earlier else None) before)
over purpose true None earlier before = refl
over purpose true (Some access) earlier before = refl
over purpose false later earlier before = refl

-- what is given later is laid over what is given earlier
pub lays_more : (purpose : Purpose) (window : Run) (g h : ℕ → Option Access) (old between new : List Run)
    → Lays purpose window g old between → Lays purpose window h between new → Lays purpose window (λ t. option_or (h t) (g t)) old new
lays_more purpose window g h old between new first second = λ t.
    second t
    ∙ ap (barred_by purpose (given_within window t (h t))) (first t)
    ∙ sym (over purpose (has_minute t window) (h t) (g t) (any_has old t))

-- what is given may be said otherwise
pub lays_as : (purpose : Purpose) (window : Run) (g h : ℕ → Option Access) (old new : List Run)
    → ((t : ℕ) → g t ≡ h t) → Lays purpose window g old new → Lays purpose window h old new
lays_as purpose window g h old new same lays = λ t.
    lays t ∙ ap (λ (o : Option Access). barred_by purpose (given_within window t o) (any_has old t)) (same t)

-- where nothing was barred before, what isn't let in is barred
pub barred_at_last : (purpose : Purpose) (inside : Bool) (given : Option Access)
    → barred_by purpose (if inside then given else None) false ≡ (inside && not (lets_purpose_in (unwrap_or given Free) purpose))
barred_at_last purpose true None = refl
barred_at_last purpose true (Some access) = refl
barred_at_last purpose false given = refl
