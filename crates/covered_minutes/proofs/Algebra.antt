-- Tests joined by 'and' and 'or'.
use Rattle.std.proofs.Common.{◌≡◌, ⊎_elim, ℕ, zero, suc, leb, ltb, ◌≤◌, ◌<◌, ◌&&◌, ◌||◌, Bool, true, false}
use Rattle.std.proofs.Common.{List, [], ◌∷◌, ◌++◌, refl, ◌∙◌, ap, arith}
use Rattle.std.specs.List.{list_any}
use Rattle.std.proofs.lemmas.List.Folds.{list_any-append}
use Rattle.std.proofs.lemmas.Bool.{or_cases, and_parts, leb-true, ltb-true}
use Rattle.route_base.specs.Runs.{has_minute, any_has}
use Rattle.route_base.specs.declared.types.Run.{Run}
use Rattle.route_base.proofs.Logic.{or-false}
use Rattle.opening_hours.specs.Coverage.{any_below}

pub any_pushed : (xs : List Run) (r : Run) (t : ℕ) → any_has (xs ++ r ∷ []) t ≡ (any_has xs t || has_minute t r)
any_pushed xs r t = list_any-append (has_minute t) xs (r ∷ []) ∙ ap (λ b. any_has xs t || b) (or-false (has_minute t r))

pub or_part : (o a b x : Bool) → ((o || (a && x)) || (b && x)) ≡ (o || ((a || b) && x))
or_part true a b x = refl
or_part false false b x = refl
or_part false true true true = refl
or_part false true true false = refl
or_part false true false true = refl
or_part false true false false = refl

pub and_agree : (b x y : Bool) → (b ≡ true → x ≡ y) → (b && x) ≡ (b && y)
and_agree true x y same = same refl
and_agree false x y same = refl

pub any_guarded : {X : Type 0} (a b : Bool) (p : X → Bool) (xs : List X) → list_any (λ x. a && (b && p x)) xs ≡ (a && (b && list_any p xs))
any_guarded true true p [] = refl
any_guarded true true p (x ∷ xs) = ap (λ c. p x || c) (any_guarded true true p xs)
any_guarded true false p [] = refl
any_guarded true false p (x ∷ xs) = any_guarded true false p xs
any_guarded false b p [] = refl
any_guarded false b p (x ∷ xs) = any_guarded false b p xs

pub below_found : (p : ℕ → Bool) (n : ℕ) → any_below p n ≡ true → (i : ℕ) × (i < n) × (p i ≡ true)
below_found p zero h = absurd (grind (arith, h))
below_found p (suc n) h =
    ⊎_elim
    (λ (early : any_below p n ≡ true). (let f = below_found p n early in (f.0, omega (arith, f.1), f.2)))
    (λ (last : p n ≡ true). (n, omega arith, last))
    (or_cases (any_below p n) (p n) h)

pub inside_low : (t : ℕ) (r : Run) → has_minute t r ≡ true → r.lo ≤ t
inside_low t r inside = leb-true r.lo t (and_parts (leb r.lo t) (ltb t r.hi) inside).0

pub inside_high : (t : ℕ) (r : Run) → has_minute t r ≡ true → t < r.hi
inside_high t r inside = ltb-true t r.hi (and_parts (leb r.lo t) (ltb t r.hi) inside).1
