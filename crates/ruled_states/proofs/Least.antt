-- The lesser of values that may be missing.
use Rattle.std.proofs.Common.{◌≡◌, ℕ, Option, Some, None, refl, ap, arith}
use Rattle.function_merge.specs.Least.{least_of}

pub least_of-assoc : (a b c : Option ℕ) → least_of (least_of a b) c ≡ least_of a (least_of b c)
least_of-assoc None b c = refl
least_of-assoc (Some x) None c = refl
least_of-assoc (Some x) (Some y) None = refl
least_of-assoc (Some x) (Some y) (Some z) = ap (λ (n : ℕ). Some n) (omega arith)

pub least_of-none : (a : Option ℕ) → least_of a None ≡ a
least_of-none None = refl
least_of-none (Some x) = refl
