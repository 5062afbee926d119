-- Tests and options, for the proofs of all crates.
use Rattle.std.proofs.Common.{◌≡◌, ℕ, ◌≤◌, ◌||◌, Bool, true, false, cond, ltb, Option, Some, None, IfSome, refl, sym, ap, arith}
use Rattle.std.specs.Prelude.{option_and_then, unwrap_or}
use Rattle.std.specs.Option.{is_some, option_flatten, option_map, option_or}
use Rattle.std.proofs.lemmas.Bool.{ltb-true, ltb-false}
use Rattle.std.proofs.lemmas.Option.{option_and_then_some}

pub or-false : (b : Bool) → (b || false) ≡ b
or-false true = refl
or-false false = refl

pub or-true : (b : Bool) → (b || true) ≡ true
or-true true = refl
or-true false = refl

pub same_from : (a b : Bool) → (a ≡ true → b ≡ true) → (b ≡ true → a ≡ true) → a ≡ b
same_from true b to back = sym (to refl)
same_from false true to back = back refl
same_from false false to back = refl

pub none_from_test : {A : Type 0} (o : Option A) → is_some o ≡ false → o ≡ None
none_from_test None h = refl
none_from_test (Some x) h = cc

-- a value behind a test is there only where the test holds
pub behind_test : {A : Type 0} (b : Bool) (o : Option A) (x : A) → cond b o None ≡ Some x → (b ≡ true) × (o ≡ Some x)
behind_test true o x h = (refl, h)
behind_test false o x h = absurd (cc)

-- a value behind a test has what it has where the test holds
pub when_true : {A : Type 0} (P : A → Type 0) (b : Bool) (o : Option A) → (b ≡ true → IfSome o P) → IfSome (cond b o None) P
when_true P true o h = h refl
when_true P false o h = tt

-- a place that isn't below the end is at or behind it
pub found_within : {A : Type 0} (a b : ℕ) (x : A) → cond (ltb a b) (Some x) None ≡ None → b ≤ a
found_within a b x h = grind (arith, ltb-true, ltb-false)

-- a value behind a step that may fail is there only where the step gives one
pub then_some : {A B : Type 0} (o : Option A) (f : A → Option B) (y : B) → option_and_then f o ≡ Some y → (x : A) × (o ≡ Some x) × (f x ≡ Some y)
then_some o f y h = option_and_then_some f o y h (λ x is found. (x, is, found))

-- a mapped value comes from one
pub map_some : {A B : Type 0} (o : Option A) (f : A → B) (y : B) → option_map f o ≡ Some y → (x : A) × (o ≡ Some x) × (f x ≡ y)
map_some None f y h = absurd (cc)
map_some (Some x) f y h = (x, refl, ap (λ o. unwrap_or o (f x)) h)

-- nothing mapped comes from nothing
pub none_mapped : {A B : Type 0} (f : A → B) (o : Option A) → option_map f o ≡ None → o ≡ None
none_mapped f None h = refl
none_mapped f (Some x) h = absurd (cc)

-- what is behind two options is there
pub flat_some : {A : Type 0} (o : Option (Option A)) (x : A) → option_flatten o ≡ Some x → o ≡ Some (Some x)
flat_some None x is = absurd (cc)
flat_some (Some None) x is = absurd (cc)
flat_some {A} (Some (Some y)) x is = ap (λ (w : Option A). Some w) is

-- neither of two is there
pub no_first : {A : Type 0} (o p : Option A) → option_or o p ≡ None → o ≡ None
no_first None p h = refl
no_first (Some x) p h = absurd (cc)

pub no_second : {A : Type 0} (o p : Option A) → option_or o p ≡ None → p ≡ None
no_second None p h = h
no_second (Some x) p h = absurd (cc)

pub option_or-none : {A : Type 0} (o : Option A) → option_or o None ≡ o
option_or-none None = refl
option_or-none (Some x) = refl

pub option_or-assoc : {A : Type 0} (o p q : Option A) → option_or (option_or o p) q ≡ option_or o (option_or p q)
option_or-assoc None p q = refl
option_or-assoc (Some x) p q = refl
