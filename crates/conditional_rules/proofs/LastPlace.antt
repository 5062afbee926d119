-- The place of the last element that passes a test, where one element more stands at the end; and the value of that element.
use Rattle.std.proofs.Common.{◌≡◌, ℕ, suc, Bool, true, false, Option, Some, None, List, [], ◌∷◌, ◌++◌, length}
use Rattle.std.proofs.Common.{slice_get, refl, ap, subst, ◌∙◌, if◌then◌else◌}
use Rattle.std.specs.Option.{option_or, option_map, option_and_then}
use Rattle.conditional_rules.specs.Decisions.{last_given, last_place}

shift : (b : Bool) (n : ℕ) (o f : Option ℕ)
    → option_or (option_map (λ i. suc i) (option_or (if b then Some n else None) o)) f
    ≡ option_or (if b then Some (suc n) else None) (option_or (option_map (λ i. suc i) o) f)
shift true n o f = refl
shift false n o f = refl

at_end : (b : Bool) → option_or (option_map (λ i. suc i) None) (if b then Some 0 else None) ≡ option_or (if b then Some 0 else None) None
at_end true = refl
at_end false = refl

pub last_place_push : {P : Type 0} (p : P → Bool) (xs : List P) (x : P)
    → last_place p (xs ++ x ∷ []) ≡ option_or (if p x then Some (length xs) else None) (last_place p xs)
last_place_push p [] x = at_end (p x)
last_place_push p (y ∷ ys) x =
    ap (λ o. option_or (option_map (λ i. suc i) o) (if p y then Some 0 else None)) (last_place_push p ys x)
    ∙ shift (p x) (length ys) (last_place p ys) (if p y then Some 0 else None)

-- there is an element at the place of the last that passes
there_at_head : {P : Type 0} (b : Bool) (x : P) (xs : List P) (o : Option ℕ)
    → ((i : ℕ) → o ≡ Some i → (y : P) × (slice_get xs i ≡ Some y))
    → (i : ℕ) → option_or (option_map (λ i. suc i) o) (if b then Some 0 else None) ≡ Some i → (y : P) × (slice_get (x ∷ xs) i ≡ Some y)
there_at_head b x xs (Some j) there i is =
    let same : suc j ≡ i = cc in
    subst (λ k. (y : _) × (slice_get (x ∷ xs) k ≡ Some y)) same (there j refl)
there_at_head true x xs None there i is =
    let same : 0 ≡ i = cc in
    subst (λ k. (y : _) × (slice_get (x ∷ xs) k ≡ Some y)) same (x, refl)
there_at_head false x xs None there i is = absurd (cc)

pub there_at_last : {P : Type 0} (p : P → Bool) (xs : List P) (i : ℕ) → last_place p xs ≡ Some i → (y : P) × (slice_get xs i ≡ Some y)
there_at_last p [] i is = absurd (cc)
there_at_last p (x ∷ xs) i is = there_at_head (p x) x xs (last_place p xs) (there_at_last p xs) i is

or_there : {P A : Type 0} (g : P → A) (o : Option P) (y : P) (d : Option A) → o ≡ Some y → option_map g o ≡ option_or (option_map g o) d
or_there g None y d is = absurd (cc)
or_there g (Some z) y d is = refl

at_head : {P A : Type 0} (g : P → A) (b : Bool) (x : P) (xs : List P) (o : Option ℕ)
    → ((i : ℕ) → o ≡ Some i → (y : P) × (slice_get xs i ≡ Some y))
    → option_and_then (λ i. option_map g (slice_get (x ∷ xs) i)) (option_or (option_map (λ i. suc i) o) (if b then Some 0 else None))
    ≡ option_or (option_and_then (λ i. option_map g (slice_get xs i)) o) (if b then Some (g x) else None)
at_head g true x xs None there = refl
at_head g false x xs None there = refl
at_head g b x xs (Some i) there =
    let found = there i refl in
    or_there g (slice_get xs i) found.0 (if b then Some (g x) else None) found.1

-- the value of the element at that place is the last that is given
pub given_at_last : {P A : Type 0} (p : P → Bool) (g : P → A) (xs : List P)
    → option_and_then (λ i. option_map g (slice_get xs i)) (last_place p xs) ≡ last_given (λ x. if p x then Some (g x) else None) xs
given_at_last p g [] = refl
given_at_last p g (x ∷ xs) =
    at_head g (p x) x xs (last_place p xs) (there_at_last p xs)
    ∙ ap (λ o. option_or o (if p x then Some (g x) else None)) (given_at_last p g xs)
