-- Lists made from a function of numbers from one on, after a write and after one row more.
use Rattle.std.proofs.Common.{◌≡◌, ℕ, zero, suc, ◌+◌, ◌<◌, Bool, true, false, cond, ltb, Option, Some, None, List, [], ◌∷◌, ◌++◌, length, map, get_or}
use Rattle.std.proofs.Common.{refl, sym, ◌∙◌, ap, arith, ⊎_elim, get_or-set_same, get_or-set_other, length-set}
use Rattle.std.proofs.Math.ListN.{set}
use Rattle.std.specs.List.{range_with_len, filter_map, cons_option, slice_get, position, position_or_len, list_any}
use Rattle.std.specs.Option.{option_map, option_and_then, is_some}
use Rattle.std.specs.Prelude.{not, ◌||◌}
use Rattle.std.proofs.lemmas.List.Elements.{filter_map-append}
use Rattle.std.specs.Map.{lookup}
use Rattle.std.proofs.lemmas.Bool.{cases_eq, ltb-true}
use Rattle.std.proofs.lemmas.Option.{cond_some}
use Rattle.std.proofs.lemmas.List.FromFn.{get_or-map-range_with_len, length-map-range_with_len}

-- a list with these elements at each place
pub from_places : {X : Type 0} (f : ℕ → X) (a : ℕ) (xs : List X) (n : ℕ) (d : X) → length xs ≡ n → ((k : ℕ) → k < n → get_or xs k d ≡ f (a + k))
    → xs ≡ map f (range_with_len a n)
from_places f a [] zero d len at = refl
from_places f a [] (suc n) d len at = absurd (omega (arith, len))
from_places f a (x ∷ xs) zero d len at = absurd (omega (arith, len))
from_places f a (x ∷ xs) (suc n) d len at =
    let zero_more : a + 0 ≡ a = omega arith in
    let head : x ≡ f a = at 0 (omega arith) ∙ ap f zero_more in
    let tail : xs ≡ map f (range_with_len (a + 1) n) =
    from_places f (a + 1) xs n d (omega (arith, len))
    (λ k h. (let e : a + suc k ≡ a + 1 + k = omega arith in at (suc k) (omega (arith, h)) ∙ ap f e)) in
    cc

-- after a write at one place, where the function changes there alone
pub range-written : {X : Type 0} (f g : ℕ → X) (n : ℕ) (xs : List X) (i : ℕ) (x d : X) → xs ≡ map f (range_with_len 1 n) → i < n → x ≡ g (i + 1)
    → ((v : ℕ) → (v ≡ i + 1 → ⊥) → g v ≡ f v)
    → set xs i x ≡ map g (range_with_len 1 n)
range-written f g n xs i x d is within here others =
    let len : length xs ≡ n = ap length is ∙ length-map-range_with_len f 1 n in
    let within_xs : i < length xs = omega arith in
    from_places g 1 (set xs i x) n d (length-set xs i x ∙ len) (λ k h.
    ⊎_elim
    (λ (same : k ≡ i). (let at : get_or (set xs i x) i d ≡ x = get_or-set_same xs i x d within_xs in let e : i + 1 ≡ 1 + k = omega arith in
    ap (λ (j : ℕ). get_or (set xs i x) j d) same ∙ at ∙ here ∙ ap g e))
    (λ (other : k ≡ i → ⊥). (let e : (1 + k ≡ i + 1 → ⊥) = λ p. other (omega (arith, p)) in
    get_or-set_other xs i k x d other ∙ ap (λ (ys : List _). get_or ys k d) is ∙ get_or-map-range_with_len f 1 n k (1 + k) d h refl
    ∙ sym (others (1 + k) e)))
    (cases_eq k i))

-- a look-up with one entry more
pub lookup-other : {K V : Type 0} (test : K → Bool) (es : List (K × V)) (e : K × V) → test e.0 ≡ false → lookup test (es ++ e ∷ []) ≡ lookup test es
lookup-other test [] e h = ap (λ (b : Bool). cond b (Some e.1) None) h
lookup-other test (x ∷ es) e h = ap (λ (o : Option _). cond (test x.0) (Some x.1) o) (lookup-other test es e h)

pub lookup-new : {K V : Type 0} (test : K → Bool) (es : List (K × V)) (e : K × V) → lookup test es ≡ None → test e.0 ≡ true
    → lookup test (es ++ e ∷ []) ≡ Some e.1
lookup-new test [] e none h = ap (λ (b : Bool). cond b (Some e.1) None) h
lookup-new test (x ∷ es) e none h =
    elim (test x.0) as (λ b. cond b (Some x.1) (lookup test es) ≡ None → cond b (Some x.1) (lookup test (es ++ e ∷ [])) ≡ Some e.1) [
      | true ↦ λ p. cc
      | false ↦ λ p. lookup-new test es e p h
    ] none

-- a look-up in entries whose keys are seen through a function
pub lookup-map : {K L V : Type 0} (f : K → L) (test : L → Bool) (es : List (K × V))
    → lookup test (map (λ (e : K × V). (f e.0, e.1)) es) ≡ lookup (λ k. test (f k)) es
lookup-map f test [] = refl
lookup-map f test (e ∷ es) = ap (λ (o : Option _). cond (test (f e.0)) (Some e.1) o) (lookup-map f test es)

-- what one element more gives
pub filter_map-push : {X Y : Type 0} (h : X → Option Y) (xs : List X) (x : X) (y : Y) → h x ≡ Some y → filter_map h (xs ++ x ∷ []) ≡ filter_map h xs ++ y ∷ []
filter_map-push h xs x y e = filter_map-append h xs (x ∷ []) ∙ ap (λ (o : Option _). filter_map h xs ++ cons_option o []) e

-- the first place that passes, in front of one element more
pub position-cons : {X : Type 0} (test : X → Bool) (x : X) (xs : List X) → position test (x ∷ xs) ≡ cond (test x) (Some 0) (option_map suc (position test xs))
position-cons test x xs =
    elim (test x) as (λ b. cond (ltb (cond (not b) (1 + position_or_len test xs) 0) (suc (length xs)))
    (Some (cond (not b) (1 + position_or_len test xs) 0)) None ≡ cond b (Some 0) (option_map suc (position test xs))) [
      | true ↦ first (length xs)
      | false ↦ later (position_or_len test xs) (length xs)
    ]
  where
    first : (n : ℕ) → cond {A = Option ℕ} (ltb 0 (suc n)) (Some 0) None ≡ Some 0
    first n = grind arith

    later : (i n : ℕ) → cond {A = Option ℕ} (ltb (1 + i) (suc n)) (Some (1 + i)) None ≡ option_map suc (cond (ltb i n) (Some i) None)
    later i n = grind arith

-- a place in elements that are seen through a function
pub position-map : {X Y : Type 0} (f : X → Y) (test : Y → Bool) (xs : List X) → position test (map f xs) ≡ position (λ x. test (f x)) xs
position-map f test [] = refl
position-map f test (x ∷ xs) =
    position-cons test (f x) (map f xs) ∙ ap (λ (o : Option ℕ). cond (test (f x)) (Some 0) (option_map suc o)) (position-map f test xs)
    ∙ sym (position-cons (λ y. test (f y)) x xs)

-- what stands at the place of a key is its value
pub value_at_place : {K V : Type 0} (test : K → Bool) (es : List (K × V))
    → option_and_then (slice_get (map (λ (e : K × V). e.1) es)) (position test (map (λ (e : K × V). e.0) es)) ≡ lookup test es
value_at_place test [] = refl
value_at_place {K} {V} test (e ∷ es) =
    ap (λ (o : Option ℕ). option_and_then (slice_get (map (λ (x : K × V). x.1) (e ∷ es))) o) (position-cons test e.0 (map (λ (x : K × V). x.0) es))
    ∙ here (test e.0) (value_at_place test es)
  where
    later : (o : Option ℕ) → option_and_then (slice_get (e.1 ∷ map (λ (x : K × V). x.1) es)) (option_map suc o) ≡ option_and_then
        (slice_get (map (λ (x : K × V). x.1) es)) o
    later None = refl
    later (Some i) = refl

    here : (b : Bool) → option_and_then (slice_get (map (λ (x : K × V). x.1) es)) (position test (map (λ (x : K × V). x.0) es)) ≡ lookup test es
        → option_and_then (slice_get (e.1 ∷ map (λ (x : K × V). x.1) es))
        (cond b (Some 0) (option_map suc (position test (map (λ (x : K × V). x.0) es)))) ≡ cond b (Some e.1) (lookup test es)
    here true more = refl
    here false more = later (position test (map (λ (x : K × V). x.0) es)) ∙ more

-- whether some place passes
pub is_some-position : {X : Type 0} (test : X → Bool) (xs : List X) → is_some (position test xs) ≡ list_any test xs
is_some-position test [] = refl
is_some-position {X} test (x ∷ xs) = ap (λ (o : Option ℕ). is_some o) (position-cons test x xs) ∙ here (test x) (is_some-position test xs)
  where
    later : (o : Option ℕ) → is_some (option_map suc o) ≡ is_some o
    later None = refl
    later (Some i) = refl

    here : (b : Bool) → is_some (position test xs) ≡ list_any test xs
        → is_some (cond {A = Option ℕ} b (Some 0) (option_map suc (position test xs))) ≡ (b || list_any test xs)
    here true more = refl
    here false more = later (position test xs) ∙ more

-- a place that passes is there
pub position_within : {X : Type 0} (test : X → Bool) (xs : List X) (i : ℕ) → position test xs ≡ Some i → i < length xs
position_within test xs i is =
    let found = cond_some (ltb (position_or_len test xs) (length xs)) (position_or_len test xs) i is in
    omega (arith, ltb-true (position_or_len test xs) (length xs) found.0, found.1)

-- one function behind another
pub map-map : {X Y Z : Type 0} (g : Y → Z) (f : X → Y) (xs : List X) → map g (map f xs) ≡ map (λ x. g (f x)) xs
map-map g f [] = refl
map-map {X} {Y} {Z} g f (x ∷ xs) = ap (λ (zs : List Z). g (f x) ∷ zs) (map-map g f xs)
