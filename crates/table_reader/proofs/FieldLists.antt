-- The fields of a record by their places.
use Rattle.std.proofs.Common.{◌≡◌, ℕ, Bor, map, zero, suc, ◌<◌, Bool, true, false, ◌&&◌, Option, Some, None, List, [], ◌∷◌, length, take, drop}
use Rattle.std.proofs.Common.{get_or, refl, sym, ◌∙◌, ap, arith}
use Rattle.std.specs.Prelude.{slice_get, nat_eq, not}
use Rattle.std.specs.Option.{option_map, IsSome}
use Rattle.std.specs.Cmp.Lexicographic.{pointwise}
use Rattle.std.proofs.lemmas.Option.{slice_get-get_or, slice_get-map}
use Rattle.std.specs.Str.{bytes_eq}
use Rattle.table_reader.specs.Records.{record_eq}
use Rattle.csv.specs.Records.{field_at}
use Rattle.csv.specs.Reading.{strip_bom}

pub field_at-slice_get : (fs : List (List ℕ)) (i : ℕ) → field_at fs i ≡ slice_get fs i
unfolding field_at
field_at-slice_get [] i = refl
field_at-slice_get (f ∷ fs) zero = refl
field_at-slice_get (f ∷ fs) (suc i) = field_at-slice_get fs i

pub some_of : {A B : Type 0} (g : A → B) (r : Option A) (x : B) → option_map g r ≡ Some x → IsSome r
some_of g None x e = cc
some_of g (Some a) x e = search arith

-- a field that is there is got
pub field_there : {A : Type 0} (g : A → List ℕ) (r : Option A) (fs : List (List ℕ)) (i : ℕ) → option_map g r ≡ field_at fs i → i < length fs → IsSome r
field_there g r fs i e h = some_of g r (get_or fs i []) (e ∙ field_at-slice_get fs i ∙ slice_get-get_or fs i [] h)

pub two : (fs : List (List ℕ)) (a b : List ℕ) → length fs ≡ 2 → slice_get fs 0 ≡ Some a → slice_get fs 1 ≡ Some b → fs ≡ a ∷ b ∷ []
two [] a b n p q = absurd (omega (arith, n))
two (x ∷ []) a b n p q = absurd (omega (arith, n))
two (x ∷ y ∷ []) a b n p q = cc
two (x ∷ y ∷ z ∷ fs) a b n p q = absurd (omega (arith, n))

pub three : (fs : List (List ℕ)) (a b c : List ℕ) → length fs ≡ 3 → slice_get fs 0 ≡ Some a → slice_get fs 1 ≡ Some b → slice_get fs 2 ≡ Some c
    → fs ≡ a ∷ b ∷ c ∷ []
three [] a b c n p q r = absurd (omega (arith, n))
three (x ∷ []) a b c n p q r = absurd (omega (arith, n))
three (x ∷ y ∷ []) a b c n p q r = absurd (omega (arith, n))
three (x ∷ y ∷ z ∷ []) a b c n p q r = cc
three (x ∷ y ∷ z ∷ w ∷ fs) a b c n p q r = absurd (omega (arith, n))

-- lists compare by their next elements and the rest
pub pointwise-drop : {A B : Type 0} (E : A → B → Bool) (xs : List A) (ys : List B) (i : ℕ) (x : A) (y : B) → slice_get xs i ≡ Some x → slice_get ys i ≡ Some y
    → pointwise E (drop i xs) (drop i ys) ≡ (E x y && pointwise E (drop (suc i) xs) (drop (suc i) ys))
pointwise-drop E [] ys i x y p q = cc
pointwise-drop E (a ∷ xs) [] i x y p q = cc
pointwise-drop E (a ∷ xs) (b ∷ ys) zero x y p q = cc
pointwise-drop E (a ∷ xs) (b ∷ ys) (suc i) x y p q = pointwise-drop E xs ys i x y p q

pub pointwise-lengths : {A B : Type 0} (E : A → B → Bool) (xs : List A) (ys : List B) → (length xs ≡ length ys → ⊥) → pointwise E xs ys ≡ false
pointwise-lengths E [] [] ne = absurd (ne refl)
pointwise-lengths E [] (y ∷ ys) ne = refl
pointwise-lengths E (x ∷ xs) [] ne = refl
pointwise-lengths E (x ∷ xs) (y ∷ ys) ne =
    elim (E x y) as (λ b. (b && pointwise E xs ys) ≡ false) [
      | true ↦ pointwise-lengths E xs ys (λ e. ne (ap suc e))
      | false ↦ refl
    ]

abbrev mark : List ℕ
mark = 239 ∷ 187 ∷ 191 ∷ []

-- behind the mark
pub strip_bom-marked : (xs : List ℕ) → pointwise nat_eq (take 3 xs) mark ≡ true → drop 3 xs ≡ strip_bom xs
unfolding strip_bom
strip_bom-marked [] e = cc
strip_bom-marked (a ∷ []) e = grind arith
strip_bom-marked (a ∷ b ∷ []) e = grind arith
strip_bom-marked (a ∷ b ∷ c ∷ rest) e = grind arith

-- without the mark
pub strip_bom-plain : (xs : List ℕ) → pointwise nat_eq (take 3 xs) mark ≡ false → xs ≡ strip_bom xs
unfolding strip_bom
strip_bom-plain [] e = refl
strip_bom-plain (a ∷ []) e = refl
strip_bom-plain (a ∷ b ∷ []) e = refl
strip_bom-plain (a ∷ b ∷ c ∷ rest) e = grind arith

-- a record against words, from the next word on
pub words-next : (fs : List (List ℕ)) (ws : List (Bor (List ℕ))) (i : ℕ) (f w : List ℕ) (d : Bor (List ℕ)) → slice_get fs i ≡ Some f → i < length ws
    → w ≡ (get_or ws i d).now
    → record_eq (drop i fs) (drop i (map (λ w. w.now) ws)) ≡ (bytes_eq f w && record_eq (drop (suc i) fs) (drop (suc i) (map (λ w. w.now) ws)))
words-next fs ws i f w d at within is =
    let word : slice_get (map (λ (v : Bor (List ℕ)). v.now) ws) i ≡ Some w =
    slice_get-map (λ (v : Bor (List ℕ)). v.now) ws i ∙ ap (λ (o : Option (Bor (List ℕ))). option_map (λ v. v.now) o) (slice_get-get_or ws i d within)
    ∙ ap Some (sym is) in
    pointwise-drop bytes_eq fs (map (λ v. v.now) ws) i f w at word

pub not_true : (b : Bool) → true ≡ not b → b ≡ false
not_true true e = cc
not_true false e = refl

pub not_false : (b : Bool) → false ≡ not b → b ≡ true
not_false true e = refl
not_false false e = cc
