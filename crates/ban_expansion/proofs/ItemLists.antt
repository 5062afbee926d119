-- Items of lists that grow, and of two lists side by side.
use Rattle.std.proofs.Common.{◌≡◌, ℕ, zero, suc, Bool, false, Some, List, [], ◌∷◌, ◌++◌, All, length, map, get_or, slice_get}
use Rattle.std.proofs.Common.{refl, sym, ◌∙◌, ap, subst}
use Rattle.std.specs.List.{AllZip, list_any}
use Rattle.std.proofs.Math.ListN.{set}
use Rattle.std.proofs.lemmas.List.Elements.{All-nil, All-cons}
use Rattle.std.proofs.lemmas.Bool.{or_parts}

-- an item stays where it is when items are added
pub got_before : {A : Type 0} (xs ys : List A) (i : ℕ) (x : A) → slice_get xs i ≡ Some x → slice_get (xs ++ ys) i ≡ Some x
got_before [] ys i x is = absurd (cc)
got_before (y ∷ xs) ys zero x is = is
got_before (y ∷ xs) ys (suc i) x is = got_before xs ys i x is

-- an item after one was added is that one or was there
pub got_pushed : {A : Type 0} (C : Type 0) (xs : List A) (y : A) (i : ℕ) (z : A) → slice_get (xs ++ y ∷ []) i ≡ Some z
    → (slice_get xs i ≡ Some z → C) → (i ≡ length xs → y ≡ z → C) → C
got_pushed C [] y zero z is before last = last refl (cc)
got_pushed C [] y (suc i) z is before last = absurd (cc)
got_pushed C (x ∷ xs) y zero z is before last = before is
got_pushed C (x ∷ xs) y (suc i) z is before last = got_pushed C xs y i z is before (λ at. last (ap (λ n. suc n) at))

-- an item after one was written is that one or was there
pub got_set : {A : Type 0} (C : Type 0) (xs : List A) (i : ℕ) (y : A) (j : ℕ) (z : A) → slice_get (set xs i y) j ≡ Some z
    → (i ≡ j → y ≡ z → C) → (slice_get xs j ≡ Some z → C) → C
got_set C [] i y j z is written kept = kept is
got_set C (x ∷ xs) zero y zero z is written kept = written refl (cc)
got_set C (x ∷ xs) zero y (suc j) z is written kept = kept is
got_set C (x ∷ xs) (suc i) y zero z is written kept = kept is
got_set C (x ∷ xs) (suc i) y (suc j) z is written kept = got_set C xs i y j z is (λ same. written (ap (λ n. suc n) same)) kept

-- no item passes, so this one doesn't
pub got_fails : {A : Type 0} (p : A → Bool) (xs : List A) (i : ℕ) (x : A) → slice_get xs i ≡ Some x → list_any p xs ≡ false → p x ≡ false
got_fails p [] i x is none = absurd (cc)
got_fails p (y ∷ ys) zero x is none =
    let same : y ≡ x = cc in
    ap p (sym same) ∙ (or_parts (p y) (list_any p ys) none).0
got_fails p (y ∷ ys) (suc i) x is none = got_fails p ys i x is (or_parts (p y) (list_any p ys) none).1

module _ {A B : Type 0} (R : A → B → Type 0) where
  pub zip_push : (xs : List A) (ys : List B) (x : A) (y : B) → AllZip R xs ys → R x y → AllZip R (xs ++ x ∷ []) (ys ++ y ∷ [])
  zip_push [] [] x y all r = (r, tt)
  zip_push [] (b ∷ ys) x y all r = absurd all
  zip_push (a ∷ xs) [] x y all r = absurd all
  zip_push (a ∷ xs) (b ∷ ys) x y all r = (all.0, zip_push xs ys x y all.1 r)

  pub zip_length : (xs : List A) (ys : List B) → AllZip R xs ys → length ys ≡ length xs
  zip_length [] [] all = refl
  zip_length [] (b ∷ ys) all = absurd all
  zip_length (a ∷ xs) [] all = absurd all
  zip_length (a ∷ xs) (b ∷ ys) all = ap (λ n. suc n) (zip_length xs ys all.1)

  pub zip_at : (xs : List A) (ys : List B) (i : ℕ) (x : A) (d : B) → AllZip R xs ys → slice_get xs i ≡ Some x → R x (get_or ys i d)
  zip_at [] ys i x d all is = absurd (cc)
  zip_at (a ∷ xs) [] i x d all is = absurd all
  zip_at (a ∷ xs) (b ∷ ys) zero x d all is =
      let same : a ≡ x = cc in
      subst (λ (z : A). R z b) same all.0
  zip_at (a ∷ xs) (b ∷ ys) (suc i) x d all is = zip_at xs ys i x d all.1 is

  -- what each item of the second list owes to the first
  pub zip_all : (P : B → Type 0) → ((x : A) (y : B) → R x y → P y) → (xs : List A) (ys : List B) → AllZip R xs ys → All P ys
  zip_all P each [] [] all = All-nil P
  zip_all P each [] (b ∷ ys) all = absurd all
  zip_all P each (a ∷ xs) [] all = absurd all
  zip_all P each (a ∷ xs) (b ∷ ys) all = All-cons P b ys (each a b all.0) (zip_all P each xs ys all.1)

-- two lists side by side, the second made from another, and two more behind them
pub zip_append : {A B C : Type 0} (R : A → B → Type 0) (f : C → B) (xs ys : List A) (us vs : List C) → AllZip R xs (map f us)
    → AllZip R ys (map f vs) → AllZip R (xs ++ ys) (map f (us ++ vs))
zip_append R f [] ys [] vs all more = more
zip_append R f [] ys (u ∷ us) vs all more = absurd all
zip_append R f (x ∷ xs) ys [] vs all more = absurd all
zip_append R f (x ∷ xs) ys (u ∷ us) vs all more = (all.0, zip_append R f xs ys us vs all.1 more)
