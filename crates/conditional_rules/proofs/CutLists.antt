-- Texts that are cut at marks, piece by piece.
use Rattle.std.proofs.Common.{◌≡◌, ℕ, ◌+◌, List, [], ◌∷◌, ◌++◌, take, drop, Option, Some, None, refl, sym, ap, subst, ◌∙◌, append_assoc}
use Rattle.conditional_rules.specs.Cutting.{Cut}
use Rattle.conditional_rules.specs.Cutting as cutting

-- what is read so far, and the rest of the text
pub record SoFar {B : Type 0} (first_mark : List ℕ → Option ℕ) (width : ℕ) (Is : List ℕ → B → Type 0)
    (text rest : List ℕ) (front : List B) : Type 0 where
  pub found : (xs : List B) → Cut first_mark width Is rest xs → Cut first_mark width Is text (front ++ xs)
  pub only : (ys : List B) → Cut first_mark width Is text ys → (xs : List B) × (ys ≡ front ++ xs) × Cut first_mark width Is rest xs

module _ {B : Type 0} (first_mark : List ℕ → Option ℕ) (width : ℕ) (Is : List ℕ → B → Type 0) where
  -- the text before the first mark, and the text behind it
  abbrev pub Parted : List ℕ → List ℕ → List ℕ → Type 0
  Parted text piece behind = (i : ℕ) × (first_mark text ≡ Some i) × (piece ≡ take i text) × (behind ≡ drop (i + width) text)

  pub begins : (text : List ℕ) → SoFar first_mark width Is text text []
  begins text = record { found = λ xs h. h; only = λ ys h. (ys, refl, h) }

  cut_then : {rest : List ℕ} {vs : List B} (i : ℕ) → first_mark rest ≡ Some i → Cut first_mark width Is rest vs
      → (x : B) × (xs : List B) × (vs ≡ x ∷ xs) × Is (take i rest) x × Cut first_mark width Is (drop (i + width) rest) xs
  cut_then i e (cutting.last none is) = absurd cc
  cut_then {rest = rest} i e (cutting.more {i = j} {x = x} {xs = xs} some is h) =
      let same : j ≡ i = cc in
      (x, xs, refl, subst (λ (k : ℕ). Is (take k rest) x) same is, subst (λ (k : ℕ). Cut first_mark width Is (drop (k + width) rest) xs) same h)

  cut_last : {rest : List ℕ} {vs : List B} → first_mark rest ≡ None → Cut first_mark width Is rest vs → (x : B) × (vs ≡ x ∷ []) × Is rest x
  cut_last e (cutting.last {x = x} none is) = (x, refl, is)
  cut_last e (cutting.more some is h) = absurd cc

  pub goes_on : (text rest piece behind : List ℕ) (front : List B) (x : B) → Parted rest piece behind → Is piece x
      → ((y : B) → Is piece y → y ≡ x) → SoFar first_mark width Is text rest front → SoFar first_mark width Is text behind (front ++ x ∷ [])
  goes_on text rest piece behind front x p is one s = record {
    found = λ xs h.
        let h2 = subst (λ (r : List ℕ). Cut first_mark width Is r xs) p.3 h in
        let is2 = subst (λ (r : List ℕ). Is r x) p.2 is in
        subst (Cut first_mark width Is text) (sym (append_assoc front (x ∷ []) xs)) (s.found (x ∷ xs) (cutting.more p.1 is2 h2));
    only = λ ys h.
        let v = s.only ys h in
        let w = cut_then p.0 p.1 v.2 in
        let same = one w.0 (subst (λ (r : List ℕ). Is r w.0) (sym p.2) w.3) in (
          w.1,
          v.1 ∙ ap (λ (xs : List B). front ++ xs) (w.2 ∙ ap (λ (y : B). y ∷ w.1) same) ∙ sym (append_assoc front (x ∷ []) w.1),
          subst (λ (r : List ℕ). Cut first_mark width Is r w.1) (sym p.3) w.4,
        );
  }

  pub ends : (text rest : List ℕ) (front : List B) (x : B) → first_mark rest ≡ None → Is rest x
      → SoFar first_mark width Is text rest front → Cut first_mark width Is text (front ++ x ∷ [])
  ends text rest front x none is s = s.found (x ∷ []) (cutting.last none is)

  pub ends_only : (text rest : List ℕ) (front : List B) (x : B) → first_mark rest ≡ None → ((y : B) → Is rest y → y ≡ x)
      → SoFar first_mark width Is text rest front → (ys : List B) → Cut first_mark width Is text ys → ys ≡ front ++ x ∷ []
  ends_only text rest front x none one s ys h =
      let v = s.only ys h in
      let w = cut_last none v.2 in
      v.1 ∙ ap (λ (xs : List B). front ++ xs) (w.1 ∙ ap (λ (y : B). y ∷ []) (one w.0 w.2))

  pub fails : (text rest piece behind : List ℕ) (front : List B) → Parted rest piece behind → ((y : B) → Is piece y → ⊥)
      → SoFar first_mark width Is text rest front → (ys : List B) → Cut first_mark width Is text ys → ⊥
  fails text rest piece behind front p none s ys h =
      let w = cut_then p.0 p.1 (s.only ys h).2 in
      none w.0 (subst (λ (r : List ℕ). Is r w.0) (sym p.2) w.3)

  pub fails_last : (text rest : List ℕ) (front : List B) → first_mark rest ≡ None → ((y : B) → Is rest y → ⊥)
      → SoFar first_mark width Is text rest front → (ys : List B) → Cut first_mark width Is text ys → ⊥
  fails_last text rest front ends never s ys h = let w = cut_last ends (s.only ys h).2 in never w.0 w.2

  -- where a piece is one thing at most, a text has one list of them at most
  pub one_list : ((text : List ℕ) (x y : B) → Is text x → Is text y → x ≡ y) → {text : List ℕ} {xs : List B} (ys : List B)
      → Cut first_mark width Is text xs → Cut first_mark width Is text ys → xs ≡ ys
  one_list one {text = text} ys (cutting.last {x = x} none is) k =
      let w = cut_last none k in
      sym (w.1 ∙ ap (λ (y : B). y ∷ []) (one text w.0 x w.2 is))
  one_list one {text = text} ys (cutting.more {i = i} {x = x} {xs = xs} some is h) k =
      let w = cut_then i some k in
      sym (w.2 ∙ ap (λ (y : B). y ∷ w.1) (one (take i text) w.0 x w.3 is) ∙ ap (λ (us : List B). x ∷ us) (sym (one_list one w.1 h w.4)))
