-- Texts with marks between them, and how they are cut.
use Rattle.std.proofs.Common.{◌≡◌, ℕ, ◌+◌, Option, Some, None, List, [], ◌∷◌, ◌++◌, length, take, drop, map, sym, ap}
use Rattle.std.proofs.Common.{subst, ◌∙◌, arith}
use Rattle.std.specs.Option.{option_map}
use Rattle.std.proofs.lemmas.List.{append-nil}
use Rattle.std.proofs.Math.Seq.{take-append_seam, drop-append-add}
use Rattle.conditional_rules.specs.CanonicalText.{joined}
use Rattle.conditional_rules.specs.Cutting.{Cut}
use Rattle.conditional_rules.specs.Cutting as cutting
use Rattle.conditional_rules.proofs.Over.{IsOver, both_over}

-- there is a thing, and this holds of each
abbrev pub Each : {B : Type 0} → (B → Type 0) → List B → Type 0
Each P [] = ⊥
Each P (x ∷ []) = P x
Each P (x ∷ y ∷ ys) = P x × Each P (y ∷ ys)

-- a piece without a mark
pub record IsJoinedPart {B : Type 0} (place : List ℕ → Option ℕ) (mark : List ℕ) (Is : List ℕ → B → Type 0) (text : List ℕ) (x : B) : Type 0 where
  pub is : Is text x
  pub alone : place text ≡ None
  pub before : (more : List ℕ) → place (text ++ (mark ++ more)) ≡ Some (length text)

piece : {B : Type 0} (place : List ℕ → Option ℕ) (mark : List ℕ) (Is : List ℕ → B → Type 0) (text : List ℕ) (x : B)
    → place [] ≡ None → ((more : List ℕ) → place (mark ++ more) ≡ Some 0)
    → Is text x → IsOver place place text [] → ((more : List ℕ) → IsOver place place text (mark ++ more)) → IsJoinedPart place mark Is text x
piece place mark Is text x end found is last next = record {
  is = is;
  alone = ap place (sym (append-nil text)) ∙ last ∙ ap (option_map (λ i. length text + i)) end;
  before = λ more. next more ∙ ap (option_map (λ i. length text + i)) (found more) ∙ ap Some (omega arith);
}

-- a text that is a piece, alone and behind a blank
pub pieces : {B : Type 0} (place : List ℕ → Option ℕ) (mark : List ℕ) (Is : List ℕ → B → Type 0) (IsRest : List ℕ → Type 0)
    → place [] ≡ None → ((more : List ℕ) → place (mark ++ more) ≡ Some 0) → IsRest [] → ((more : List ℕ) → IsRest (mark ++ more))
    → (text : List ℕ) (x : B) → Is text x → Is (32 ∷ text) x
    → ((rest : List ℕ) → IsRest rest → IsOver place place text rest)
    → ((rest : List ℕ) → IsRest rest → IsOver place place (32 ∷ []) (text ++ rest))
    → IsJoinedPart place mark Is text x × IsJoinedPart place mark Is (32 ∷ text) x
pieces place mark Is IsRest end found last next text x is spaced over blank =
    let both : (rest : List ℕ) → IsRest rest → IsOver place place (32 ∷ text) rest =
    λ rest r. both_over place place place (32 ∷ []) text rest (blank rest r) (over rest r) in (
      piece place mark Is text x end found is (over [] last) (λ more. over (mark ++ more) (next more)),
      piece place mark Is (32 ∷ text) x end found spaced (both [] last) (λ more. both (mark ++ more) (next more)),
    )

pub each_of : {B : Type 0} {place : List ℕ → Option ℕ} {width : ℕ} {Is : List ℕ → B → Type 0} (P : B → Type 0)
    → ((text : List ℕ) (x : B) → Is text x → P x) → {text : List ℕ} {xs : List B} → Cut place width Is text xs → Each P xs
each_of P of (cutting.last {text = text} {x = x} none is) = of text x is
each_of {B = B} P of (cutting.more {text = text} {i = i} {x = x} {xs = xs} some is later) = by xs (of (take i text) x is) (each_of P of later)
  where
    by : (xs : List B) → P x → Each P xs → Each P (x ∷ xs)
    by [] h k = absurd k
    by (y ∷ ys) h k = (h, k)

pub each_map : {B : Type 0} (P Q : B → Type 0) → ((x : B) → P x → Q x) → (xs : List B) → Each P xs → Each Q xs
each_map P Q f [] h = absurd h
each_map P Q f (x ∷ []) h = f x h
each_map P Q f (x ∷ y ∷ ys) h = (f x h.0, each_map P Q f (y ∷ ys) h.1)

module _ {B : Type 0} (place : List ℕ → Option ℕ) (mark : List ℕ) (width : ℕ) (Is : List ℕ → B → Type 0) (print : B → List ℕ)
    (cuts : (more : List ℕ) → drop width (mark ++ more) ≡ 32 ∷ more) where
  abbrev Pieces : B → Type 0
  Pieces x = IsJoinedPart place mark Is (print x) x × IsJoinedPart place mark Is (32 ∷ print x) x

  next_cut : (text more : List ℕ) (x : B) (xs : List B) → IsJoinedPart place mark Is text x → Cut place width Is (32 ∷ more) xs
      → Cut place width Is (text ++ (mark ++ more)) (x ∷ xs)
  next_cut text more x xs p later =
      let behind = drop-append-add text (mark ++ more) width ∙ cuts more in
      cutting.more (p.before more) (subst (λ (t : List ℕ). Is t x) (sym (take-append_seam text (mark ++ more))) p.is)
      (subst (λ (t : List ℕ). Cut place width Is t xs) (sym behind) later)

  later_cut : (xs : List B) → Each Pieces xs → Cut place width Is (32 ∷ joined mark (map print xs)) xs
  later_cut [] h = absurd h
  later_cut (x ∷ []) h = cutting.last h.1.alone h.1.is
  later_cut (x ∷ y ∷ ys) h = next_cut (32 ∷ print x) (joined mark (map print (y ∷ ys))) x (y ∷ ys) h.0.1 (later_cut (y ∷ ys) h.1)

  -- The joined texts are cut into what they are the texts of.
  pub joined_cut : (xs : List B) → Each Pieces xs → Cut place width Is (joined mark (map print xs)) xs
  joined_cut [] h = absurd h
  joined_cut (x ∷ []) h = cutting.last h.0.alone h.0.is
  joined_cut (x ∷ y ∷ ys) h = next_cut (print x) (joined mark (map print (y ∷ ys))) x (y ∷ ys) h.0.0 (later_cut (y ∷ ys) h.1)
