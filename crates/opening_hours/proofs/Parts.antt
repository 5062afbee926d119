-- Lists that are cut into pieces, and pieces that are read one after the other.
use Rattle.std.proofs.Common.{◌≡◌, ℕ, suc, ◌+◌, ◌<◌, ◌≤◌, Bool, true, false, cond, not, List, [], ◌∷◌, ◌++◌, length, take}
use Rattle.std.proofs.Common.{drop, Option, Some, None, refl, sym, ap, ◌∙◌, append_assoc, arith}
use Rattle.std.specs.Prelude.{option_and_then, option_map}
use Rattle.std.specs.List.{onto_first, take_while, prefix_len}
use Rattle.std.proofs.lemmas.Grind.{common_steps}
use Rattle.std.proofs.lemmas.List.Sums.{take_while-cons}
use Rattle.std.proofs.lemmas.List.Folds.{length-prefix_len}
use Rattle.opening_hours.specs.declared.tokens.Token.{Token}
use Rattle.opening_hours.specs.declared.tokens.Part.{Part}
use Rattle.opening_hours.specs.declared.faults.HoursFault.{HoursFault}
use Rattle.opening_hours.specs.declared.faults.HoursFault.TheVariants as faults
use Rattle.opening_hours.specs.Inside.Parser.{belongs, behind, tail_of, pieces, all_read, Fails}

drop-cond : (b : Bool) (n : ℕ) (t : Token) (ts : List Token) → drop (cond b (1 + n) 0) (t ∷ ts) ≡ cond b (drop n ts) (t ∷ ts)
drop-cond true n t ts = grind (arith, common_steps)
drop-cond false n t ts = refl

behind-prefix_len : (p : Token → Bool) (ts : List Token) → drop (prefix_len p ts) ts ≡ behind p ts
behind-prefix_len p [] = refl
behind-prefix_len p (t ∷ ts) = drop-cond (p t) (prefix_len p ts) t ts ∙ ap (λ (us : List Token). cond (p t) us (t ∷ ts)) (behind-prefix_len p ts)

pub front_len_is : (p : Token → Bool) (ts : List Token) → take (length (take_while p ts)) ts ≡ take_while p ts
front_len_is p ts = ap (λ (n : ℕ). take n ts) (length-prefix_len p ts)

pub behind_is : (p : Token → Bool) (ts : List Token) → drop (length (take_while p ts)) ts ≡ behind p ts
behind_is p ts = ap (λ (n : ℕ). drop n ts) (length-prefix_len p ts) ∙ behind-prefix_len p ts

length-behind : (p : Token → Bool) (ts : List Token) → length (behind p ts) ≤ length ts
length-behind p [] = omega arith
length-behind p (t ∷ ts) =
    let rest = length-behind p ts in
    elim (p t) as (λ b. length (cond b (behind p ts) (t ∷ ts)) ≤ suc (length ts)) [ true ↦ omega arith | false ↦ omega arith ]

tail_is : (ts after : List Token) → tail_of ts ≡ Some after → (t : Token) × (ts ≡ t ∷ after)
tail_is [] after e = absurd cc
tail_is (t ∷ ts) after e = (t, let f : ts ≡ after = cc in ap (λ (us : List Token). t ∷ us) f)

tail_none : (ts : List Token) → tail_of ts ≡ None → ts ≡ []
tail_none [] e = refl
tail_none (t ∷ ts) e = absurd cc

pub tail_smaller : (p : Token → Bool) (ts after : List Token) → tail_of (behind p ts) ≡ Some after → length after < length ts
tail_smaller p ts after e =
    let t = tail_is (behind p ts) after e in
    omega (arith, length-behind p ts, ap length t.1)

-- the pieces behind the first
abbrev pub later_pieces : Part → List Token → List (List Token)
later_pieces part [] = []
later_pieces part (t ∷ ts) = pieces part ts

-- the first piece, and the pieces of what stands behind it
pub pieces_are : (part : Part) (ts : List Token) → pieces part ts ≡ take_while (belongs part) ts ∷ later_pieces part (behind (belongs part) ts)
pieces_are part [] = refl
pieces_are part (t ∷ ts) =
    let rest = pieces_are part ts in
    let by : (b : Bool) → cond (not b) ([] ∷ pieces part ts) (onto_first t (pieces part ts)) ≡ cond b
    (t ∷ take_while (belongs part) ts) [] ∷ later_pieces part (cond b (behind (belongs part) ts) (t ∷ ts)) =
    λ b. elim b as (λ v. cond (not v) ([] ∷ pieces part ts) (onto_first t (pieces part ts)) ≡ cond v
    (t ∷ take_while (belongs part) ts) [] ∷ later_pieces part (cond v (behind (belongs part) ts) (t ∷ ts)))
    [ true ↦ ap (onto_first t) rest | false ↦ refl ] in
    by (belongs part t) ∙ ap (λ (us : List Token).
    us ∷ later_pieces part (cond (belongs part t) (behind (belongs part) ts) (t ∷ ts))) (sym (take_while-cons (belongs part) t ts))

module _ {A : Type 0} (f : List Token → Option A) (part : Part) where
  -- the parts that are read, and those still to read
  abbrev pub with_front : List A → Option (List A) → Option (List A)
  with_front front read = option_map (λ xs. front ++ xs) read

  regroup : (front : List A) (x : A) (read : Option (List A)) → with_front front (option_map (λ xs. x ∷ xs) read) ≡ with_front (front ++ x ∷ []) read
  regroup front x (Some xs) = ap (λ (ys : List A). Some ys) (sym (append_assoc front (x ∷ []) xs))
  regroup front x None = refl

  pub all_begins : (ts : List Token) → all_read f (pieces part ts) ≡ with_front [] (all_read f (pieces part ts))
  all_begins ts = elim (all_read f (pieces part ts)) as (λ r. r ≡ with_front [] r) [ Some xs ↦ refl | None ↦ refl ]

  pub all_goes_on : (front : List A) (ts after : List Token) (x : A) (total : Option (List A))
      → f (take_while (belongs part) ts) ≡ Some x → tail_of (behind (belongs part) ts) ≡ Some after
      → with_front front (all_read f (pieces part ts)) ≡ total → with_front (front ++ x ∷ []) (all_read f (pieces part after)) ≡ total
  all_goes_on front ts after x total read tail so_far =
      let cut = (tail_is (behind (belongs part) ts) after tail).1 in
      let e : pieces part ts ≡ take_while (belongs part) ts ∷ pieces part after = pieces_are part ts
      ∙ ap (λ (us : List Token). take_while (belongs part) ts ∷ later_pieces part us) cut in
      let one : with_front front (all_read f (pieces part ts)) ≡ with_front (front ++ x ∷ []) (all_read f (pieces part after)) =
      ap (λ (ps : List (List Token)). with_front front (all_read f ps)) e
      ∙ ap (λ (o : Option A). with_front front (option_and_then (λ y. option_map (λ xs. y ∷ xs) (all_read f (pieces part after))) o)) read
      ∙ regroup front x (all_read f (pieces part after)) in
      sym one ∙ so_far

  pub all_ends : (front : List A) (ts : List Token) (x : A) (total : Option (List A))
      → f (take_while (belongs part) ts) ≡ Some x → tail_of (behind (belongs part) ts) ≡ None
      → with_front front (all_read f (pieces part ts)) ≡ total → total ≡ Some (front ++ x ∷ [])
  all_ends front ts x total read tail so_far =
      let cut = tail_none (behind (belongs part) ts) tail in
      let e : pieces part ts ≡ take_while (belongs part) ts ∷ [] = pieces_are part ts
      ∙ ap (λ (us : List Token). take_while (belongs part) ts ∷ later_pieces part us) cut in
      sym so_far ∙ ap (λ (ps : List (List Token)). with_front front (all_read f ps)) e
      ∙ ap (λ (o : Option A). with_front front (option_and_then (λ y. option_map (λ xs. y ∷ xs) (Some [])) o)) read

  pub all_fails : (e : HoursFault) (front : List A) (ts : List Token) (total : Option (List A))
      → Fails e (f (take_while (belongs part) ts)) → with_front front (all_read f (pieces part ts)) ≡ total → Fails e total
  all_fails faults.OutOfMemory front ts total fails so_far = tt
  all_fails faults.NotHours front ts total fails so_far =
      sym so_far ∙ ap (λ (ps : List (List Token)). with_front front (all_read f ps)) (pieces_are part ts)
      ∙ ap (λ (o : Option A). with_front front
      (option_and_then (λ y. option_map (λ xs. y ∷ xs) (all_read f (later_pieces part (behind (belongs part) ts)))) o)) fails
