-- A text that is cut at its first @.
use Rattle.std.proofs.Common.{◌≡◌, ℕ, suc, ◌+◌, ◌-◌, ◌≤◌, Bool, true, false, cond, not, ltb, List, [], ◌∷◌, ◌++◌, length, take, drop, Some, None, refl, sym}
use Rattle.std.proofs.Common.{ap, subst, ◌∙◌, arith, length-drop}
use Rattle.std.specs.Prelude.{◌==◌, ◌||◌}
use Rattle.std.specs.List.{position, position_or_len}
use Rattle.std.proofs.lemmas.Bool.{ltb-true, eqb-true, or_from, or_right}
use Rattle.std.proofs.lemmas.Option.{cond_some}
use Rattle.std.proofs.lemmas.List.{take_all}
use Rattle.std.proofs.lemmas.List.Sums.{split_at_first, passes_at_first}
use Rattle.route_base.proofs.Logic.{found_within}
use Rattle.conditional_rules.specs.Conditions.{has_at}

abbrev pub is_at_sign : ℕ → Bool
is_at_sign b = b == 64

one_more : (n : ℕ) → suc n ≡ 1 + n
one_more n = omega arith

none_before : (bs : List ℕ) → has_at (take (position_or_len is_at_sign bs) bs) ≡ false
none_before [] = refl
none_before (b ∷ bs) = by (b == 64) refl (none_before bs)
  where
    by : (v : Bool) → (b == 64) ≡ v → has_at (take (position_or_len is_at_sign bs) bs) ≡ false
        → has_at (take (cond (not v) (1 + position_or_len is_at_sign bs) 0) (b ∷ bs)) ≡ false
    by true e rest = refl
    by false e rest = subst (λ (n : ℕ). has_at (take n (b ∷ bs)) ≡ false) (one_more (position_or_len is_at_sign bs))
        (or_from (b == 64) (has_at (take (position_or_len is_at_sign bs) bs)) e rest)

pub at_parts : (bs : List ℕ) (i : ℕ) → Some i ≡ position is_at_sign bs → bs ≡ take i bs ++ 64 ∷ take (length bs - (i + 1)) (drop (i + 1) bs)
at_parts bs i e =
    let w = cond_some (ltb (position_or_len is_at_sign bs) (length bs)) (position_or_len is_at_sign bs) i (sym e) in
    let within = ltb-true _ _ w.0 in
    let mark = eqb-true _ _ (passes_at_first is_at_sign bs 0 within) in
    let whole : take (length bs - (i + 1)) (drop (i + 1) bs) ≡ drop (i + 1) bs = take_all (length bs - (i + 1)) (drop (i + 1) bs)
    (omega (arith, length-drop (i + 1) bs)) in
    rw whole (rw w.1 at (rw mark at (split_at_first is_at_sign bs 0 within)))

pub at_whole : (bs : List ℕ) (i : ℕ) → Some i ≡ position is_at_sign bs → bs ≡ take i bs ++ 64 ∷ drop (i + 1) bs
at_whole bs i e =
    let all : take (length bs - (i + 1)) (drop (i + 1) bs) ≡ drop (i + 1) bs = take_all (length bs - (i + 1)) (drop (i + 1) bs)
    (omega (arith, length-drop (i + 1) bs)) in
    at_parts bs i e ∙ ap (λ (r : List ℕ). take i bs ++ 64 ∷ r) all

pub at_before : (bs : List ℕ) (i : ℕ) → Some i ≡ position is_at_sign bs → has_at (take i bs) ≡ false
at_before bs i e =
    let w = cond_some (ltb (position_or_len is_at_sign bs) (length bs)) (position_or_len is_at_sign bs) i (sym e) in
    rw w.1 at (none_before bs)

pub no_at : (bs : List ℕ) → None ≡ position is_at_sign bs → has_at bs ≡ false
no_at bs e =
    let far : length bs ≤ position_or_len is_at_sign bs = found_within (position_or_len is_at_sign bs) (length bs) (position_or_len is_at_sign bs) (sym e) in
    rw (take_all (position_or_len is_at_sign bs) bs far) at (none_before bs)

pub some_at : (a b : List ℕ) → has_at (a ++ 64 ∷ b) ≡ true
some_at [] b = refl
some_at (x ∷ a) b = or_right (x == 64) (has_at (a ++ 64 ∷ b)) (some_at a b)

-- a text is cut at its first @ in one way
pub one_cut : (a b c d : List ℕ) → has_at a ≡ false → has_at c ≡ false → a ++ 64 ∷ b ≡ c ++ 64 ∷ d → (a ≡ c) × (b ≡ d)
one_cut [] b [] d p q e = (refl, cc)
one_cut [] b (x ∷ c) d p q e = let same : 64 ≡ x = cc in absurd (no_mark x (has_at c) same q)
  where
    no_mark : (x : ℕ) (rest : Bool) → 64 ≡ x → ((x == 64) || rest) ≡ false → ⊥
    no_mark x rest same q = let f : (64 == 64) || rest ≡ false = rw (← same) at q in cc
one_cut (x ∷ a) b [] d p q e = let same : x ≡ 64 = cc in absurd (no_mark x (has_at a) same p)
  where
    no_mark : (x : ℕ) (rest : Bool) → x ≡ 64 → ((x == 64) || rest) ≡ false → ⊥
    no_mark x rest same q = let f : (64 == 64) || rest ≡ false = rw same at q in cc
one_cut (x ∷ a) b (y ∷ c) d p q e =
    let first : x ≡ y = cc in
    let later : a ++ 64 ∷ b ≡ c ++ 64 ∷ d = cc in
    let h = one_cut a b c d (behind (x == 64) (has_at a) p) (behind (y == 64) (has_at c) q) later in
    (rw (first, h.0) refl, h.1)
  where
    behind : (v w : Bool) → (v || w) ≡ false → w ≡ false
    behind true w e = absurd cc
    behind false w e = e
