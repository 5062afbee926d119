-- The tokens of a line, one after another.
use Rattle.std.proofs.Common.{◌≡◌, ℕ, zero, suc, ◌+◌, ◌-◌, ◌<◌, ◌≤◌, Bool, inl, inr, cond, ltb, Some, None, List, [], ◌∷◌, length}
use Rattle.std.proofs.Common.{take, drop, get_or, true, false, refl, subst, ap, sym, ◌∙◌, arith, length-drop}
use Rattle.std.specs.Prelude.{not}
use Rattle.std.specs.Option.{unwrap_or}
use Rattle.std.specs.List.{slice_split, filter, position, position_or_len}
use Rattle.std.proofs.Math.Numerals.{add-one}
use Rattle.std.proofs.Math.Seq.{drop-cons}
use Rattle.std.proofs.lemmas.Bool.{cases_lt, cond-true, ltb-true, ltb-false}
use Rattle.std.proofs.lemmas.Option.{cond_some}
use Rattle.std.proofs.lemmas.List.{take_all, drop_all}
use Rattle.std.proofs.lemmas.List.Splits.{slice_split_first, slice_split_none, slice_split-cons_yes}
use Rattle.std.proofs.lemmas.List.Sums.{fails_before_first, passes_at_first, prefix_len-le-length}
use Rattle.dimacs_reader.specs.Lines.{tokens_of, has_bytes}
use Rattle.route_base.specs.Forms.{is_blank}

was_true : (t : Bool) → not t ≡ false → t ≡ true
was_true true e = refl
was_true false e = absurd (cc)

after_blank : (b : ℕ) (bs : List ℕ) → is_blank b ≡ true → tokens_of (b ∷ bs) ≡ tokens_of bs
unfolding tokens_of
after_blank b bs t = ap (filter has_bytes) (slice_split-cons_yes is_blank b bs t)

-- blanks before the first token
after_blanks : (n : ℕ) (line : List ℕ) → ((k d : ℕ) → k < n → not (is_blank (get_or line k d)) ≡ false) → tokens_of line ≡ tokens_of (drop n line)
after_blanks zero line h = refl
after_blanks (suc n) [] h = refl
after_blanks (suc n) (b ∷ bs) h = after_blank b bs (was_true (is_blank b) (h zero 0 (omega arith)))
    ∙ after_blanks n bs (λ k d below. h (suc k) d (omega arith))

some_taken : (n : ℕ) (bs : List ℕ) → 0 < n → n ≤ length bs → has_bytes (take n bs) ≡ true
some_taken zero bs h k = absurd (omega arith)
some_taken (suc n) [] h k = absurd (omega arith)
some_taken (suc n) (b ∷ bs) h k = refl

place_past : (n size : ℕ) → cond (ltb n size) (Some n) None ≡ None → size ≤ n
place_past n size e = grind (arith, ltb-true, ltb-false)

nothing_left : (line : List ℕ) → line ≡ [] → tokens_of line ≡ []
unfolding tokens_of
nothing_left line e = ap tokens_of e

-- a token at the front
front_token : (line : List ℕ) → 0 < position_or_len is_blank line
    → tokens_of line ≡ take (position_or_len is_blank line) line ∷ tokens_of (drop (position_or_len is_blank line) line)
unfolding tokens_of
front_token line some =
    let end = position_or_len is_blank line in
    let within : position_or_len is_blank line ≤ length line = prefix_len-le-length (λ b. not (is_blank b)) line in
    let token : has_bytes (take end line) ≡ true = some_taken end line some within in
    elim (cases_lt end (length line)) [
      | inl h ↦
          let parts : slice_split is_blank line ≡ take end line ∷ slice_split is_blank (drop (suc end) line) = subst
          (λ (n : ℕ). slice_split is_blank line ≡ take end line ∷ slice_split is_blank (drop n line)) (add-one end)
          (slice_split_first is_blank line 0 h) in
          let rest : drop end line ≡ get_or line end 0 ∷ drop (suc end) line = drop-cons line end 0 h in
          let blank : is_blank (get_or line end 0) ≡ true = passes_at_first is_blank line 0 h in
          ap (filter has_bytes) parts
          ∙ cond-true (has_bytes (take end line)) (take end line ∷ tokens_of (drop (suc end) line)) (tokens_of (drop (suc end) line)) token
          ∙ ap (λ ts. take end line ∷ ts) (sym (ap tokens_of rest ∙ after_blank (get_or line end 0) (drop (suc end) line) blank))
      | inr h ↦
          let whole : take end line ≡ line = take_all end line h in
          let none : drop end line ≡ [] = drop_all end line h in
          let parts : slice_split is_blank line ≡ take end line ∷ [] = slice_split_none is_blank line
          (λ k d below. fails_before_first is_blank line k d (omega arith)) ∙ ap (λ l. l ∷ []) (sym whole) in
          ap (filter has_bytes) parts
          ∙ cond-true (has_bytes (take end line)) (take end line ∷ []) [] token
          ∙ ap (λ l. take end line ∷ tokens_of l) (sym none)
    ]

-- where the token at the front ends
end_from : (n size : ℕ) → n ≤ size → unwrap_or (cond (ltb n size) (Some n) None) size ≡ n
end_from n size within = grind (arith, ltb-true, ltb-false)

end_is : (line : List ℕ) → unwrap_or (position is_blank line) (length line) ≡ position_or_len is_blank line
end_is line = end_from (position_or_len is_blank line) (length line) (prefix_len-le-length (λ b. not (is_blank b)) line)

pub end_within : (line : List ℕ) (end : ℕ) → end ≡ unwrap_or (position is_blank line) (length line) → end ≤ length line
end_within line end e = let same = end_is line in let within : position_or_len is_blank line ≤ length line = prefix_len-le-length
    (λ b. not (is_blank b)) line in omega arith

starts : (b : ℕ) (bs : List ℕ) → not (is_blank b) ≡ true → 0 < position_or_len is_blank (b ∷ bs)
starts b bs t = subst (λ (n : ℕ). 0 < n) (sym (cond-true (not (is_blank b)) (1 + position_or_len is_blank bs) 0 t)) (omega arith)

-- a line that is cut where its first token begins and ends
pub token_cut : (line part : List ℕ) (start end : ℕ) → Some start ≡ position (λ b. not (is_blank b)) line
    → part ≡ take (length line - start) (drop start line) → end ≡ unwrap_or (position is_blank part) (length part)
    → tokens_of line ≡ take end part ∷ tokens_of (drop end part)
token_cut line part start end e part-is end-is =
    let at_text = cond_some (ltb (position_or_len (λ b. not (is_blank b)) line) (length line))
    (position_or_len (λ b. not (is_blank b)) line) start (sym e) in
    let place : position_or_len (λ b. not (is_blank b)) line ≡ start = at_text.1 in
    let below : position_or_len (λ b. not (is_blank b)) line < length line = ltb-true _ _ at_text.0 in
    let here : start < length line = omega arith in
    let whole : part ≡ drop start line = part-is ∙ take_all (length line - start) (drop start line) (omega (arith, length-drop start line)) in
    let opens : part ≡ get_or line start 0 ∷ drop (suc start) line = whole ∙ drop-cons line start 0 here in
    let text : not (is_blank (get_or line start 0)) ≡ true = subst (λ (n : ℕ). not (is_blank (get_or line n 0)) ≡ true) place
    (passes_at_first (λ b. not (is_blank b)) line 0 below) in
    let some : 0 < position_or_len is_blank part = subst (λ (l : List ℕ). 0 < position_or_len is_blank l) (sym opens)
    (starts (get_or line start 0) (drop (suc start) line) text) in
    let ends : end ≡ position_or_len is_blank part = end-is ∙ end_is part in
    after_blanks start line (λ k d k_below. fails_before_first (λ b. not (is_blank b)) line k d (omega arith))
    ∙ ap tokens_of (sym whole)
    ∙ front_token part some
    ∙ ap (λ n. take n part ∷ tokens_of (drop n part)) (sym ends)

-- a line without text
pub no_token : (line : List ℕ) → None ≡ position (λ b. not (is_blank b)) line → tokens_of line ≡ []
no_token line e =
    let size : length line ≤ position_or_len (λ b. not (is_blank b)) line = place_past (position_or_len (λ b. not (is_blank b)) line)
    (length line) (sym e) in
    after_blanks (length line) line (λ k d below. fails_before_first (λ b. not (is_blank b)) line k d (omega arith))
    ∙ nothing_left (drop (length line) line) (drop_all (length line) line (omega arith))
