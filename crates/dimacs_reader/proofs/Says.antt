-- The meaning of a line, by its tokens.
use Rattle.std.proofs.Common.{◌≡◌, List, [], ◌∷◌, ℕ, length, true, false, refl, ap, ◌∙◌}
use Rattle.std.proofs.lemmas.Bool.{cond-true, cond-false}
use Rattle.dimacs_reader.specs.declared.lines.Line.TheVariants.{Ignored, Bad}
use Rattle.dimacs_reader.specs.Lines.{line_of, line_of_four, line_of_more, line_of_tokens, tokens_of, is_comment}

pub says_nothing : (line : List ℕ) → tokens_of line ≡ [] → line_of line ≡ Ignored
unfolding line_of
says_nothing line e = ap line_of_tokens e

pub says_comment : (line first : List ℕ) (others : List (List ℕ)) → tokens_of line ≡ first ∷ others → is_comment first ≡ true → line_of line ≡ Ignored
unfolding line_of
says_comment line first others e t = ap line_of_tokens e ∙ cond-true (is_comment first) Ignored (line_of_more first others) t

pub says_four : (line a b c d : List ℕ) (others : List (List ℕ)) → tokens_of line ≡ a ∷ others → is_comment a ≡ false
    → others ≡ b ∷ c ∷ d ∷ [] → line_of line ≡ line_of_four a b c d
unfolding line_of
says_four line a b c d others e f three = ap line_of_tokens e ∙ cond-false (is_comment a) Ignored (line_of_more a others) f
    ∙ ap (line_of_more a) three

not_three : (a : List ℕ) (others : List (List ℕ)) → (length others ≡ 3 → ⊥) → line_of_more a others ≡ Bad
not_three a [] h = refl
not_three a (b ∷ []) h = refl
not_three a (b ∷ c ∷ []) h = refl
not_three a (b ∷ c ∷ d ∷ []) h = absurd (h refl)
not_three a (b ∷ c ∷ d ∷ x ∷ more) h = refl

pub says_bad : (line a : List ℕ) (others : List (List ℕ)) → tokens_of line ≡ a ∷ others → is_comment a ≡ false → (length others ≡ 3 → ⊥)
    → line_of line ≡ Bad
unfolding line_of
says_bad line a others e f h = ap line_of_tokens e ∙ cond-false (is_comment a) Ignored (line_of_more a others) f ∙ not_three a others h
