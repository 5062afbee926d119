-- Texts and their lines, both ways.
use Rattle.std.proofs.Common.{◌≡◌, ◌==◌, ℕ, Bool, true, false, List, [], ◌∷◌, ◌++◌, map, flat_map, append_assoc, refl, sym, ◌∙◌, ap}
use Rattle.std.specs.Prelude.{codes}
use Rattle.std.specs.List.{slice_split, join_with_byte}
use Rattle.std.specs.Str.{bytes_eq}
use Rattle.std.proofs.lemmas.List.Splits.{join_with_byte-slice_split}
use Rattle.std.proofs.lemmas.Slice.Eq.{bytes_eq-Decides}
use Rattle.certificate.specs.CertificateText.{Tokens, line_text}
use Rattle.certificate.specs.Inside.LineForms.{spaced_tokens}
use Rattle.certificate.specs.Inside.Reading.{token_lines, is_end}

joined_lines : (lines : List (List ℕ)) → map (join_with_byte 32) (map spaced_tokens lines) ≡ lines
joined_lines [] = refl
joined_lines (l ∷ ls) = ap (λ x. x ∷ map (join_with_byte 32) (map spaced_tokens ls)) (join_with_byte-slice_split 32 l) ∙ ap (λ xs. l ∷ xs) (joined_lines ls)

-- the lines of bytes make the bytes again
pub bytes_again : (bytes : List ℕ) (lines : List Tokens) → token_lines bytes ≡ lines → bytes ≡ join_with_byte 10 (map (join_with_byte 32) lines)
bytes_again bytes lines is =
    sym (join_with_byte-slice_split 10 bytes)
    ∙ ap (join_with_byte 10) (sym (joined_lines (slice_split (λ b. b == 10) bytes)))
    ∙ ap (λ ls. join_with_byte 10 (map (join_with_byte 32) ls)) is

-- lines with an empty one behind them are a text whose lines all end
pub text_again : (lines : List Tokens) → join_with_byte 10 (map (join_with_byte 32) (lines ++ ([] ∷ []) ∷ [])) ≡ flat_map line_text lines
text_again [] = refl
text_again (l ∷ []) = sym (append_assoc (join_with_byte 32 l) (10 ∷ []) [])
text_again (l ∷ m ∷ lines) =
    ap (λ t. join_with_byte 32 l ++ 10 ∷ t) (text_again (m ∷ lines))
    ∙ sym (append_assoc (join_with_byte 32 l) (10 ∷ []) (flat_map line_text (m ∷ lines)))

-- the last line
pub end_lines : (lines : List Tokens) → is_end lines ≡ true → lines ≡ (codes "end" ∷ []) ∷ ([] ∷ []) ∷ []
end_lines [] is = absurd (cc)
end_lines ([] ∷ lines) is = absurd (cc)
end_lines ((w ∷ []) ∷ []) is = absurd (cc)
end_lines ((w ∷ []) ∷ [] ∷ lines) is = absurd (cc)
end_lines ((w ∷ []) ∷ ([] ∷ []) ∷ []) is = ap (λ v. (v ∷ []) ∷ ([] ∷ []) ∷ []) ((bytes_eq-Decides w (codes "end")).0 is)
end_lines ((w ∷ []) ∷ ([] ∷ []) ∷ l ∷ lines) is = absurd (cc)
end_lines ((w ∷ []) ∷ ([] ∷ v ∷ tokens) ∷ lines) is = absurd (cc)
end_lines ((w ∷ []) ∷ ((b ∷ v) ∷ tokens) ∷ lines) is = absurd (cc)
end_lines ((w ∷ v ∷ tokens) ∷ lines) is = absurd (cc)

pub end_test : (bytes : List ℕ) → bytes_eq bytes (codes "end\n") ≡ is_end (token_lines bytes)
end_test bytes = tested (bytes_eq bytes (codes "end\n")) refl (is_end (token_lines bytes)) refl
  where
    tested : (b : Bool) → bytes_eq bytes (codes "end\n") ≡ b → (d : Bool) → is_end (token_lines bytes) ≡ d
        → bytes_eq bytes (codes "end\n") ≡ is_end (token_lines bytes)
    tested true is d end = is ∙ sym (ap (λ bs. is_end (token_lines bs)) ((bytes_eq-Decides bytes (codes "end\n")).0 is))
    tested false is true end = ap (λ bs. bytes_eq bs (codes "end\n"))
        (bytes_again bytes ((codes "end" ∷ []) ∷ ([] ∷ []) ∷ []) (end_lines (token_lines bytes) end)) ∙ sym end
    tested false is false end = is ∙ sym end
