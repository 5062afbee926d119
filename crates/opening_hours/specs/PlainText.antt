-- Texts that are safe to embed in a longer text (source: own).
use Rattle.std.specs.Prelude.{◌≡◌, ◌≢◌, ◌⊎◌, ℕ, ◌≤◌, ◌==◌, ◌||◌, Bool, true, false, List, [], ◌∷◌, ◌++◌, codes}
use Rattle.std.specs.List.{list_all}
use Rattle.opening_hours.specs.declared.tokens.Token.TheVariants.{Unknown}
use Rattle.opening_hours.specs.Tokens.{is_digit, is_letter, word_token, AreLetters}
use Rattle.route_base.specs.Forms.{is_blank}

-- a letter, a digit, a blank, or one of - , ; : / [ and ]
abbrev pub is_hours_byte : ℕ → Bool
is_hours_byte b =
    is_letter b || (is_digit b || (is_blank b || (b == 45 || (b == 44 || (b == 59 || (b == 58 || (b == 47 || (b == 91 || b == 93))))))))

-- there is a first byte, and it is no blank
abbrev pub StartsFilled : List ℕ → Type 0
StartsFilled [] = ⊥
StartsFilled (b ∷ bs) = is_blank b ≡ false

-- there is a last byte, and it is no blank
abbrev pub EndsFilled : List ℕ → Type 0
EndsFilled [] = ⊥
EndsFilled (b ∷ []) = is_blank b ≡ false
EndsFilled (b ∷ c ∷ bs) = EndsFilled (c ∷ bs)

-- the text can stand within another: by its bytes, without blanks at its ends, and each word between two blanks has a meaning in
-- hours; where all of it is one word that begins with a small letter, this is off or closed
pub record IsPlain (text : List ℕ) : Type 0 where
  pub bytes : list_all is_hours_byte text ≡ true
  pub starts : StartsFilled text
  pub ends : EndsFilled text
  pub words : (front rest : List ℕ) (before b : ℕ) (bs : List ℕ) (behind : ℕ) → is_blank before ≡ true → AreLetters (b ∷ bs) → is_blank behind ≡ true
      → text ≡ front ++ before ∷ ((b ∷ bs) ++ behind ∷ rest) → word_token (b ∷ bs) ≢ Unknown
  pub lone : (b : ℕ) (bs : List ℕ) → text ≡ b ∷ bs → 97 ≤ b → AreLetters (b ∷ bs) → (text ≡ codes "off") ⊎ (text ≡ codes "closed")
