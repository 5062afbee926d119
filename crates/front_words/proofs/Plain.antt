-- No word of a split begins with a dash, and neither does the value of an option.
use Rattle.std.proofs.Common.{◌≡◌, refl, subst, true, false, ℕ, Bool, List, Option, Some, None, [], ◌∷◌}
use Rattle.std.specs.Prelude.{◌&&◌, ⊤, IfSome, bytes_eq, if◌then◌else◌, map, not, option_map}
use Rattle.std.specs.List.{after_first, before_first}
use Rattle.std.proofs.lemmas.Option.{same_Some}
use Rattle.front_words.specs.Inside.{ArePlain, IsPlainSplit}
use Rattle.front_words.specs.Splitting.{Given, Piece, Split, assigned, is_dashed, is_equals, is_option, named, only_value, piece_of, plain, split_of}
use Rattle.front_words.specs.Splitting.{split_of_pieces, stray, values_for, with_given, with_place}

none_is_no_value : {A : Type 0} {o : Option A} {v : A} {P : Type 0} → o ≡ None → o ≡ Some v → P
none_is_no_value e f = cc

-- what a piece holds begins with no dash
abbrev IsPlainPiece : Piece → Type 0
IsPlainPiece (plain word) = is_dashed word ≡ false
IsPlainPiece (assigned option value) = is_dashed value ≡ false
IsPlainPiece piece = ⊤

plain_assigned : (option value : List ℕ) (known dashed : Bool) → is_dashed value ≡ dashed
    → IsPlainPiece (if known && not dashed then assigned option value else stray)
plain_assigned option value true false h = h
plain_assigned option value true true h = tt
plain_assigned option value false dashed h = tt

plain_dashed : (option value word : List ℕ) (named_alone known dashed : Bool) → is_dashed value ≡ dashed
    → IsPlainPiece (if named_alone then named word else if known && not dashed then assigned option value else stray)
plain_dashed option value word true known dashed h = tt
plain_dashed option value word false known dashed h = plain_assigned option value known dashed h

by_first : (option value word : List ℕ) (begins named_alone known dashed : Bool) → is_dashed word ≡ begins → is_dashed value ≡ dashed
    → IsPlainPiece (if not begins then plain word else if named_alone then named word
    else if known && not dashed then assigned option value else stray)
by_first option value word false named_alone known dashed g h = g
by_first option value word true named_alone known dashed g h = plain_dashed option value word named_alone known dashed h

plain_piece : (options : List (List ℕ)) (word : List ℕ) → IsPlainPiece (piece_of options word)
plain_piece options word =
    by_first (before_first is_equals word) (after_first is_equals word) word (is_dashed word) (is_option options word)
    (is_option options (before_first is_equals word)) (is_dashed (after_first is_equals word)) refl refl

abbrev ArePlainPieces : List Piece → Type 0
ArePlainPieces [] = ⊤
ArePlainPieces (piece ∷ pieces) = IsPlainPiece piece × ArePlainPieces pieces

plain_pieces : (options words : List (List ℕ)) → ArePlainPieces (map (piece_of options) words)
plain_pieces options [] = tt
plain_pieces options (word ∷ words) = (plain_piece options word, plain_pieces options words)

place_more : (word : List ℕ) (o : Option Split) (s : Split) → ((t : Split) → o ≡ Some t → IsPlainSplit t) → is_dashed word ≡ false
    → option_map (with_place word) o ≡ Some s → IsPlainSplit s
place_more word None s f h e = none_is_no_value refl e
place_more word (Some t) s f h e =
    subst IsPlainSplit (same_Some _ _ e) (record { places = (h, (f t refl).places); values = (f t refl).values })

given_more : (option value : List ℕ) (o : Option Split) (s : Split) → ((t : Split) → o ≡ Some t → IsPlainSplit t) → is_dashed value ≡ false
    → option_map (with_given option value) o ≡ Some s → IsPlainSplit s
given_more option value None s f h e = none_is_no_value refl e
given_more option value (Some t) s f h e =
    subst IsPlainSplit (same_Some _ _ e) (record { places = (f t refl).places; values = (h, (f t refl).values) })

plain_split_of : (pieces : List Piece) → ArePlainPieces pieces → (s : Split) → split_of_pieces pieces ≡ Some s → IsPlainSplit s
plain_split_of [] a s e = subst IsPlainSplit (same_Some _ _ e) (record { places = tt; values = tt })
plain_split_of (plain word ∷ pieces) a s e = place_more word (split_of_pieces pieces) s (plain_split_of pieces a.1) a.0 e
plain_split_of (assigned option value ∷ pieces) a s e = given_more option value (split_of_pieces pieces) s (plain_split_of pieces a.1) a.0 e
plain_split_of (named option ∷ plain value ∷ pieces) a s e =
    given_more option value (split_of_pieces pieces) s (plain_split_of pieces a.1.1) a.1.0 e
plain_split_of (named option ∷ []) a s e = none_is_no_value refl e
plain_split_of (named option ∷ named other ∷ pieces) a s e = none_is_no_value refl e
plain_split_of (named option ∷ assigned other value ∷ pieces) a s e = none_is_no_value refl e
plain_split_of (named option ∷ stray ∷ pieces) a s e = none_is_no_value refl e
plain_split_of (stray ∷ pieces) a s e = none_is_no_value refl e

-- what words divide into
pub plain_split : (options words : List (List ℕ)) (s : Split) → split_of options words ≡ Some s → IsPlainSplit s
plain_split options words s e = plain_split_of (map (piece_of options) words) (plain_pieces options words) s e

one_value_more : (option : List ℕ) (g : Given) (given : List Given) (b : Bool) → bytes_eq g.option option ≡ b → is_dashed g.value ≡ false
    → ArePlain (values_for option given) → ArePlain (values_for option (g ∷ given))
one_value_more option g given true e h a = rw e (h, a)
one_value_more option g given false e h a = rw e a

plain_values : (option : List ℕ) (given : List Given) → ArePlain (map (λ g. g.value) given) → ArePlain (values_for option given)
plain_values option [] a = tt
plain_values option (g ∷ given) a = one_value_more option g given (bytes_eq g.option option) refl a.0 (plain_values option given a.1)

-- the value of an option
pub plain_value : (option : List ℕ) (given : List Given) (value : Option (List ℕ)) → ArePlain (map (λ g. g.value) given)
    → only_value (values_for option given) ≡ Some value → IfSome value (λ w. is_dashed w ≡ false)
plain_value option given value a e = at (values_for option given) value (plain_values option given a) e
  where
    at : (values : List (List ℕ)) (value : Option (List ℕ)) → ArePlain values → only_value values ≡ Some value → IfSome value (λ w. is_dashed w ≡ false)
    at [] value h f = subst (λ (o : Option (List ℕ)). IfSome o (λ w. is_dashed w ≡ false)) (same_Some _ _ f) tt
    at (word ∷ []) value h f = subst (λ (o : Option (List ℕ)). IfSome o (λ w. is_dashed w ≡ false)) (same_Some _ _ f) h.0
    at (word ∷ other ∷ words) value h f = none_is_no_value refl f
