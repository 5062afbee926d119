-- How the words behind a command's name divide into positional words and options (source: own).
use Rattle.std.specs.Prelude.{ℕ, ◌==◌, ◌&&◌, Bool, false, not, Option, Some, None, List, [], ◌∷◌, bytes_eq, map, option_map}
use Rattle.std.specs.Prelude.{if◌then◌else◌}
use Rattle.std.specs.List.{after_first, before_first, filter, list_any}

-- an option with its value
pub record Given : Type 0 where
  pub option : List ℕ
  pub value : List ℕ

-- the positional words in their order, and the options in theirs
pub record Split : Type 0 where
  pub places : List (List ℕ)
  pub given : List Given

-- what one word is for a command
pub data Piece : Type 0 where
  -- a word that doesn't begin with `-`
  plain : List ℕ → Piece
  -- an option, whose value is the next word
  named : List ℕ → Piece
  -- an option, `=` and its value
  assigned : List ℕ → List ℕ → Piece
  -- any other word that begins with `-`
  stray : Piece

-- whether the word begins with `-`
abbrev pub is_dashed : List ℕ → Bool
is_dashed [] = false
is_dashed (b ∷ bs) = b == 45

-- whether the byte is `=`
abbrev pub is_equals : ℕ → Bool
is_equals b = b == 61

-- whether the word is one of the options
abbrev pub is_option : List (List ℕ) → List ℕ → Bool
is_option options word = list_any (λ option. bytes_eq option word) options

-- what a word is for a command with these options
abbrev pub piece_of : List (List ℕ) → List ℕ → Piece
piece_of options word =
    if not (is_dashed word) then plain word
    else if is_option options word then named word
    else if is_option options (before_first is_equals word) && not (is_dashed (after_first is_equals word))
    then assigned (before_first is_equals word) (after_first is_equals word)
    else stray

-- one positional word more, in front
abbrev pub with_place : List ℕ → Split → Split
with_place word s = record s { places = word ∷ s.places }

-- one option more, in front
abbrev pub with_given : List ℕ → List ℕ → Split → Split
with_given option value s = record s { given = record { option = option; value = value } ∷ s.given }

-- the pieces, put together: each option that is named alone takes the plain word behind it as its value
abbrev pub split_of_pieces : List Piece → Option Split
split_of_pieces [] = Some (record { places = []; given = [] })
split_of_pieces (plain word ∷ pieces) = option_map (with_place word) (split_of_pieces pieces)
split_of_pieces (named option ∷ plain value ∷ pieces) = option_map (with_given option value) (split_of_pieces pieces)
split_of_pieces (assigned option value ∷ pieces) = option_map (with_given option value) (split_of_pieces pieces)
split_of_pieces pieces = None

-- how words divide for a command with these options; nothing for words that don't
abbrev pub split_of : List (List ℕ) → List (List ℕ) → Option Split
split_of options words = split_of_pieces (map (piece_of options) words)

-- the values that are given for an option
abbrev pub values_for : List ℕ → List Given → List (List ℕ)
values_for option given = map (λ g. g.value) (filter (λ g. bytes_eq g.option option) given)

-- the value of an option, where it is given at most once: nothing where it is given twice
abbrev pub only_value : List (List ℕ) → Option (Option (List ℕ))
only_value [] = Some None
only_value (value ∷ []) = Some (Some value)
only_value values = None
