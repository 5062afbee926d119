-- What a list of bytes may hold where memory ran out before a text was appended whole (source: own).
use Rattle.std.specs.Prelude.{◌≡◌, ℕ, List, ◌++◌}

-- it holds what it held, and behind it the beginning of the text
pub record IsBegun (held text now : List ℕ) : Type 0 where
  pub done : List ℕ
  pub left : List ℕ
  pub all : text ≡ done ++ left
  pub is : now ≡ held ++ done
