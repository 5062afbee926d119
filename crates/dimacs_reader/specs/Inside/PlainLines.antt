-- Plain lines: the first line of a file, and the digits before a mark (source: own; no law).
use Rattle.std.specs.Prelude.{◌≡◌, ◌<◌, ◌≤◌, ℕ, Some, List, ◌∷◌, ◌++◌, length, drop}
use Rattle.route_base.specs.Digits.{number_of}
use Rattle.dimacs_reader.specs.declared.lines.Line.{Line}
use Rattle.dimacs_reader.specs.Lines.{lines_in}

-- the meaning of the first line of a file, and what follows the line
pub record IsFirstLine (bytes : List ℕ) (line : Line) (rest : List ℕ) : Type 0 where
  pub cut : lines_in bytes ≡ line ∷ lines_in rest
  pub less : length rest < length bytes

-- the number of the digits from a place on before the mark, and the place behind the mark
pub record IsNumberAt (mark : ℕ) (bytes : List ℕ) (from n next : ℕ) : Type 0 where
  pub later : from < next
  pub within : next ≤ length bytes
  pub digits : List ℕ
  pub parts : drop from bytes ≡ digits ++ mark ∷ drop next bytes
  pub number : number_of digits ≡ Some n
