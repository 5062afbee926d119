-- The file of an itinerary, which has one leg on each line (source: own).
use Rattle.std.specs.Prelude.{◌≡◌, ℕ, ◌+◌, ◌≤◌, not, is_some, Option, Some, None, List, ◌++◌, codes, length, take, drop, if◌then◌else◌}
use Rattle.std.specs.List.{filter_map, position}
use Rattle.std.specs.Option.{option_map, option_and_then, option_or}
use Rattle.std.specs.Str.{bytes_eq}
use Rattle.route_base.specs.Digits.{plain_number_of}
use Rattle.route_base.specs.Forms.{is_from_to}
use Rattle.route_base.specs.declared.limits.TheConstants.{LONGEST_HORIZON}
use Rattle.route_base.specs.declared.types.Leg.{Leg}
use Rattle.route_base.specs.declared.types.Leg.TheVariants.{Drive, Wait}
use Rattle.dimacs_reader.specs.Lines.{lines_of}
use Rattle.trip_explain.specs.declared.faults.ItineraryFault.{ItineraryFault}
use Rattle.trip_explain.specs.declared.faults.ItineraryFault.TheVariants.{BadLine, OutOfMemory}

-- the number from 1 to `most`, without a leading zero, behind a word
abbrev pub number_behind : List ℕ → ℕ → List ℕ → Option ℕ
number_behind word most line =
    if bytes_eq (take (length word) line) word
    then option_and_then (λ n. if is_from_to 1 most n then Some n else None) (plain_number_of (drop (length word) line))
    else None

-- the leg of a line: an arc's number of 32 bits to drive over, or minutes to wait, at most 60 days
unfoldable pub leg_of : List ℕ → Option Leg
leg_of line =
    option_or (option_map (λ n. Drive (record { 0 = n })) (number_behind (codes "drive ") 4294967295 line))
    (option_map (λ n. Wait n) (number_behind (codes "wait ") LONGEST_HORIZON line))

-- the first line, counted from 1, that has no leg
unfoldable pub bad_line_of : List ℕ → Option ℕ
bad_line_of bytes = option_map (λ k. k + 1) (position (λ line. not (is_some (leg_of line))) (lines_of bytes))

-- the legs of the lines in their order
unfoldable pub legs_of : List ℕ → List Leg
legs_of bytes = filter_map leg_of (lines_of bytes)

-- the refusal tells the first bad line, unless memory ran out
abbrev pub IsItineraryRefusal : Option ℕ → ItineraryFault → Type 0
IsItineraryRefusal bad (BadLine line) = bad ≡ Some line
IsItineraryRefusal bad OutOfMemory = Unit {0}

-- the line is the word, and behind it the digits of the number, which is from 1 to `most`, without a leading zero
pub record IsWordAndNumber (word : List ℕ) (most : ℕ) (line : List ℕ) (number : ℕ) : Type 0 where
  pub digits : List ℕ
  pub text : line ≡ word ++ digits
  pub value : plain_number_of digits ≡ Some number
  pub some : 1 ≤ number
  pub within : number ≤ most

-- the line of the leg
abbrev pub IsLegLine : List ℕ → Leg → Type 0
IsLegLine line (Drive arc) = IsWordAndNumber (codes "drive ") 4294967295 line arc.0
IsLegLine line (Wait minutes) = IsWordAndNumber (codes "wait ") LONGEST_HORIZON line minutes
