-- Forms of names, numbers, minutes and weights in tables and words (source: own).
use Rattle.std.specs.Prelude.{ℕ, ◌+◌, ◌*◌, ◌==◌, ◌&&◌, ◌||◌, Bool, false, not, nat_le, Option, Some, None, List, [], ◌∷◌, length}
use Rattle.std.specs.Prelude.{if◌then◌else◌, option_and_then, option_map}
use Rattle.std.specs.List.{slice_split, list_all}
use Rattle.route_base.specs.Digits.{number_of, plain_number_of}
use Rattle.route_base.specs.Time.{first_instant, last_instant}
use Rattle.route_base.specs.declared.limits.TheConstants.{HEAVIEST_WEIGHT, LONGEST_NAME}

-- whether the number is from low to high
abbrev pub is_from_to : ℕ → ℕ → ℕ → Bool
is_from_to low high n = nat_le low n && nat_le n high

-- space and tab
abbrev pub is_blank : ℕ → Bool
is_blank b = b == 32 || b == 9

-- whether the byte is a letter, a digit, `_`, `-` or `.`
abbrev pub is_name_byte : ℕ → Bool
is_name_byte b = is_from_to 97 122 b || is_from_to 65 90 b || is_from_to 48 57 b || b == 95 || b == 45 || b == 46

-- whether there are 1 to 64 such bytes and the first is no `-`
abbrev pub is_name : List ℕ → Bool
is_name [] = false
is_name (b ∷ bs) = not (b == 45) && nat_le (length (b ∷ bs)) LONGEST_NAME && list_all is_name_byte (b ∷ bs)

-- the number, where it isn't above the limit
abbrev pub at_most : ℕ → Option ℕ → Option ℕ
at_most limit o = option_and_then (λ n. if nat_le n limit then Some n else None) o

-- the number of 32 bits that 1 to 10 digits write, leading zeros allowed
abbrev pub table_number_of : List ℕ → Option ℕ
table_number_of field = if nat_le (length field) 10 then at_most 4294967295 (number_of field) else None

-- the instant that digits without a leading zero write as a Unix minute
abbrev pub minute_of : List ℕ → Option ℕ
minute_of field =
    option_and_then (λ t. if is_from_to first_instant last_instant t then Some t else None) (plain_number_of field)

-- the number of one to three digits
abbrev pub short_number_of : List ℕ → Option ℕ
short_number_of digits = if nat_le (length digits) 3 then number_of digits else None

-- the thousandths of one to three digits behind a point
abbrev pub decimals_of : List ℕ → Option ℕ
decimals_of (a ∷ []) = option_map (λ n. 100 * n) (number_of (a ∷ []))
decimals_of (a ∷ b ∷ []) = option_map (λ n. 10 * n) (number_of (a ∷ b ∷ []))
decimals_of (a ∷ b ∷ c ∷ []) = number_of (a ∷ b ∷ c ∷ [])
decimals_of digits = None

-- the thousandths of one to three digits, and of one to three more behind a point
abbrev pub thousandths_in : List (List ℕ) → Option ℕ
thousandths_in (whole ∷ []) = option_map (λ n. 1000 * n) (short_number_of whole)
thousandths_in (whole ∷ decimals ∷ []) =
    option_and_then (λ n. option_map (λ d. 1000 * n + d) (decimals_of decimals)) (short_number_of whole)
thousandths_in parts = None

-- the thousandths of a weight from 0 to 100
abbrev pub weight_of : List ℕ → Option ℕ
weight_of field = at_most HEAVIEST_WEIGHT (thousandths_in (slice_split (λ b. b == 46) field))
