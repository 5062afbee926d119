-- Sets of minutes as rows of bits (source: own; no law).
use Rattle.std.specs.Prelude.{◌≡◌, ◌⊎◌, ℕ, zero, suc, ◌+◌, ◌-◌, ◌/◌, ◌%◌, ◌≤◌, List, [], leb, cond, ◌&&◌, slice_index_or}
use Rattle.std.specs.Int.{bit_at}

-- the sum of a function over the numbers below one
abbrev pub sum_below : (ℕ → ℕ) → ℕ → ℕ
sum_below f zero = 0
sum_below f (suc k) = sum_below f k + f k

-- the bit of a minute in a row of words of 64 bits: 1 where the row has the minute, and else 0
unfoldable pub bit_of : List ℕ → ℕ → ℕ
bit_of words r = bit_at (slice_index_or words (r / 64) 0) (r % 64)

abbrev pub HasMinute : List ℕ → ℕ → Type 0
HasMinute row r = bit_of row r ≡ 1

-- a row has the minute where all its minutes are later
abbrev pub HasLater : List ℕ → ℕ → ℕ → Type 0
HasLater row by r = (q : ℕ) × HasMinute row q × (q + by ≡ r)

-- the bit of a minute where each minute of the row is later, but none is beyond the most
abbrev pub later_bit : List ℕ → ℕ → ℕ → ℕ → ℕ
later_bit row by most r = cond (leb by r && leb r most) (bit_of row (r - by)) 0

-- a row takes the minutes of another, all later, up to the most; so many of them are new
pub record TakesLater (old new from : List ℕ) (by most fresh : ℕ) : Type 0 where
  pub kept : (r : ℕ) → HasMinute old r → HasMinute new r
  pub taken : (r : ℕ) → HasMinute from r → r + by ≤ most → HasMinute new (r + by)
  pub only : (r : ℕ) → HasMinute new r → HasMinute old r ⊎ ((q : ℕ) × HasMinute from q × (q + by ≡ r) × (r ≤ most))
  pub count : sum_below (bit_of new) (most + 1) ≡ sum_below (bit_of old) (most + 1) + fresh

-- a row has taken the minutes of another, and these of them are new
pub record TakesFresh (old new row fresh : List ℕ) : Type 0 where
  pub has : (r : ℕ) → HasMinute row r → HasMinute new r
  pub found : (r : ℕ) → HasMinute new r → HasMinute old r ⊎ HasMinute fresh r
  pub within : (r : ℕ) → HasMinute fresh r → HasMinute row r

-- the minutes of a row are those of a part of it, all later
pub record IsTrimmed (row part : List ℕ) (by : ℕ) : Type 0 where
  pub found : (r : ℕ) → HasMinute row r → HasLater part by r
  pub within : (r : ℕ) → HasLater part by r → HasMinute row r

-- the row at a place; none is behind the last
abbrev pub row_of : List (List ℕ) → ℕ → List ℕ
row_of rows v = slice_index_or rows v []
