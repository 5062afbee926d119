-- The forms of words, and the values that words have in them (source: own).
use Rattle.std.specs.Prelude.{ℕ, ◌==◌, ◌&&◌, Bool, false, not, nat_le, Option, Some, None, List, [], ◌∷◌, length, codes}
use Rattle.std.specs.Prelude.{if◌then◌else◌, option_and_then, option_map, bytes_eq, drop, ◌-◌}
use Rattle.route_base.specs.declared.limits.TheConstants.{LONGEST_FOLDER}
use Rattle.route_base.specs.Digits.{plain_number_of}
use Rattle.route_base.specs.Forms.{at_most, is_from_to, is_name}
use Rattle.route_base.specs.declared.types.Form.{Form}
use Rattle.route_base.specs.declared.types.Form.TheVariants.{Plain, Table, Csv, Json}
use Rattle.calendar_days.specs.Texts.{instant_of}

-- 1 to 4,096 bytes, the first not `-`
abbrev pub is_folder_name : List ℕ → Bool
is_folder_name [] = false
is_folder_name (b ∷ bs) = not (b == 45) && nat_le (length (b ∷ bs)) LONGEST_FOLDER

-- a name that ends in `.cert`
unfoldable pub is_certificate_name : List ℕ → Bool
is_certificate_name name = is_name name && bytes_eq (drop (length name - 5) name) (codes ".cert")

-- a number of 32 bits without a leading zero
abbrev pub node_of : List ℕ → Option ℕ
node_of word = at_most 4294967295 (plain_number_of word)

-- a number from 1 to the limit without a leading zero
abbrev pub count_of : ℕ → List ℕ → Option ℕ
count_of limit word = option_and_then (λ n. if is_from_to 1 limit n then Some n else None) (plain_number_of word)

-- the value beside the first of these names that a word is
abbrev pub named_in : {A : Type 0} → List (List ℕ × A) → List ℕ → Option A
named_in [] word = None
named_in (row ∷ rows) word = if bytes_eq word row.0 then Some row.1 else named_in rows word

-- the form of a report, by its name in small letters
abbrev pub report_of : List ℕ → Option Form
report_of = named_in ((codes "plain", Plain) ∷ (codes "table", Table) ∷ (codes "csv", Csv) ∷ (codes "json", Json) ∷ [])

-- the forms that words have
pub data WordForm : Type 0 where
  -- DIR
  folder : WordForm
  -- VEHICLE
  vehicle : WordForm
  -- FROM, TO, ARC
  number : WordForm
  -- DEPART, UNTIL
  instant : WordForm
  -- NAME
  certificate : WordForm
  -- F
  report : WordForm
  -- JOBS, STOPS, ITINERARY
  file : WordForm
  -- N, NUMBER, ROWS, COLUMNS, B, L: up to the limit
  count : ℕ → WordForm

-- the value of a word
pub data Value : Type 0 where
  of_text : List ℕ → Value
  of_number : ℕ → Value
  of_report : Form → Value

-- a word as its own value, where it has its form
abbrev pub text_if : Bool → List ℕ → Option Value
text_if fits word = if fits then Some (of_text word) else None

-- the value that a word has in a form; nothing where it isn't in that form
abbrev pub value_of_word : WordForm → List ℕ → Option Value
value_of_word folder word = text_if (is_folder_name word) word
value_of_word vehicle word = text_if (is_name word) word
value_of_word number word = option_map of_number (node_of word)
value_of_word instant word = option_map of_number (instant_of word)
value_of_word certificate word = text_if (is_certificate_name word) word
value_of_word report word = option_map of_report (report_of word)
value_of_word file word = text_if (is_name word) word
value_of_word (count limit) word = option_map of_number (count_of limit word)
