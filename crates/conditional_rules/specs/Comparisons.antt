-- Comparisons with a size of the vehicle, as `weight>7.5` (source: OpenStreetMap wiki, conditional restrictions, a subset).
use Rattle.std.specs.Prelude.{◌≡◌, ◌⊎◌, ℕ, ◌+◌, ◌-◌, ◌*◌, ◌^◌, ◌≤◌, Some, List, [], ◌∷◌, ◌++◌, length, codes}
use Rattle.route_base.specs.Digits.{number_of}
use Rattle.vehicle_classes.specs.declared.classes.Quantity.{Quantity}
use Rattle.vehicle_classes.specs.declared.classes.Quantity.TheVariants.{Weight, Axleload, Height, Width, Length, Axles}
use Rattle.conditional_rules.specs.declared.conditional.Comparison.{Comparison}
use Rattle.conditional_rules.specs.declared.conditional.Comparison.TheVariants.{Below, AtMost, Above, AtLeast, Equal}
use Rattle.conditional_rules.specs.Cutting.{AreBlanks}

-- the word of a size
abbrev pub quantity_text : Quantity → List ℕ
quantity_text Weight = codes "weight"
quantity_text Axleload = codes "axleload"
quantity_text Height = codes "height"
quantity_text Width = codes "width"
quantity_text Length = codes "length"
quantity_text Axles = codes "axles"

-- the most decimals of a size: tonnes are kept in kilograms, metres in centimetres, and axles are counted
abbrev pub decimals_in : Quantity → ℕ
decimals_in Weight = 3
decimals_in Axleload = 3
decimals_in Axles = 0
decimals_in quantity = 2

-- the unit that may be written after a size
abbrev pub unit_text : Quantity → List ℕ
unit_text Weight = codes "t"
unit_text Axleload = codes "t"
unit_text Axles = []
unit_text quantity = codes "m"

-- the signs of a comparison
pub data IsSign : List ℕ → Comparison → Type 0 where
  below : IsSign (codes "<") Below
  at_most : IsSign (codes "<=") AtMost
  above : IsSign (codes ">") Above
  at_least : IsSign (codes ">=") AtLeast
  equal : IsSign (codes "=") Equal
  double_equal : IsSign (codes "==") Equal

-- one to six digits, alone or with a point and no more decimals than this; the value counts in the last decimal
pub data IsMeasure (decimals : ℕ) : List ℕ → ℕ → Type 0 where
  whole : (digits : List ℕ) {n : ℕ} → length digits ≤ 6 → number_of digits ≡ Some n → IsMeasure decimals digits (n * 10 ^ decimals)
  decimal : (digits behind : List ℕ) {n d : ℕ} → length digits ≤ 6 → number_of digits ≡ Some n → length behind ≤ decimals
      → number_of behind ≡ Some d → IsMeasure decimals (digits ++ 46 ∷ behind) (n * 10 ^ decimals + d * 10 ^ (decimals - length behind))

-- a size, a sign and a measure, with or without the unit; blanks may stand between them
pub data IsComparison : List ℕ → Quantity → Comparison → ℕ → Type 0 where
  comparison : (a b c unit : List ℕ) {sign measure : List ℕ} {quantity : Quantity} {comparison : Comparison} {value : ℕ}
      → AreBlanks a → IsSign sign comparison → AreBlanks b → IsMeasure (decimals_in quantity) measure value → AreBlanks c
      → (unit ≡ []) ⊎ (unit ≡ unit_text quantity)
      → IsComparison (quantity_text quantity ++ (a ++ (sign ++ (b ++ (measure ++ (c ++ unit)))))) quantity comparison value
