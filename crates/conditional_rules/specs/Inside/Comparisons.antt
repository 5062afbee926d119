-- The reading of a comparison, step by step (source: own; no law: `Comparisons` is, and that these steps meet it is proved).
use Rattle.std.specs.Prelude.{ℕ, ◌+◌, ◌-◌, ◌*◌, ◌^◌, ◌==◌, ◌||◌, Bool, nat_le, Option, Some, None, option_and_then, option_map}
use Rattle.std.specs.Prelude.{List, [], ◌∷◌, length, drop, codes, if◌then◌else◌}
use Rattle.std.specs.List.{take_while}
use Rattle.std.specs.Str.{bytes_eq}
use Rattle.route_base.specs.Digits.{number_of}
use Rattle.route_base.specs.Forms.{is_blank}
use Rattle.opening_hours.specs.Tokens.{is_digit}
use Rattle.vehicle_classes.specs.declared.classes.Quantity.{Quantity}
use Rattle.vehicle_classes.specs.declared.classes.Quantity.TheVariants.{Weight, Axleload, Height, Width, Length, Axles}
use Rattle.conditional_rules.specs.declared.conditional.Comparison.{Comparison}
use Rattle.conditional_rules.specs.declared.conditional.Comparison.TheVariants.{Below, AtMost, Above, AtLeast, Equal}
use Rattle.conditional_rules.specs.Comparisons.{decimals_in, unit_text}
use Rattle.conditional_rules.specs.Conditions.{is_small_letter}

-- a size, a sign and a value
abbrev pub Compared : Type 0
Compared = Quantity × Comparison × ℕ

-- the bytes behind the leading ones of a kind
abbrev pub bytes_behind : (ℕ → Bool) → List ℕ → List ℕ
bytes_behind kind text = drop (length (take_while kind text)) text

-- the size of a word
unfoldable pub quantity_of : List ℕ → Option Quantity
quantity_of word =
    if bytes_eq word (codes "weight") then Some Weight
    else if bytes_eq word (codes "axleload") then Some Axleload
    else if bytes_eq word (codes "height") then Some Height
    else if bytes_eq word (codes "width") then Some Width
    else if bytes_eq word (codes "length") then Some Length
    else if bytes_eq word (codes "axles") then Some Axles
    else None

-- one sign where = follows, and another where it does not
abbrev pub with_equal : Comparison → Comparison → List ℕ → Comparison × List ℕ
with_equal long short [] = (short, [])
with_equal long short (b ∷ bs) = if b == 61 then (long, bs) else (short, b ∷ bs)

-- the sign at the front of a text, and what is behind it
unfoldable pub sign_at : List ℕ → Option (Comparison × List ℕ)
sign_at [] = None
sign_at (a ∷ bs) =
    if a == 60 then Some (with_equal AtMost Below bs)
    else if a == 62 then Some (with_equal AtLeast Above bs)
    else if a == 61 then Some (with_equal Equal Equal bs)
    else None

-- the number of no more digits than this
abbrev pub bounded_number_of : ℕ → List ℕ → Option ℕ
bounded_number_of most digits = if nat_le (length digits) most then number_of digits else None

-- the value of a whole number and the decimals at the front of a text, and what is behind them
abbrev pub decimals_at : ℕ → ℕ → List ℕ → Option (ℕ × List ℕ)
decimals_at decimals n text =
    let digits = take_while is_digit text in
    option_map (λ d. (n * 10 ^ decimals + d * 10 ^ (decimals - length digits), bytes_behind is_digit text))
    (bounded_number_of decimals digits)

-- the value of a whole number, and of a point and decimals where a point follows
abbrev pub decimal_point_at : ℕ → ℕ → List ℕ → Option (ℕ × List ℕ)
decimal_point_at decimals n [] = Some (n * 10 ^ decimals, [])
decimal_point_at decimals n (b ∷ bs) = if b == 46 then decimals_at decimals n bs else Some (n * 10 ^ decimals, b ∷ bs)

-- the measure at the front of a text, and what is behind it
unfoldable pub measure_at : ℕ → List ℕ → Option (ℕ × List ℕ)
measure_at decimals text =
    option_and_then (λ n. decimal_point_at decimals n (bytes_behind is_digit text)) (bounded_number_of 6 (take_while is_digit text))

-- whether this is nothing or the unit of a size
abbrev pub is_unit : Quantity → List ℕ → Bool
is_unit quantity text = bytes_eq text [] || bytes_eq text (unit_text quantity)

-- the comparison with a size that begins with a measure
unfoldable pub measured : Quantity → Comparison → List ℕ → Option Compared
measured quantity comparison text =
    option_and_then
    (λ f. if is_unit quantity (bytes_behind is_blank f.1) then Some (quantity, comparison, f.0) else None)
    (measure_at (decimals_in quantity) text)

-- the comparison with a size that begins with a sign
unfoldable pub signed : Quantity → List ℕ → Option Compared
signed quantity text = option_and_then (λ f. measured quantity f.0 (bytes_behind is_blank f.1)) (sign_at text)

-- the comparison that the text is
unfoldable pub comparison_of : List ℕ → Option Compared
comparison_of text =
    option_and_then
    (λ quantity. signed quantity (bytes_behind is_blank (bytes_behind is_small_letter text)))
    (quantity_of (take_while is_small_letter text))
