-- Numbers in decimal digits are plain fields, and are read as these numbers.
use Rattle.std.proofs.Common.{◌≡◌, ℕ, ◌^◌, ◌<◌, ◌≤◌, false, Some, List, [], ◌∷◌, length, inr, refl, arith}
use Rattle.std.specs.Prelude.{All, decimal}
use Rattle.std.specs.List.{list_any}
use Rattle.std.proofs.lemmas.Bool.{le-leb, ne_eqb}
use Rattle.std.proofs.lemmas.Fmt.{decimal_nonempty, length-decimal-le}
use Rattle.std.proofs.lemmas.List.Elements.{All-head, All-tail}
use Rattle.route_base.specs.Forms.{table_number_of}
use Rattle.route_base.specs.Time.{IsInstant}
use Rattle.route_base.proofs.DecimalDigits.{number_again}
use Rattle.calendar_days.specs.Texts.{instant_of}
use Rattle.calendar_days.proofs.InstantForms.{instant-read}
use Rattle.drawn_network.proofs.Decimals.{IsDigit, decimal_bytes}
use Rattle.drawn_network.proofs.PlainText.{is_mark, IsPlainField}

digit-plain : (b : ℕ) → IsDigit b → is_mark b ≡ false
digit-plain b h =
    rw (
      ne_eqb b 44 (λ e. absurd (omega (arith, e, h.0))),
      ne_eqb b 34 (λ e. absurd (omega (arith, e, h.0))),
      ne_eqb b 13 (λ e. absurd (omega (arith, e, h.0))),
      ne_eqb b 10 (λ e. absurd (omega (arith, e, h.0))),
      ne_eqb b 239 (λ e. absurd (omega (arith, e, h.1))),
    ) refl

digits-plain : (field : List ℕ) → All IsDigit field → list_any is_mark field ≡ false
digits-plain [] h = refl
digits-plain (b ∷ field) h = rw (digit-plain b (All-head IsDigit b field h)) (digits-plain field (All-tail IsDigit b field h))

-- the digits of a number are a plain field
pub decimal-plain : (n : ℕ) → n < 2 ^ 64 → IsPlainField (decimal n)
decimal-plain n small = record { some = decimal_nonempty n small; plain = digits-plain (decimal n) (decimal_bytes n small) }

-- a number of 32 bits is read from its digits
pub table_number-read : (n : ℕ) → n ≤ 4294967295 → table_number_of (decimal n) ≡ Some n
table_number-read n small =
    rw (
      le-leb (length (decimal n)) 10 (length-decimal-le 10 n (omega arith) (omega (arith, small)) (omega (arith, small))),
      number_again n (omega (arith, small)),
      le-leb n 4294967295 small,
    ) refl

-- an instant is read from the digits of its Unix minute
pub instant-of_decimal : (t : ℕ) → IsInstant t → instant_of (decimal t) ≡ Some t
instant-of_decimal t h = instant-read (decimal t) t h (inr (inr refl))
