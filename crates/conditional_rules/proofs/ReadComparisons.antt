-- Comparisons: reading gives exactly the one that the text is.
use Rattle.std.proofs.Common.{◌≡◌, ◌⊎◌, inl, inr, ℕ, ◌+◌, ◌-◌, ◌*◌, ◌^◌, ◌≤◌, Bool, true, false, cond, List, [], ◌∷◌, ◌++◌}
use Rattle.std.proofs.Common.{length, Option, Some, None, refl, sym, ap, subst, ◌∙◌, arith, append_assoc}
use Rattle.std.specs.Prelude.{◌==◌, nat_le, option_map}
use Rattle.std.specs.List.{take_while, list_all}
use Rattle.std.specs.Str.{bytes_eq}
use Rattle.std.proofs.lemmas.Bool.{eqb-true, leb-true, le-leb, or_cases}
use Rattle.std.proofs.lemmas.Grind.{common_steps}
use Rattle.std.proofs.lemmas.Option.{option_and_then_some, some_pair_parts}
use Rattle.std.proofs.lemmas.Slice.Eq.{bytes_eq-Decides}
use Rattle.std.proofs.lemmas.List.{drop_at}
use Rattle.route_base.specs.Digits.{number_of}
use Rattle.route_base.specs.Forms.{is_blank}
use Rattle.opening_hours.specs.Tokens.{is_digit}
use Rattle.vehicle_classes.specs.declared.classes.Quantity.{Quantity}
use Rattle.vehicle_classes.specs.declared.classes.Quantity.TheVariants.{Weight, Axleload, Height, Width, Length, Axles}
use Rattle.opening_hours.proofs.Lists.{Stops}
use Rattle.opening_hours.proofs.PlainTexts.{digit_no_blank}
use Rattle.conditional_rules.specs.declared.conditional.Comparison.{Comparison}
use Rattle.conditional_rules.specs.declared.conditional.Comparison.TheVariants.{Below, AtMost, Above, AtLeast, Equal}
use Rattle.conditional_rules.specs.Comparisons.{quantity_text, decimals_in, unit_text, IsSign, IsMeasure, IsComparison}
use Rattle.conditional_rules.specs.Comparisons as law
use Rattle.conditional_rules.specs.Conditions.{is_small_letter}
use Rattle.conditional_rules.specs.Cutting.{AreBlanks}
use Rattle.conditional_rules.specs.Inside.Comparisons.{bytes_behind, quantity_of, with_equal, sign_at}
use Rattle.conditional_rules.specs.Inside.Comparisons.{bounded_number_of, decimals_at, decimal_point_at, measure_at}
use Rattle.conditional_rules.specs.Inside.Comparisons.{Compared, is_unit, measured, signed, comparison_of}
use Rattle.conditional_rules.proofs.Runs.{run_again, behind_again, run_whole, run_all, stops_behind, number_all, stops_number}

abbrev is_equal : ℕ → Bool
is_equal b = b == 61

abbrev is_point : ℕ → Bool
is_point b = b == 46

blank_no_letter : (b : ℕ) → is_blank b ≡ true → is_small_letter b ≡ false
blank_no_letter b h = grind (arith, common_steps)

blank_no_equal : (b : ℕ) → is_blank b ≡ true → is_equal b ≡ false
blank_no_equal b h = grind (arith, common_steps)

blank_no_digit : (b : ℕ) → is_blank b ≡ true → is_digit b ≡ false
blank_no_digit b h = grind (arith, common_steps)

blank_no_point : (b : ℕ) → is_blank b ≡ true → is_point b ≡ false
blank_no_point b h = grind (arith, common_steps)

digit_no_equal : (b : ℕ) → is_digit b ≡ true → is_equal b ≡ false
digit_no_equal b h = grind (arith, common_steps)

-- The bytes that each piece begins with.
stops_sign : {sign : List ℕ} {c : Comparison} (kind : ℕ → Bool) (rest : List ℕ) → kind 60 ≡ false → kind 61 ≡ false → kind 62 ≡ false
    → IsSign sign c → Stops kind (sign ++ rest)
stops_sign kind rest less equal more law.below = less
stops_sign kind rest less equal more law.at_most = less
stops_sign kind rest less equal more law.above = more
stops_sign kind rest less equal more law.at_least = more
stops_sign kind rest less equal more law.equal = equal
stops_sign kind rest less equal more law.double_equal = equal

stops_measure : {decimals : ℕ} {measure : List ℕ} {v : ℕ} (kind : ℕ → Bool) (rest : List ℕ) → ((b : ℕ) → is_digit b ≡ true → kind b ≡ false)
    → IsMeasure decimals measure v → Stops kind (measure ++ rest)
stops_measure kind rest apart (law.whole digits {n = n} short e) = stops_number kind digits rest n apart e
stops_measure kind rest apart (law.decimal digits more {n = n} short e few f) =
    subst (Stops kind) (sym (append_assoc digits (46 ∷ more) rest)) (stops_number kind digits ((46 ∷ more) ++ rest) n apart e)

stops_unit : (kind : ℕ → Bool) (q : Quantity) (unit : List ℕ) → kind 116 ≡ false → kind 109 ≡ false
    → (unit ≡ []) ⊎ (unit ≡ unit_text q) → Stops kind unit
stops_unit kind q unit t m (inl e) = subst (Stops kind) (sym e) tt
stops_unit kind Weight unit t m (inr e) = subst (Stops kind) (sym e) t
stops_unit kind Axleload unit t m (inr e) = subst (Stops kind) (sym e) t
stops_unit kind Height unit t m (inr e) = subst (Stops kind) (sym e) m
stops_unit kind Width unit t m (inr e) = subst (Stops kind) (sym e) m
stops_unit kind Length unit t m (inr e) = subst (Stops kind) (sym e) m
stops_unit kind Axles unit t m (inr e) = subst (Stops kind) (sym e) tt

-- Each text that the law calls a comparison is read.
word_again : (q : Quantity) → (list_all is_small_letter (quantity_text q) ≡ true) × (quantity_of (quantity_text q) ≡ Some q)
unfolding quantity_of
word_again Weight = (refl, refl)
word_again Axleload = (refl, refl)
word_again Height = (refl, refl)
word_again Width = (refl, refl)
word_again Length = (refl, refl)
word_again Axles = (refl, refl)

short_again : (long short : Comparison) (rest : List ℕ) → Stops is_equal rest → with_equal long short rest ≡ (short, rest)
short_again long short [] s = refl
short_again long short (b ∷ bs) s = rw s refl

sign_again : {sign : List ℕ} {c : Comparison} (rest : List ℕ) → IsSign sign c → Stops is_equal rest → sign_at (sign ++ rest) ≡ Some (c, rest)
unfolding sign_at
sign_again rest law.below s = rw (short_again AtMost Below rest s) refl
sign_again rest law.at_most s = refl
sign_again rest law.above s = rw (short_again AtLeast Above rest s) refl
sign_again rest law.at_least s = refl
sign_again rest law.equal s = rw (short_again Equal Equal rest s) refl
sign_again rest law.double_equal s = refl

no_point : (decimals n : ℕ) (rest : List ℕ) → Stops is_point rest → decimal_point_at decimals n rest ≡ Some (n * 10 ^ decimals, rest)
no_point decimals n [] s = refl
no_point decimals n (b ∷ bs) s = rw s refl

short_number_again : (most : ℕ) (digits : List ℕ) (n : ℕ) → length digits ≤ most → number_of digits ≡ Some n → bounded_number_of most digits ≡ Some n
short_number_again most digits n short e = rw (le-leb (length digits) most short) e

measure_again : {decimals : ℕ} {measure : List ℕ} {v : ℕ} (rest : List ℕ) → IsMeasure decimals measure v → Stops is_digit rest → Stops is_point rest
    → measure_at decimals (measure ++ rest) ≡ Some (v, rest)
unfolding measure_at
measure_again {decimals = decimals} rest (law.whole digits {n = n} short e) s p =
    let all = number_all digits n e in
    rw (run_again is_digit digits rest all s, drop_at digits rest (length digits) refl, short_number_again 6 digits n short e) (no_point decimals n rest p)
measure_again {decimals = decimals} rest (law.decimal digits more {n = n} {d = d} short e few f) s p =
    let all = number_all digits n e in
    let others = number_all more d f in
    let after = (46 ∷ more) ++ rest in
    rw (
      append_assoc digits (46 ∷ more) rest,
      run_again is_digit digits after all refl,
      drop_at digits after (length digits) refl,
      short_number_again 6 digits n short e,
      run_again is_digit more rest others s,
      drop_at more rest (length more) refl,
      short_number_again decimals more d few f,
    ) refl

unit_again : (q : Quantity) (unit : List ℕ) → (unit ≡ []) ⊎ (unit ≡ unit_text q) → is_unit q unit ≡ true
unit_again q unit (inl e) = rw e refl
unit_again Weight unit (inr e) = rw e refl
unit_again Axleload unit (inr e) = rw e refl
unit_again Height unit (inr e) = rw e refl
unit_again Width unit (inr e) = rw e refl
unit_again Length unit (inr e) = rw e refl
unit_again Axles unit (inr e) = rw e refl

measured_again : {measure : List ℕ} {v : ℕ} (q : Quantity) (s : Comparison) (c unit : List ℕ) → IsMeasure (decimals_in q) measure v → AreBlanks c
    → (unit ≡ []) ⊎ (unit ≡ unit_text q) → measured q s (measure ++ (c ++ unit)) ≡ Some (q, s, v)
unfolding measured
measured_again q s c unit m blanks u =
    let no_digit = stops_behind is_blank is_digit c unit blank_no_digit blanks (stops_unit is_digit q unit refl refl u) in
    let no_point = stops_behind is_blank is_point c unit blank_no_point blanks (stops_unit is_point q unit refl refl u) in
    let no_blank = stops_unit is_blank q unit refl refl u in
    rw (measure_again (c ++ unit) m no_digit no_point, behind_again is_blank c unit blanks no_blank, unit_again q unit u) refl

signed_again : {sign : List ℕ} {s : Comparison} (q : Quantity) (b more : List ℕ) → IsSign sign s → AreBlanks b → Stops is_blank more
    → Stops is_equal more → signed q (sign ++ (b ++ more)) ≡ measured q s more
unfolding signed
signed_again q b more sign blanks no_blank no_equal =
    let ends = stops_behind is_blank is_equal b more blank_no_equal blanks no_equal in
    rw (sign_again (b ++ more) sign ends, behind_again is_blank b more blanks no_blank) refl

pub comparison_read : {text : List ℕ} {q : Quantity} {s : Comparison} {v : ℕ} → IsComparison text q s v → comparison_of text ≡ Some (q, s, v)
unfolding comparison_of
comparison_read (law.comparison a b c unit {sign = sign} {measure = measure} {quantity = q} {comparison = s} {value = v} ba sg bb m bc u) =
    let rest = measure ++ (c ++ unit) in
    let after = sign ++ (b ++ rest) in
    let word = word_again q in
    let no_letter = stops_behind is_blank is_small_letter a after blank_no_letter ba (stops_sign is_small_letter (b ++ rest) refl refl refl sg) in
    let no_blank = stops_sign is_blank (b ++ rest) refl refl refl sg in
    rw (
      behind_again is_small_letter (quantity_text q) (a ++ after) word.0 no_letter,
      run_again is_small_letter (quantity_text q) (a ++ after) word.0 no_letter,
      word.1,
      behind_again is_blank a after ba no_blank,
    )
    (signed_again q b rest sg bb (stops_measure is_blank (c ++ unit) digit_no_blank m) (stops_measure is_equal (c ++ unit) digit_no_equal m)
    ∙ measured_again q s c unit m bc u)

-- Each text that is read is a comparison by the law.
one_word : (word : List ℕ) (p q : Quantity) (o : Option Quantity) → cond (bytes_eq word (quantity_text p)) (Some p) o ≡ Some q
    → (o ≡ Some q → word ≡ quantity_text q) → word ≡ quantity_text q
one_word word p q o e next = by (bytes_eq word (quantity_text p)) refl e
  where
    by : (v : Bool) → bytes_eq word (quantity_text p) ≡ v → cond v (Some p) o ≡ Some q → word ≡ quantity_text q
    by true is e = let same : p ≡ q = cc in (bytes_eq-Decides word (quantity_text p)).0 is ∙ ap quantity_text same
    by false is e = next e

quantity_found : (word : List ℕ) (q : Quantity) → quantity_of word ≡ Some q → word ≡ quantity_text q
unfolding quantity_of
quantity_found word q e =
    one_word word Weight q _ e (λ e. one_word word Axleload q _ e (λ e. one_word word Height q _ e
    (λ e. one_word word Width q _ e (λ e. one_word word Length q _ e (λ e. one_word word Axles q None e (λ e. absurd cc))))))

abbrev FoundComparison : Type 0
FoundComparison = Option (Comparison × List ℕ)

-- a sign at the front of a text, and what is behind it
abbrev Signed : List ℕ → Comparison → List ℕ → Type 0
Signed text s rest = (sign : List ℕ) × (text ≡ sign ++ rest) × IsSign sign s

equal_found : (a : ℕ) (long short : Comparison) (bs : List ℕ) (s : Comparison) (rest : List ℕ) → IsSign (a ∷ 61 ∷ []) long → IsSign (a ∷ []) short
    → ◌≡◌ {A = FoundComparison} (Some (with_equal long short bs)) (Some (s, rest)) → Signed (a ∷ bs) s rest
equal_found a long short [] s rest l h e =
    let p = some_pair_parts short s [] rest e in
    (a ∷ [], ap (λ (r : List ℕ). a ∷ r) p.1, subst (IsSign (a ∷ [])) p.0 h)
equal_found a long short (b ∷ bs) s rest l h e = by (b == 61) refl e
  where
    by : (v : Bool) → (b == 61) ≡ v → ◌≡◌ {A = FoundComparison} (Some (cond v (long, bs) (short, b ∷ bs))) (Some (s, rest)) → Signed (a ∷ b ∷ bs) s rest
    by true is e =
        let p = some_pair_parts long s bs rest e in
        (a ∷ 61 ∷ [], ap (λ (c : ℕ). a ∷ c ∷ bs) (eqb-true b 61 is) ∙ ap (λ (r : List ℕ). a ∷ 61 ∷ r) p.1, subst (IsSign (a ∷ 61 ∷ [])) p.0 l)
    by false is e =
        let p = some_pair_parts short s (b ∷ bs) rest e in
        (a ∷ [], ap (λ (r : List ℕ). a ∷ r) p.1, subst (IsSign (a ∷ [])) p.0 h)

same_first : (a b : ℕ) (bs : List ℕ) (s : Comparison) (rest : List ℕ) → a ≡ b → Signed (b ∷ bs) s rest → Signed (a ∷ bs) s rest
same_first a b bs s rest e h = subst (λ (x : ℕ). Signed (x ∷ bs) s rest) (sym e) h

sign_found : (text : List ℕ) (s : Comparison) (rest : List ℕ) → sign_at text ≡ Some (s, rest) → Signed text s rest
unfolding sign_at
sign_found [] s rest e = absurd cc
sign_found (a ∷ bs) s rest e = by (a == 60) (a == 62) (a == 61) refl refl refl e
  where
    by : (u v w : Bool) → (a == 60) ≡ u → (a == 62) ≡ v → (a == 61) ≡ w → cond u (Some (with_equal AtMost Below bs))
        (cond v (Some (with_equal AtLeast Above bs)) (cond w (Some (with_equal Equal Equal bs)) None)) ≡ Some (s, rest)
        → Signed (a ∷ bs) s rest
    by true v w is _ _ e = same_first a 60 bs s rest (eqb-true a 60 is) (equal_found 60 AtMost Below bs s rest law.at_most law.below e)
    by false true w _ is _ e = same_first a 62 bs s rest (eqb-true a 62 is) (equal_found 62 AtLeast Above bs s rest law.at_least law.above e)
    by false false true _ _ is e = same_first a 61 bs s rest (eqb-true a 61 is) (equal_found 61 Equal Equal bs s rest law.double_equal law.equal e)
    by false false false _ _ _ e = absurd cc

short_number_found : (most : ℕ) (digits : List ℕ) (n : ℕ) → bounded_number_of most digits ≡ Some n
    → (length digits ≤ most) × (number_of digits ≡ Some n)
short_number_found most digits n e = by (nat_le (length digits) most) refl e
  where
    by : (v : Bool) → nat_le (length digits) most ≡ v → cond v (number_of digits) None ≡ Some n → (length digits ≤ most) × (number_of digits ≡ Some n)
    by true is e = (leb-true (length digits) most is, e)
    by false is e = absurd cc

-- a measure at the front of a text, and what is behind it
abbrev Measured : ℕ → List ℕ → ℕ → List ℕ → Type 0
Measured decimals text v rest = (measure : List ℕ) × (text ≡ measure ++ rest) × IsMeasure decimals measure v

decimals_found : (decimals n : ℕ) (digits bs : List ℕ) (v : ℕ) (rest : List ℕ) → length digits ≤ 6 → number_of digits ≡ Some n
    → decimals_at decimals n bs ≡ Some (v, rest) → Measured decimals (digits ++ 46 ∷ bs) v rest
decimals_found decimals n digits bs v rest short is e = by (bounded_number_of decimals (take_while is_digit bs)) refl e
  where
    more : List ℕ
    more = take_while is_digit bs

    by : (o : Option ℕ) → bounded_number_of decimals more ≡ o
        → option_map {U = ℕ × List ℕ} (λ d. (n * 10 ^ decimals + d * 10 ^ (decimals - length more), bytes_behind is_digit bs)) o ≡ Some (v, rest)
        → Measured decimals (digits ++ 46 ∷ bs) v rest
    by None f e = absurd cc
    by (Some d) f e =
        let p = some_pair_parts (n * 10 ^ decimals + d * 10 ^ (decimals - length more)) v (bytes_behind is_digit bs) rest e in
        let few = short_number_found decimals more d f in
        let whole : bs ≡ more ++ rest = run_whole is_digit bs ∙ ap (λ (r : List ℕ). more ++ r) p.1 in (
          digits ++ 46 ∷ more,
          ap (λ (r : List ℕ). digits ++ 46 ∷ r) whole ∙ sym (append_assoc digits (46 ∷ more) rest),
          subst (IsMeasure decimals (digits ++ 46 ∷ more)) p.0 (law.decimal digits more short is few.0 few.1),
        )

point_found : (decimals n : ℕ) (digits text : List ℕ) (v : ℕ) (rest : List ℕ) → length digits ≤ 6 → number_of digits ≡ Some n
    → decimal_point_at decimals n text ≡ Some (v, rest) → Measured decimals (digits ++ text) v rest
point_found decimals n digits [] v rest short is e =
    let p = some_pair_parts (n * 10 ^ decimals) v [] rest e in
    (digits, ap (λ (r : List ℕ). digits ++ r) p.1, subst (IsMeasure decimals digits) p.0 (law.whole digits short is))
point_found decimals n digits (b ∷ bs) v rest short is e = by (b == 46) refl e
  where
    by : (u : Bool) → (b == 46) ≡ u → cond u (decimals_at decimals n bs) (Some (n * 10 ^ decimals, b ∷ bs)) ≡ Some (v, rest)
        → Measured decimals (digits ++ b ∷ bs) v rest
    by true point e =
        subst (λ (c : ℕ). Measured decimals (digits ++ c ∷ bs) v rest) (sym (eqb-true b 46 point))
        (decimals_found decimals n digits bs v rest short is e)
    by false point e =
        let p = some_pair_parts (n * 10 ^ decimals) v (b ∷ bs) rest e in
        (digits, ap (λ (r : List ℕ). digits ++ r) p.1, subst (IsMeasure decimals digits) p.0 (law.whole digits short is))

measure_found : (decimals : ℕ) (text : List ℕ) (v : ℕ) (rest : List ℕ) → measure_at decimals text ≡ Some (v, rest) → Measured decimals text v rest
unfolding measure_at
measure_found decimals text v rest e =
    let digits = take_while is_digit text in
    option_and_then_some (λ n. decimal_point_at decimals n (bytes_behind is_digit text)) (bounded_number_of 6 digits) (v, rest) e
    (λ n found after.
    let short = short_number_found 6 digits n found in
    subst (λ (t : List ℕ). Measured decimals t v rest) (sym (run_whole is_digit text))
    (point_found decimals n digits (bytes_behind is_digit text) v rest short.0 short.1 after))

unit_found : (q : Quantity) (unit : List ℕ) → is_unit q unit ≡ true → (unit ≡ []) ⊎ (unit ≡ unit_text q)
unit_found q unit e = by (or_cases (bytes_eq unit []) (bytes_eq unit (unit_text q)) e)
  where
    by : (bytes_eq unit [] ≡ true) ⊎ (bytes_eq unit (unit_text q) ≡ true) → (unit ≡ []) ⊎ (unit ≡ unit_text q)
    by (inl f) = inl ((bytes_eq-Decides unit []).0 f)
    by (inr f) = inr ((bytes_eq-Decides unit (unit_text q)).0 f)

-- a measure, blanks and a unit, with the three that are read
abbrev EndsCompared : Quantity → Comparison → List ℕ → Quantity → Comparison → ℕ → Type 0
EndsCompared q s text p t v =
    (q ≡ p) × (s ≡ t) × (measure : List ℕ) × (c : List ℕ) × (unit : List ℕ) × (text ≡ measure ++ (c ++ unit))
    × IsMeasure (decimals_in q) measure v × AreBlanks c × ((unit ≡ []) ⊎ (unit ≡ unit_text q))

three : (q p : Quantity) (s t : Comparison) (w v : ℕ) → ◌≡◌ {A = Option (Compared)} (Some (q, s, w)) (Some (p, t, v))
    → (q ≡ p) × (s ≡ t) × (w ≡ v)
three q p s t w v e =
    let f : ◌≡◌ {A = Compared} (q, s, w) (p, t, v) = cc in (
      ap (λ (x : Compared). x.0) f,
      ap (λ (x : Compared). x.1) f,
      ap (λ (x : Compared). x.2) f,
    )

measured_found : (q p : Quantity) (s t : Comparison) (text : List ℕ) (v : ℕ) → measured q s text ≡ Some (p, t, v) → EndsCompared q s text p t v
unfolding measured
measured_found q p s t text v e =
    option_and_then_some (λ f. cond (is_unit q (bytes_behind is_blank f.1)) (Some (q, s, f.0)) None) (measure_at (decimals_in q) text) (p, t, v) e
    (λ f found after. by f.0 f.1 (is_unit q (bytes_behind is_blank f.1)) refl found after)
  where
    by : (w : ℕ) (rest : List ℕ) (u : Bool) → is_unit q (bytes_behind is_blank rest) ≡ u → measure_at (decimals_in q) text ≡ Some (w, rest)
        → ◌≡◌ {A = Option (Compared)} (cond u (Some (q, s, w)) None) (Some (p, t, v)) → EndsCompared q s text p t v
    by w rest true unit found e =
        let same = three q p s t w v e in
        let m = measure_found (decimals_in q) text w rest found in
        let whole : text ≡ m.0 ++ (take_while is_blank rest ++ bytes_behind is_blank rest) = m.1 ∙ ap (λ (r : List ℕ). m.0 ++ r) (run_whole is_blank rest) in (
          same.0,
          same.1,
          m.0,
          take_while is_blank rest,
          bytes_behind is_blank rest,
          whole,
          subst (IsMeasure (decimals_in q) m.0) same.2 m.2,
          run_all is_blank rest,
          unit_found q (bytes_behind is_blank rest) unit,
        )
    by w rest false unit found e = absurd cc

-- a sign, blanks and the rest, with the three that are read
abbrev Begins : Quantity → List ℕ → Quantity → Comparison → ℕ → Type 0
Begins q text p t v =
    (sign : List ℕ) × (b : List ℕ) × (rest : List ℕ) × (s : Comparison) × (text ≡ sign ++ (b ++ rest)) × IsSign sign s × AreBlanks b
    × EndsCompared q s rest p t v

signed_found : (q p : Quantity) (t : Comparison) (text : List ℕ) (v : ℕ) → signed q text ≡ Some (p, t, v) → Begins q text p t v
unfolding signed
signed_found q p t text v e =
    option_and_then_some (λ f. measured q f.0 (bytes_behind is_blank f.1)) (sign_at text) (p, t, v) e
    (λ f found after.
    let sign = sign_found text f.0 f.1 found in
    let whole : text ≡ sign.0 ++ (take_while is_blank f.1 ++ bytes_behind is_blank f.1) = sign.1 ∙ ap (λ (r : List ℕ). sign.0 ++ r)
    (run_whole is_blank f.1) in (
      sign.0,
      take_while is_blank f.1,
      bytes_behind is_blank f.1,
      f.0,
      whole,
      sign.2,
      run_all is_blank f.1,
      measured_found q p f.0 t (bytes_behind is_blank f.1) v after,
    ))

built : (text a after : List ℕ) (q p : Quantity) (t : Comparison) (v : ℕ) → text ≡ quantity_text q ++ (a ++ after) → AreBlanks a
    → Begins q after p t v → IsComparison text p t v
built text a after q p t v whole blanks (sign, b, rest, s, parts, is, others, (same, equal, measure, c, unit, ends, m, last, u)) =
    let whole_text : text ≡ quantity_text q ++ (a ++ (sign ++ (b ++ (measure ++ (c ++ unit))))) =
    whole ∙ ap (λ (r : List ℕ). quantity_text q ++ (a ++ r)) (parts ∙ ap (λ (r : List ℕ). sign ++ (b ++ r)) ends) in
    let read = law.comparison a b c unit {quantity = q} blanks is others m last u in
    subst (λ (r : List ℕ). IsComparison r p t v) (sym whole_text)
    (subst (λ (z : Quantity). IsComparison (quantity_text q ++ (a ++ (sign ++ (b ++ (measure ++ (c ++ unit)))))) z t v) same
    (subst (λ (z : Comparison). IsComparison (quantity_text q ++ (a ++ (sign ++ (b ++ (measure ++ (c ++ unit)))))) q z v) equal read))

pub comparison_found : (text : List ℕ) (p : Quantity) (t : Comparison) (v : ℕ) → comparison_of text ≡ Some (p, t, v) → IsComparison text p t v
unfolding comparison_of
comparison_found text p t v e =
    let word = take_while is_small_letter text in
    let rest = bytes_behind is_small_letter text in
    option_and_then_some (λ q. signed q (bytes_behind is_blank rest)) (quantity_of word) (p, t, v) e
    (λ q found after.
    let whole : text ≡ quantity_text q ++ (take_while is_blank rest ++ bytes_behind is_blank rest) =
    run_whole is_small_letter text ∙ ap (λ (w : List ℕ). w ++ rest) (quantity_found word q found)
    ∙ ap (λ (r : List ℕ). quantity_text q ++ r) (run_whole is_blank rest) in
    built text (take_while is_blank rest) (bytes_behind is_blank rest) q p t v whole (run_all is_blank rest)
    (signed_found q p t (bytes_behind is_blank rest) v after))

pub comparison_only : (text : List ℕ) (a c : Compared) → comparison_of text ≡ Some c → IsComparison text a.0 a.1 a.2 → a ≡ c
comparison_only text a c e h = let f = comparison_read h in cc

-- no text is two comparisons
pub one_comparison : (text : List ℕ) (p q : Quantity) (s t : Comparison) (v w : ℕ) → IsComparison text p s v → IsComparison text q t w
    → (p ≡ q) × (s ≡ t) × (v ≡ w)
one_comparison text p q s t v w h k = three p q s t v w (sym (comparison_read h) ∙ comparison_read k)
