-- Parts as they are printed.
use Rattle.std.proofs.Common.{◌≡◌, ℕ, true, false, List, [], ◌∷◌, ◌++◌, refl}
use Rattle.std.proofs.Common.{arith}
use Rattle.std.specs.Prelude.{◌==◌, ◌&&◌, ◌||◌, not, codes}
use Rattle.std.specs.List.{list_all, list_any}
use Rattle.std.proofs.lemmas.Bool.{and_parts, or_parts, not-true}
use Rattle.std.proofs.lemmas.Grind.{common_steps}
use Rattle.route_base.specs.Forms.{is_blank}
use Rattle.opening_hours.specs.PlainText.{EndsFilled}
use Rattle.vehicle_classes.specs.declared.classes.Quantity.{Quantity}
use Rattle.vehicle_classes.specs.declared.classes.Quantity.TheVariants.{Weight, Axleload, Height, Width, Length, Axles}
use Rattle.vehicle_classes.specs.Vehicles.{is_flag_byte}
use Rattle.conditional_rules.specs.declared.conditional.Comparison.{Comparison}
use Rattle.conditional_rules.specs.declared.conditional.Part.{Part}
use Rattle.conditional_rules.specs.declared.conditional.Part.TheVariants.{Compare}
use Rattle.conditional_rules.specs.Accesses.{is_among}
use Rattle.conditional_rules.specs.CanonicalText.{sign_text, measure_text, part_text}
use Rattle.conditional_rules.specs.Comparisons.{IsComparison}
use Rattle.conditional_rules.specs.Conditions.{has_parenthesis, is_small_letter, reserved_words, is_flag, IsPart}
use Rattle.conditional_rules.specs.Conditions as conditions
use Rattle.conditional_rules.specs.Cutting.{is_and, starts_with_and}
use Rattle.conditional_rules.proofs.PrintedComparisons.{comparison_again}
use Rattle.conditional_rules.proofs.ComparisonBytes.{comparison_no_blank, comparison_no_parenthesis, comparison_has_sign}
use Rattle.conditional_rules.proofs.Tight.{IsCompact, IsGap, IsDark, dark_passes, none_of}
use Rattle.conditional_rules.proofs.TightHours.{hours_again}

dark_ends : (b : ℕ) (bs : List ℕ) → IsDark (b ∷ bs) → EndsFilled (b ∷ bs)
dark_ends b [] h = (or_parts (is_blank b) false h).0
dark_ends b (c ∷ cs) h = dark_ends c cs (or_parts (is_blank b) (list_any is_blank (c ∷ cs)) h).1

-- a word that is no AND is tight
word_tight : (b : ℕ) (bs : List ℕ) → IsDark (b ∷ bs) → has_parenthesis (b ∷ bs) ≡ false
    → ((rest : List ℕ) → IsGap rest → starts_with_and (32 ∷ b ∷ (bs ++ rest)) ≡ false) → IsCompact (b ∷ bs)
word_tight b bs dark plain behind = record {
  starts = (or_parts (is_blank b) (list_any is_blank bs) dark).0;
  ends = dark_ends b bs dark;
  plain = plain;
  behind = behind;
  passes = λ rest gap. dark_passes (b ∷ bs) rest dark;
}

flag_dark : (b : ℕ) → is_flag_byte b ≡ true → is_blank b ≡ false
flag_dark b h = grind (arith, common_steps)

flag_plain : (b : ℕ) → is_flag_byte b ≡ true → (b == 40 || b == 41) ≡ false
flag_plain b h = grind (arith, common_steps)

blank_second : (b g h k : ℕ) (bs : List ℕ) → is_blank g ≡ true → starts_with_and (32 ∷ b ∷ g ∷ h ∷ k ∷ bs) ≡ false
blank_second b g h k bs e = grind (arith, common_steps)

blank_third : (b c g h : ℕ) (bs : List ℕ) → is_blank g ≡ true → starts_with_and (32 ∷ b ∷ c ∷ g ∷ h ∷ bs) ≡ false
blank_third b c g h bs e = grind (arith, common_steps)

no_blank_fourth : (b c d e : ℕ) (bs : List ℕ) → is_blank e ≡ false → starts_with_and (32 ∷ b ∷ c ∷ d ∷ e ∷ bs) ≡ false
no_blank_fourth b c d e bs h = grind (arith, common_steps)

three_letters : (b c d : ℕ) → is_small_letter b ≡ true → is_among reserved_words (b ∷ c ∷ d ∷ []) ≡ false
    → is_and (b ∷ c ∷ d ∷ []) ≡ false
three_letters b c d h k = grind (arith, common_steps)

-- no word AND in front of a gap, where the word is none
flag_behind : (b : ℕ) (bs rest : List ℕ) → is_small_letter b ≡ true → IsDark bs → is_among reserved_words (b ∷ bs) ≡ false → IsGap rest
    → starts_with_and (32 ∷ b ∷ (bs ++ rest)) ≡ false
flag_behind b [] [] letter dark other gap = refl
flag_behind b [] (g ∷ []) letter dark other gap = refl
flag_behind b [] (g ∷ h ∷ []) letter dark other gap = refl
flag_behind b [] (g ∷ h ∷ k ∷ more) letter dark other gap = blank_second b g h k more gap
flag_behind b (c ∷ []) [] letter dark other gap = refl
flag_behind b (c ∷ []) (g ∷ []) letter dark other gap = refl
flag_behind b (c ∷ []) (g ∷ h ∷ more) letter dark other gap = blank_third b c g h more gap
flag_behind b (c ∷ d ∷ []) [] letter dark other gap = refl
flag_behind b (c ∷ d ∷ []) (g ∷ more) letter dark other gap = rw (three_letters b c d letter other) refl
flag_behind b (c ∷ d ∷ e ∷ es) rest letter dark other gap =
    let later = or_parts (is_blank d) (list_any is_blank (e ∷ es)) (or_parts (is_blank c) (list_any is_blank (d ∷ e ∷ es)) dark).1 in
    no_blank_fourth b c d e (es ++ rest) (or_parts (is_blank e) (list_any is_blank es) later.1).0

flag_tight : (w : List ℕ) → is_flag w ≡ true → IsCompact w
unfolding is_flag
flag_tight [] h = absurd cc
flag_tight (b ∷ bs) h =
    let reserved = is_among reserved_words (b ∷ bs) in
    let first = and_parts (is_small_letter b) (list_all is_flag_byte bs && not reserved) h in
    let later = and_parts (list_all is_flag_byte bs) (not reserved) first.1 in
    let bytes : list_all is_flag_byte (b ∷ bs) ≡ true = rw (first.0, later.0) refl in
    let dark = none_of is_flag_byte is_blank flag_dark bs later.0 in
    word_tight b bs (none_of is_flag_byte is_blank flag_dark (b ∷ bs) bytes)
    (none_of is_flag_byte (λ c. c == 40 || c == 41) flag_plain (b ∷ bs) bytes)
    (λ rest gap. flag_behind b bs rest first.0 dark (not-true reserved later.1) gap)

comparison_tight : (text : List ℕ) (q : Quantity) (c : Comparison) (v : ℕ) → IsComparison text q c v → IsCompact (part_text (Compare q c v))
comparison_tight text q c v h = by q (comparison_no_blank text q c v h) (comparison_no_parenthesis text q c v h)
  where
    by : (q : Quantity) → IsDark (part_text (Compare q c v)) → has_parenthesis (part_text (Compare q c v)) ≡ false
        → IsCompact (part_text (Compare q c v))
    by Weight d p = word_tight 119 (codes "eight" ++ (sign_text c ++ measure_text 3 v)) d p (λ rest gap. refl)
    by Axleload d p = word_tight 97 (codes "xleload" ++ (sign_text c ++ measure_text 3 v)) d p (λ rest gap. refl)
    by Height d p = word_tight 104 (codes "eight" ++ (sign_text c ++ measure_text 2 v)) d p (λ rest gap. refl)
    by Width d p = word_tight 119 (codes "idth" ++ (sign_text c ++ measure_text 2 v)) d p (λ rest gap. refl)
    by Length d p = word_tight 108 (codes "ength" ++ (sign_text c ++ measure_text 2 v)) d p (λ rest gap. refl)
    by Axles d p = word_tight 97 (codes "xles" ++ (sign_text c ++ measure_text 0 v)) d p (λ rest gap. refl)

-- The printed text of a part is tight, and it is the same part.
pub part_again : (text : List ℕ) (part : Part) → IsPart text part → IsCompact (part_text part) × IsPart (part_text part) part
part_again text part (conditions.compared {quantity = q} {comparison = c} {value = v} sign h) =
    (comparison_tight text q c v h, conditions.compared (comparison_has_sign q c v) (comparison_again text q c v h))
part_again text part (conditions.flagged sign h) = (flag_tight text h, conditions.flagged sign h)
part_again text part (conditions.timed {rules = rules} sign flag h) = hours_again text rules h
