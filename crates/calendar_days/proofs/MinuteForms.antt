-- A Unix minute is read from its decimal digits, and only from them.
use Rattle.std.proofs.Common.{◌≡◌, ℕ, ◌+◌, ◌-◌, ◌*◌, ◌/◌, ◌%◌, ◌<◌, ◌≤◌, true, cond, not, Some, None, List, [], ◌∷◌, ◌++◌}
use Rattle.std.proofs.Common.{map, length, get_or, refl, sym, ap, ◌∙◌, arith, append_assoc}
use Rattle.std.specs.Prelude.{decimal, nat_le, nat_eq}
use Rattle.std.specs.Int.Digits.{digits_of, number_from_digits_after, AllBelowBase}
use Rattle.std.proofs.lemmas.Fmt.{decimal-digits_of}
use Rattle.std.proofs.lemmas.Int.Digits.{digits_of_step, length-digits_of-le, all_below_base_digits_of, number_digits_of, first_digits_of}
use Rattle.std.proofs.lemmas.List.{append-nil, map-append, length-map}
use Rattle.std.proofs.lemmas.Option.{same_Some}
use Rattle.std.proofs.lemmas.Bool.{le-leb, leb-true, ne_eqb, eqb-false, and_parts, not-true}
use Rattle.route_base.specs.Digits.{digits_from, number_of, plain_number_of}
use Rattle.route_base.specs.Forms.{minute_of, is_from_to}
use Rattle.route_base.specs.Time.{first_instant, last_instant, IsInstant}
use Rattle.route_base.proofs.Logic.{behind_test, then_some}
use Rattle.route_base.proofs.DecimalDigits.{digit_more, digit_back}

abbrev glyphs : ℕ → List ℕ
glyphs n = map (λ d. 48 + d) (digits_of 10 n)

glyphs-step : (n d : ℕ) → 0 < n → d ≤ 9 → glyphs (10 * n + d) ≡ glyphs n ++ (48 + d) ∷ []
glyphs-step n d some small =
    let most : (10 * n + d) / 10 ≡ n = omega (arith, small) in
    let last : (10 * n + d) % 10 ≡ d = omega (arith, small) in
    let step = digits_of_step 10 (10 * n + d) (omega arith) (omega (arith, some)) in
    ap (map (λ d. 48 + d)) (step ∙ ap (λ k. digits_of 10 k ++ ((10 * n + d) % 10 ∷ [])) most
    ∙ ap (λ k. digits_of 10 n ++ (k ∷ [])) last) ∙ map-append (λ d. 48 + d) (digits_of 10 n) (d ∷ [])

-- digits behind a number are those of the larger number
digits_from-glyphs : (bs : List ℕ) (n k : ℕ) → 0 < n → digits_from n bs ≡ Some k → glyphs k ≡ glyphs n ++ bs
digits_from-glyphs [] n k some e = ap glyphs (sym (same_Some n k e)) ∙ sym (append-nil (glyphs n))
digits_from-glyphs (b ∷ bs) n k some e =
    let h = digit_back n b k bs e in
    let digit : 48 + (b - 48) ≡ b = omega (arith, h.0) in
    digits_from-glyphs bs (10 * n + (b - 48)) k (omega (arith, some)) h.2
    ∙ ap (λ (w : List ℕ). w ++ bs) (glyphs-step n (b - 48) some (omega (arith, h.1)) ∙ ap (λ d. glyphs n ++ d ∷ []) digit)
    ∙ append_assoc (glyphs n) (b ∷ []) bs

glyphs-one : (d : ℕ) → 0 < d → d ≤ 9 → glyphs d ≡ (48 + d) ∷ []
glyphs-one d some small =
    let none : d / 10 ≡ 0 = omega (arith, small) in
    let last : d % 10 ≡ d = omega (arith, small) in
    let step = digits_of_step 10 d (omega arith) some in
    ap (map (λ d. 48 + d)) (step ∙ ap (λ k. digits_of 10 k ++ (d % 10 ∷ [])) none ∙ ap (λ k. k ∷ []) last)

not_zero : (b : ℕ) → 48 ≤ b → not (nat_eq b 48) ≡ true → 0 < b - 48
not_zero b low h = omega (arith, low, eqb-false b 48 (not-true (nat_eq b 48) h))

plain-glyphs : (text : List ℕ) (n : ℕ) → 9 < n → plain_number_of text ≡ Some n → text ≡ glyphs n
plain-glyphs [] n large e = absurd (cc)
plain-glyphs (b ∷ []) n large e =
    let h = digit_back 0 b n [] e in
    absurd (omega (arith, h.1, large, same_Some (10 * 0 + (b - 48)) n h.2))
plain-glyphs (b ∷ c ∷ bs) n large e =
    let some = behind_test (not (nat_eq b 48)) (number_of (b ∷ c ∷ bs)) n e in
    let few = behind_test (nat_le (length (b ∷ c ∷ bs)) 18) (digits_from 0 (b ∷ c ∷ bs)) n some.1 in
    let h = digit_back 0 b n (c ∷ bs) few.1 in
    let first : 10 * 0 + (b - 48) ≡ b - 48 = omega arith in
    let digit : 48 + (b - 48) ≡ b = omega (arith, h.0) in
    let low = not_zero b h.0 some.0 in
    sym (digits_from-glyphs (c ∷ bs) (b - 48) n low (rw first at h.2)
    ∙ ap (λ (w : List ℕ). w ++ c ∷ bs) (glyphs-one (b - 48) low (omega (arith, h.1)) ∙ ap (λ k. k ∷ []) digit))

-- and each digit is read
digits_from-map : (ds : List ℕ) (n : ℕ) → AllBelowBase 10 ds → digits_from n (map (λ d. 48 + d) ds) ≡ Some (number_from_digits_after 10 n ds)
digits_from-map [] n h = refl
digits_from-map (d ∷ ds) n h =
    let value : 10 * n + d ≡ n * 10 + d = omega arith in
    digit_more n d (map (λ d. 48 + d) ds) (omega (arith, h.0)) ∙ digits_from-map ds (10 * n + d) h.1
    ∙ ap (λ k. Some (number_from_digits_after 10 k ds)) value

read_digits : (ds : List ℕ) (n : ℕ) → AllBelowBase 10 ds → 0 < get_or ds 0 0 → length ds ≤ 18
    → number_from_digits_after 10 0 ds ≡ n → plain_number_of (map (λ d. 48 + d) ds) ≡ Some n
read_digits [] n all first few value = absurd (omega (arith, first))
read_digits (d ∷ []) n all first few value = digits_from-map (d ∷ []) 0 all ∙ ap (λ k. Some k) value
read_digits (d ∷ c ∷ ds) n all first few value =
    rw (ne_eqb (48 + d) 48 (λ e. omega (arith, first, e)), length-map ds (λ d. 48 + d), le-leb (length (d ∷ c ∷ ds)) 18 few)
    (digits_from-map (d ∷ c ∷ ds) 0 all ∙ ap (λ k. Some k) value)

pub minute-read : (t : ℕ) → IsInstant t → minute_of (decimal t) ≡ Some t
minute-read t h =
    let plain = read_digits (digits_of 10 t) t (all_below_base_digits_of 10 t (omega arith)) (first_digits_of 10 t (omega arith) (omega (arith, h.0)))
    (omega (arith, length-digits_of-le 10 9 t (omega arith) (omega (arith, h.1)))) (number_digits_of 10 t (omega arith)) in
    rw (decimal-digits_of t (omega (arith, h.0)) (omega (arith, h.1)), plain, le-leb first_instant t h.0, le-leb t last_instant h.1) refl

pub minute-only : (text : List ℕ) (t : ℕ) → minute_of text ≡ Some t → text ≡ decimal t
minute-only text t e =
    let number = then_some (plain_number_of text) (λ t. cond (is_from_to first_instant last_instant t) (Some t) None) t e in
    let inside = behind_test (is_from_to first_instant last_instant number.0) (Some number.0) t number.2 in
    let same : number.0 ≡ t = same_Some number.0 t inside.1 in
    let parts = and_parts (nat_le first_instant number.0) (nat_le number.0 last_instant) inside.0 in
    let low = leb-true first_instant number.0 parts.0 in
    let high = leb-true number.0 last_instant parts.1 in
    plain-glyphs text t (omega (arith, low, same)) (number.1 ∙ ap (λ k. Some k) same)
    ∙ sym (decimal-digits_of t (omega (arith, low, same)) (omega (arith, high, same)))
