-- The canonical tokens of rules are these rules.
use Rattle.std.proofs.Common.{◌≡◌, ◌≢◌, ℕ, zero, suc, ◌+◌, ◌-◌, ◌*◌, ◌/◌, ◌%◌, ◌<◌, ◌≤◌, Bool, true, false, cond, List, []}
use Rattle.std.proofs.Common.{◌∷◌, ◌++◌, refl, ap, subst, ◌∙◌, arith, ltb, eq-eqb}
use Rattle.std.specs.Prelude.{◌==◌}
use Rattle.std.proofs.lemmas.Bool.{ltb-true, ltb-false, lt-ltb, eqb-true}
use Rattle.calendar_days.specs.declared.weekday.Weekday.{Weekday}
use Rattle.calendar_days.specs.declared.weekday.Weekday.TheVariants.{Mo, Tu, We, Th, Fr, Sa, Su}
use Rattle.calendar_days.specs.Weekdays.{index_of, days_forward}
use Rattle.opening_hours.specs.declared.tokens.Token.{Token}
use Rattle.opening_hours.specs.declared.tokens.Token.TheVariants.{Day, Dash, Comma, Semicolon}
use Rattle.opening_hours.specs.declared.types.DateSpan.{DateSpan}
use Rattle.opening_hours.specs.declared.types.DayItem.{DayItem}
use Rattle.opening_hours.specs.declared.types.DayItem.TheVariants as items
use Rattle.opening_hours.specs.declared.types.TimeSpan.{TimeSpan}
use Rattle.opening_hours.specs.declared.types.LongSpan.{LongSpan}
use Rattle.opening_hours.specs.declared.types.RuleTimes.TheVariants as times
use Rattle.opening_hours.specs.declared.types.HoursRule.{HoursRule}
use Rattle.opening_hours.specs.Grammar.{IsTime, IsDate, IsItem, IsSpan, IsLong, IsDates, IsDays, IsSpans, IsRule}
use Rattle.opening_hours.specs.Grammar.{IsRules, Joined, whole_day, span_length, long_length}
use Rattle.opening_hours.specs.Grammar as grammar
use Rattle.opening_hours.specs.CanonicalTokens.{listed, date_tokens, item_tokens, time_token, span_tokens, weekday_at, days_after}
use Rattle.opening_hours.specs.CanonicalTokens.{long_tokens, rule_tokens, hours_tokens}

module _ {A : Type 0} (Is : List Token → A → Type 0) (mark : Token) (f : A → List Token) where
  glue : {us : List Token} (x : A) (xs : List A) → Joined Is mark us xs → Is (f x) x → Joined Is mark (listed mark f xs) xs
      → Joined Is mark (listed mark f (x ∷ xs)) (x ∷ xs)
  glue x xs (grammar.one _) p q = grammar.more p q
  glue x xs (grammar.more _ _) p q = grammar.more p q

  pub listed_joined : ((ts : List Token) (x : A) → Is ts x → Is (f x) x) → {ts : List Token} {xs : List A}
      → Joined Is mark ts xs → Joined Is mark (listed mark f xs) xs
  listed_joined each (grammar.one {ts = ts} {x = x} p) = grammar.one (each ts x p)
  listed_joined each (grammar.more {ts = ts} {x = x} {xs = xs} p ps) = glue x xs ps (each ts x p) (listed_joined each ps)

day_one : grammar.IsDayNumber 1
day_one = (omega arith, omega arith)

day_last : grammar.IsDayNumber 31
day_last = (omega arith, omega arith)

date_canon : (ts : List Token) (d : DateSpan) → IsDate ts d → IsDate (date_tokens d) d
date_canon ts d (grammar.month p) = grammar.days_over p day_one p day_last
date_canon ts d (grammar.months p q) = grammar.days_over p day_one q day_last
date_canon ts d (grammar.day p a) = grammar.days_over p a p a
date_canon ts d (grammar.days p a b) = grammar.days_over p a p b
date_canon ts d (grammar.days_over p a q b) = grammar.days_over p a q b

same_index : (a b : Weekday) → index_of a ≡ index_of b → a ≡ b
same_index Mo Mo e = refl
same_index Tu Tu e = refl
same_index We We e = refl
same_index Th Th e = refl
same_index Fr Fr e = refl
same_index Sa Sa e = refl
same_index Su Su e = refl
same_index a b e = absurd cc

item_canon : (ts : List Token) (i : DayItem) → IsItem ts i → IsItem (item_tokens i) i
item_canon ts i (grammar.weekday {a = a}) = rw (eq-eqb (index_of a) (index_of a) refl) grammar.weekday
item_canon ts i (grammar.weekdays {a = a} {b = b}) = by (index_of a == index_of b) refl
  where
    by : (v : Bool) → (index_of a == index_of b) ≡ v → IsItem (cond v (Day a ∷ []) (Day a ∷ Dash ∷ Day b ∷ [])) (items.Week a b)
    by true e = subst (λ (w : Weekday). IsItem (Day a ∷ []) (items.Week a w)) (same_index a b (eqb-true (index_of a) (index_of b) e)) grammar.weekday
    by false e = grammar.weekdays
item_canon ts i grammar.public = grammar.public
item_canon ts i grammar.school = grammar.school
item_canon ts i (grammar.nth p) = grammar.nth p
item_canon ts i (grammar.nth_last p) = grammar.nth_last p

clock : (t : ℕ) → 60 * (t / 60) + t % 60 ≡ t
clock t = omega arith

is_clock : (t limit : ℕ) → t ≤ limit → IsTime (t / 60) (t % 60) limit
is_clock t limit h = (omega arith, omega arith)

span_made : (s e l : ℕ) → s ≤ 1439 → e ≤ 2880 → span_length s e ≡ l
    → IsSpan (time_token s ∷ Dash ∷ time_token e ∷ []) (record { start = s; length = l })
span_made s e l small large is =
    let made : ℕ → ℕ → TimeSpan = λ a b. record { start = a; length = span_length a b } in
    let found : IsSpan (time_token s ∷ Dash ∷ time_token e ∷ []) (made (60 * (s / 60) + s % 60) (60 * (e / 60) + e % 60)) =
    grammar.span (is_clock s 1439 small) (is_clock e 2880 large) in
    let whole : ℕ → TimeSpan = λ k. record { start = s; length = k } in
    subst (IsSpan (time_token s ∷ Dash ∷ time_token e ∷ [])) (ap (λ a. made a (60 * (e / 60) + e % 60)) (clock s)
    ∙ ap (λ b. made s b) (clock e) ∙ ap whole is) found

length_again : (s l : ℕ) → 0 < l → span_length s (s + l) ≡ l
length_again s l h =
    let above : ltb s (s + l) ≡ true = lt-ltb s (s + l) (omega arith) in
    rw above (omega arith)

span_fits : (s e : ℕ) → s ≤ 1439 → e ≤ 2880 → (s + span_length s e ≤ 2880) × (0 < span_length s e)
span_fits s e small large = by (ltb s e) refl
  where
    by : (v : Bool) → ltb s e ≡ v → (s + cond v (e - s) (e + 1440 - s) ≤ 2880) × (0 < cond v (e - s) (e + 1440 - s))
    by true h = let k = ltb-true s e h in (omega arith, omega arith)
    by false h = let k = ltb-false s e h in (omega arith, omega arith)

span_canon : (ts : List Token) (s : TimeSpan) → IsSpan ts s → IsSpan (span_tokens s) s
span_canon ts s (grammar.span {h = h} {m = m} {g = g} {n = n} p q) =
    let a = 60 * h + m in let b = 60 * g + n in
    let fits = span_fits a b p.1 q.1 in
    span_made a (a + span_length a b) (span_length a b) p.1 fits.0 (length_again a (span_length a b) fits.1)

index_at : (n : ℕ) → n < 7 → index_of (weekday_at n) ≡ n
index_at zero h = refl
index_at (suc zero) h = refl
index_at (suc (suc zero)) h = refl
index_at (suc (suc (suc zero))) h = refl
index_at (suc (suc (suc (suc zero)))) h = refl
index_at (suc (suc (suc (suc (suc zero))))) h = refl
index_at (suc (suc (suc (suc (suc (suc zero)))))) h = refl
index_at (suc (suc (suc (suc (suc (suc (suc n))))))) h = absurd (omega arith)

index_small : (a : Weekday) → index_of a ≤ 6
index_small Mo = omega arith
index_small Tu = omega arith
index_small We = omega arith
index_small Th = omega arith
index_small Fr = omega arith
index_small Sa = omega arith
index_small Su = omega arith

forward_again : (k i : ℕ) → i ≤ 6 → ((k % 7 + i) % 7 + 7 - i) % 7 ≡ k % 7
forward_again k i h = omega arith

after_forward : (k : ℕ) (a : Weekday) → days_forward a (days_after k a) ≡ k % 7
after_forward k a =
    let small : (k % 7 + index_of a) % 7 < 7 = omega arith in
    ap (λ (n : ℕ). (n + 7 - index_of a) % 7) (index_at ((k % 7 + index_of a) % 7) small) ∙ forward_again k (index_of a) (index_small a)

forward_small : (a b : Weekday) → days_forward a b ≤ 6
forward_small a b = omega arith

-- where a long span ends, counted from the start of its first day
long_end : (a : Weekday) (s : ℕ) (b : Weekday) (e : ℕ) → s ≤ 1439 → e ≤ 1440 → let end = s + long_length a s b e in
    (0 < long_length a s b e) × (end ≤ 11519) × (long_length a s b e ≤ 10080)
long_end a s b e small large = by (ltb s (1440 * days_forward a b + e)) refl
  where
    by : (v : Bool) → ltb s (1440 * days_forward a b + e) ≡ v → let x = 1440 * days_forward a b + e in
        let l = cond v (x - s) (x + 10080 - s) in (0 < l) × (s + l ≤ 11519) × (l ≤ 10080)
    by true h = let k = ltb-true s (1440 * days_forward a b + e) h in let f = forward_small a b in (omega arith, omega arith, omega arith)
    by false h = let k = ltb-false s (1440 * days_forward a b + e) h in let f = forward_small a b in (omega arith, omega arith, omega arith)

long_again_length : (a : Weekday) (s l : ℕ) → s ≤ 1439 → 0 < l → s + l ≤ 11519 → l ≤ 10080
    → long_length a s (days_after ((s + l) / 1440) a) ((s + l) % 1440) ≡ l
long_again_length a s l small some fits week =
    let f : days_forward a (days_after ((s + l) / 1440) a) ≡ (s + l) / 1440 % 7 = after_forward ((s + l) / 1440) a in
    rw f (by (ltb s (1440 * ((s + l) / 1440 % 7) + (s + l) % 1440)) refl)
  where
    by : (v : Bool) → ltb s (1440 * ((s + l) / 1440 % 7) + (s + l) % 1440) ≡ v
        → let x = 1440 * ((s + l) / 1440 % 7) + (s + l) % 1440 in cond v (x - s) (x + 10080 - s) ≡ l
    by true h = let k = ltb-true s (1440 * ((s + l) / 1440 % 7) + (s + l) % 1440) h in omega arith
    by false h = let k = ltb-false s (1440 * ((s + l) / 1440 % 7) + (s + l) % 1440) h in omega arith

long_canon : (ts : List Token) (l : LongSpan) → IsLong ts l → IsLong (long_tokens l) l
long_canon ts l (grammar.long {a = a} {b = b} {h = h} {m = m} {g = g} {n = n} p q) =
    let s = 60 * h + m in
    let len = long_length a s b (60 * g + n) in
    let end = s + len in
    let to = days_after (end / 1440) a in
    let r = end % 1440 in
    let fits = long_end a s b (60 * g + n) p.1 q.1 in
    let made : ℕ → ℕ → LongSpan = λ x y. record { weekday = a; start = x; length = long_length a x to y } in
    let late : r ≤ 1440 = omega arith in
    let found : IsLong (long_tokens (record { weekday = a; start = s; length = len }))
    (made (60 * (s / 60) + s % 60) (60 * (r / 60) + r % 60)) = grammar.long (is_clock s 1439 p.1) (is_clock r 1440 late) in
    let whole : ℕ → LongSpan = λ k. record { weekday = a; start = s; length = k } in
    subst (IsLong (long_tokens (record { weekday = a; start = s; length = len })))
    (ap (λ x. made x (60 * (r / 60) + r % 60)) (clock s) ∙ ap (λ y. made s y) (clock r)
    ∙ ap whole (long_again_length a s len p.1 fits.0 fits.1 fits.2)) found

dates_canon : (ts : List Token) (ds : List DateSpan) → IsDates ts ds → IsDates (listed Comma date_tokens ds) ds
dates_canon ts ds grammar.none = grammar.none
dates_canon ts ds (grammar.plain h) = grammar.plain (listed_joined IsDate Comma date_tokens date_canon h)
dates_canon ts ds (grammar.colon h) = grammar.plain (listed_joined IsDate Comma date_tokens date_canon h)

days_canon : (ts : List Token) (is : List DayItem) → IsDays ts is → IsDays (listed Comma item_tokens is) is
days_canon ts is grammar.none = grammar.none
days_canon ts is (grammar.some h) = grammar.some (listed_joined IsItem Comma item_tokens item_canon h)

whole_canon : IsSpans (listed Comma span_tokens whole_day) whole_day
whole_canon = grammar.some (grammar.one (span_made 0 1440 1440 (omega arith) (omega arith) refl))

spans_canon : (ts : List Token) (ss : List TimeSpan) → IsSpans ts ss → IsSpans (listed Comma span_tokens ss) ss
spans_canon ts ss grammar.none = whole_canon
spans_canon ts ss (grammar.some h) = grammar.some (listed_joined IsSpan Comma span_tokens span_canon h)

spans_some : (ts : List Token) (ss : List TimeSpan) → IsSpans ts ss → listed Comma span_tokens ss ≢ []
spans_some ts ss grammar.none e = absurd cc
spans_some ts ss (grammar.some (grammar.one _)) e = absurd cc
spans_some ts ss (grammar.some (grammar.more _ (grammar.one _))) e = absurd cc
spans_some ts ss (grammar.some (grammar.more _ (grammar.more _ _))) e = absurd cc

both_some : (a b c : List Token) → c ≢ [] → a ++ (b ++ c) ≢ []
both_some [] [] c h e = h e
both_some [] (b ∷ bs) c h e = absurd cc
both_some (a ∷ as_) b c h e = absurd cc

end_nil : (ts : List Token) → ts ++ [] ≡ ts
end_nil [] = refl
end_nil (t ∷ ts) = ap (λ (us : List Token). t ∷ us) (end_nil ts)

spans_rule : (a b c : List Token) (ds : List DateSpan) (is : List DayItem) (ss : List TimeSpan) → IsDates a ds → IsDays b is
    → IsSpans c ss → c ≢ [] → IsRule (a ++ (b ++ c)) (record { dates = ds; days = is; times = times.Spans ss })
spans_rule a b c ds is ss d i s some =
    subst (λ (us : List Token). IsRule (a ++ (b ++ us)) (record { dates = ds; days = is; times = times.Spans ss }))
    (end_nil c) (grammar.spans d i s grammar.none (both_some a b c some))

rule_canon : (ts : List Token) (r : HoursRule) → IsRule ts r → IsRule (rule_tokens r) r
rule_canon ts r (grammar.always o) = spans_rule [] []
    (listed Comma span_tokens whole_day) [] [] whole_day grammar.none grammar.none whole_canon (spans_some [] whole_day grammar.none)
rule_canon ts r (grammar.spans {a = a} {b = b} {c = c} {dates = ds} {days = is} {spans = ss} d i s o some) =
    spans_rule (listed Comma date_tokens ds) (listed Comma item_tokens is) (listed Comma span_tokens ss) ds is ss
    (dates_canon a ds d) (days_canon b is i) (spans_canon c ss s) (spans_some c ss s)
rule_canon ts r (grammar.off {a = a} {b = b} {dates = ds} {days = is} d i) = grammar.off (dates_canon a ds d) (days_canon b is i)
rule_canon ts r (grammar.long {a = a} {b = b} {dates = ds} {l = l} d h o) =
    subst (λ (us : List Token). IsRule (listed Comma date_tokens ds ++ us)
    (record { dates = ds; days = []; times = times.Long l })) (end_nil (long_tokens l))
    (grammar.long (dates_canon a ds d) (long_canon b l h) grammar.none)

pub rules_canon : (ts : List Token) (rs : List HoursRule) → IsRules ts rs → IsRules (hours_tokens rs) rs
rules_canon ts rs h = listed_joined IsRule Semicolon rule_tokens rule_canon h
