-- The pieces of a rule: reading gives exactly what the grammar says.
use Rattle.std.proofs.Common.{◌≡◌, ℕ, ◌+◌, ◌*◌, ◌≤◌, true, List, [], ◌∷◌, ◌++◌, Some, refl, subst, arith}
use Rattle.std.specs.Prelude.{◌&&◌, nat_le}
use Rattle.std.proofs.lemmas.Grind.{common_steps}
use Rattle.std.proofs.lemmas.Bool.{and_parts}
use Rattle.std.proofs.lemmas.Option.{cond_some}
use Rattle.opening_hours.specs.declared.tokens.Token.{Token}
use Rattle.opening_hours.specs.declared.tokens.Token.TheVariants.{Month, Day, Public, School, Open, Time, Number, Dash, LeftBracket, RightBracket}
use Rattle.opening_hours.specs.declared.tokens.Digits.TheVariants as digits
use Rattle.opening_hours.specs.declared.types.DateSpan.{DateSpan}
use Rattle.opening_hours.specs.declared.types.DayItem.{DayItem}
use Rattle.opening_hours.specs.declared.types.DayItem.TheVariants as items
use Rattle.opening_hours.specs.declared.types.TimeSpan.{TimeSpan}
use Rattle.opening_hours.specs.declared.types.LongSpan.{LongSpan}
use Rattle.opening_hours.specs.Grammar.{IsMonth, IsDayNumber, IsOrdinal, IsTime, IsDate, IsItem, IsSpan, IsLong, IsOpens, dates_from_to}
use Rattle.opening_hours.specs.Grammar.{span_length, long_length}
use Rattle.opening_hours.specs.Grammar as grammar
use Rattle.opening_hours.specs.Inside.Parser.{is_month, is_day_number, is_ordinal, is_time, read_date, read_item, read_span, read_long, is_opens}

month_true : (m : ℕ) → IsMonth m → is_month m ≡ true
month_true m h = grind (arith, common_steps)

month_is : (m : ℕ) → is_month m ≡ true → IsMonth m
month_is m e = let h = and_parts (nat_le 1 m) (nat_le m 12) e in let low : 1 ≤ m = grind (arith, common_steps) in
    let high : m ≤ 12 = grind (arith, common_steps) in (low, high)

day_true : (a : ℕ) → IsDayNumber a → is_day_number a ≡ true
day_true a h = grind (arith, common_steps)

day_is : (a : ℕ) → is_day_number a ≡ true → IsDayNumber a
day_is a e = let h = and_parts (nat_le 1 a) (nat_le a 31) e in let low : 1 ≤ a = grind (arith, common_steps) in
    let high : a ≤ 31 = grind (arith, common_steps) in (low, high)

ordinal_true : (k : ℕ) → IsOrdinal k → is_ordinal k ≡ true
ordinal_true k h = grind (arith, common_steps)

ordinal_is : (k : ℕ) → is_ordinal k ≡ true → IsOrdinal k
ordinal_is k e = let h = and_parts (nat_le 1 k) (nat_le k 5) e in let low : 1 ≤ k = grind (arith, common_steps) in
    let high : k ≤ 5 = grind (arith, common_steps) in (low, high)

time_true : (h m limit : ℕ) → IsTime h m limit → is_time h m limit ≡ true
time_true h m limit t = grind (arith, common_steps)

time_is : (h m limit : ℕ) → is_time h m limit ≡ true → IsTime h m limit
time_is h m limit e =
    let b = and_parts (nat_le m 59) (nat_le (60 * h + m) limit) e in
    let low : m ≤ 59 = grind (arith, common_steps) in
    let high : 60 * h + m ≤ limit = grind (arith, common_steps) in
    (low, high)

pub date_again : {ts : List Token} {d : DateSpan} → IsDate ts d → read_date ts ≡ Some d
date_again (grammar.month {m = m} p) = rw (month_true m p) refl
date_again (grammar.months {m = m} {n = n} p q) = rw (month_true m p, month_true n q) refl
date_again (grammar.day {m = m} {a = a} p q) = rw (month_true m p, day_true a q) refl
date_again (grammar.days {m = m} {a = a} {b = b} p q r) = rw (month_true m p, day_true a q, day_true b r) refl
date_again (grammar.days_over {m = m} {a = a} {n = n} {b = b} p q r s) = rw (month_true m p, day_true a q, month_true n r, day_true b s) refl

pub date_found : (ts : List Token) (d : DateSpan) → read_date ts ≡ Some d → IsDate ts d
date_found (Month m ∷ []) d e =
    let h = cond_some (is_month m) (dates_from_to m 1 m 31) d e in
    subst (IsDate (Month m ∷ [])) h.1 (grammar.month (month_is m h.0))
date_found (Month m ∷ Dash ∷ Month n ∷ []) d e =
    let h = cond_some (is_month m && is_month n) (dates_from_to m 1 n 31) d e in
    let b = and_parts (is_month m) (is_month n) h.0 in
    subst (IsDate (Month m ∷ Dash ∷ Month n ∷ [])) h.1 (grammar.months (month_is m b.0) (month_is n b.1))
date_found (Month m ∷ Number a i ∷ []) d e =
    let h = cond_some (is_month m && is_day_number a) (dates_from_to m a m a) d e in
    let b = and_parts (is_month m) (is_day_number a) h.0 in
    subst (IsDate (Month m ∷ Number a i ∷ [])) h.1 (grammar.day (month_is m b.0) (day_is a b.1))
date_found (Month m ∷ Number a i ∷ Dash ∷ Number b j ∷ []) d e =
    let h = cond_some (is_month m && (is_day_number a && is_day_number b)) (dates_from_to m a m b) d e in
    let f = and_parts (is_month m) (is_day_number a && is_day_number b) h.0 in
    let s = and_parts (is_day_number a) (is_day_number b) f.1 in
    subst (IsDate (Month m ∷ Number a i ∷ Dash ∷ Number b j ∷ [])) h.1 (grammar.days (month_is m f.0) (day_is a s.0) (day_is b s.1))
date_found (Month m ∷ Number a i ∷ Dash ∷ Month n ∷ Number b j ∷ []) d e =
    let h = cond_some (is_month m && (is_day_number a && (is_month n && is_day_number b))) (dates_from_to m a n b) d e in
    let f = and_parts (is_month m) (is_day_number a && (is_month n && is_day_number b)) h.0 in
    let s = and_parts (is_day_number a) (is_month n && is_day_number b) f.1 in
    let t = and_parts (is_month n) (is_day_number b) s.1 in
    subst (IsDate (Month m ∷ Number a i ∷ Dash ∷ Month n ∷ Number b j ∷ [])) h.1
    (grammar.days_over (month_is m f.0) (day_is a s.0) (month_is n t.0) (day_is b t.1))
date_found ts d e = absurd cc

pub item_again : {ts : List Token} {i : DayItem} → IsItem ts i → read_item ts ≡ Some i
item_again grammar.weekday = refl
item_again grammar.weekdays = refl
item_again grammar.public = refl
item_again grammar.school = refl
item_again (grammar.nth {k = k} p) = rw (ordinal_true k p) refl
item_again (grammar.nth_last {k = k} p) = rw (ordinal_true k p) refl

pub item_found : (ts : List Token) (i : DayItem) → read_item ts ≡ Some i → IsItem ts i
item_found (Day a ∷ []) i e = let f : items.Week a a ≡ i = cc in subst (IsItem (Day a ∷ [])) f grammar.weekday
item_found (Day a ∷ Dash ∷ Day b ∷ []) i e = let f : items.Week a b ≡ i = cc in subst (IsItem (Day a ∷ Dash ∷ Day b ∷ [])) f grammar.weekdays
item_found (Public ∷ []) i e = let f : items.Public ≡ i = cc in subst (IsItem (Public ∷ [])) f grammar.public
item_found (School ∷ []) i e = let f : items.School ≡ i = cc in subst (IsItem (School ∷ [])) f grammar.school
item_found (Day a ∷ LeftBracket ∷ Number k digits.One ∷ RightBracket ∷ []) i e =
    let h = cond_some (is_ordinal k) (items.Nth a k) i e in
    subst (IsItem (Day a ∷ LeftBracket ∷ Number k digits.One ∷ RightBracket ∷ [])) h.1 (grammar.nth (ordinal_is k h.0))
item_found (Day a ∷ LeftBracket ∷ Dash ∷ Number k digits.One ∷ RightBracket ∷ []) i e =
    let h = cond_some (is_ordinal k) (items.NthLast a k) i e in
    subst (IsItem (Day a ∷ LeftBracket ∷ Dash ∷ Number k digits.One ∷ RightBracket ∷ [])) h.1 (grammar.nth_last (ordinal_is k h.0))
item_found ts i e = absurd cc

pub span_again : {ts : List Token} {s : TimeSpan} → IsSpan ts s → read_span ts ≡ Some s
span_again (grammar.span {h = h} {m = m} {g = g} {n = n} p q) = rw (time_true h m 1439 p, time_true g n 2880 q) refl

pub span_found : (ts : List Token) (s : TimeSpan) → read_span ts ≡ Some s → IsSpan ts s
span_found (Time h m ∷ Dash ∷ Time g n ∷ []) s e =
    let f = cond_some (is_time h m 1439 && is_time g n 2880) (record { start = 60 * h + m; length = span_length (60 * h + m) (60 * g + n) }) s e in
    let b = and_parts (is_time h m 1439) (is_time g n 2880) f.0 in
    subst (IsSpan (Time h m ∷ Dash ∷ Time g n ∷ [])) f.1 (grammar.span (time_is h m 1439 b.0) (time_is g n 2880 b.1))
span_found ts s e = absurd cc

pub opens_again : {ts : List Token} → IsOpens ts → is_opens ts ≡ true
opens_again grammar.none = refl
opens_again grammar.word = refl

pub opens_found : (ts : List Token) → is_opens ts ≡ true → IsOpens ts
opens_found [] e = grammar.none
opens_found (Open ∷ []) e = grammar.word
opens_found ts e = absurd cc

pub long_again : {ts os : List Token} {l : LongSpan} → IsLong ts l → IsOpens os → read_long (ts ++ os) ≡ Some l
long_again {os = os} (grammar.long {h = h} {m = m} {g = g} {n = n} p q) o = rw (time_true h m 1439 p, time_true g n 1440 q, opens_again o) refl

-- a long span and what may end a rule
pub record Long (ts : List Token) (l : LongSpan) : Type 0 where
  pub span : List Token
  pub opens : List Token
  pub parts : ts ≡ span ++ opens
  pub is_long : IsLong span l
  pub is_opens : IsOpens opens

pub long_found : (ts : List Token) (l : LongSpan) → read_long ts ≡ Some l → Long ts l
long_found (Day a ∷ Time h m ∷ Dash ∷ Day b ∷ Time g n ∷ os) l e =
    let made : LongSpan = record { weekday = a; start = 60 * h + m; length = long_length a (60 * h + m) b (60 * g + n) } in
    let f = cond_some (is_time h m 1439 && (is_time g n 1440 && is_opens os)) made l e in
    let p = and_parts (is_time h m 1439) (is_time g n 1440 && is_opens os) f.0 in
    let q = and_parts (is_time g n 1440) (is_opens os) p.1 in
    let found : IsLong (Day a ∷ Time h m ∷ Dash ∷ Day b ∷ Time g n ∷ []) made = grammar.long (time_is h m 1439 p.0) (time_is g n 1440 q.0) in
    record {
      span = Day a ∷ Time h m ∷ Dash ∷ Day b ∷ Time g n ∷ [];
      opens = os;
      parts = refl;
      is_long =
          subst (IsLong (Day a ∷ Time h m ∷ Dash ∷ Day b ∷ Time g n ∷ [])) f.1 found;
      is_opens = opens_found os q.1;
    }
long_found ts l e = absurd cc
