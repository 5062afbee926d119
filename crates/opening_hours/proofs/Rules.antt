-- Rules: reading gives exactly what the grammar says.
use Rattle.std.proofs.Common.{◌≡◌, ◌≢◌, ℕ, Bool, true, false, cond, List, [], ◌∷◌, ◌++◌, Option, Some, None, refl, sym, ap}
use Rattle.std.proofs.Common.{subst, ◌∙◌, append_assoc, ◌⊎◌, inl, inr}
use Rattle.std.specs.Prelude.{option_and_then, option_map}
use Rattle.std.specs.List.{take_while}
use Rattle.calendar_days.specs.declared.weekday.Weekday.{Weekday}
use Rattle.std.proofs.lemmas.Option.{cond_some}
use Rattle.route_base.proofs.Logic.{then_some, map_some}
use Rattle.opening_hours.specs.declared.tokens.Token.{Token}
use Rattle.opening_hours.specs.declared.tokens.Token.TheVariants.{Month, Day, Public, School, Off, Open, Always, Unknown}
use Rattle.opening_hours.specs.declared.tokens.Token.TheVariants.{Time, Number, Dash, Comma, Semicolon, Colon, LeftBracket, RightBracket}
use Rattle.opening_hours.specs.declared.tokens.Digits.{Digits}
use Rattle.opening_hours.specs.declared.tokens.Digits.TheVariants as digits
use Rattle.opening_hours.specs.declared.tokens.Part.TheVariants as parts
use Rattle.opening_hours.specs.declared.types.DateSpan.{DateSpan}
use Rattle.opening_hours.specs.declared.types.DayItem.{DayItem}
use Rattle.opening_hours.specs.declared.types.TimeSpan.{TimeSpan}
use Rattle.opening_hours.specs.declared.types.LongSpan.{LongSpan}
use Rattle.opening_hours.specs.declared.types.RuleTimes.{RuleTimes}
use Rattle.opening_hours.specs.declared.types.RuleTimes.TheVariants as times
use Rattle.opening_hours.specs.declared.types.HoursRule.{HoursRule}
use Rattle.opening_hours.specs.Grammar.{IsDate, IsItem, IsSpan, IsLong, IsOpens, IsDates, IsDays, IsSpans, IsRule, IsRules, Joined, whole_day}
use Rattle.opening_hours.specs.Grammar as grammar
use Rattle.opening_hours.specs.Inside.Parser.{belongs, behind, read_date, read_item, read_span, read_list, read_dates, read_days}
use Rattle.opening_hours.specs.Inside.Parser.{read_spans, is_opens, is_long, read_long, is_off, read_times, hours_rule_of, read_after}
use Rattle.opening_hours.specs.Inside.Parser.{without_colon, read_dated, read_rule, read_rules}
use Rattle.opening_hours.proofs.Pieces.{date_again, date_found, item_again, item_found, span_again, span_found}
use Rattle.opening_hours.proofs.Pieces.{opens_again, opens_found, long_again, long_found}
use Rattle.opening_hours.proofs.Lists.{Made, Heads, Starts, Stops, Made-append, Made-weaker, Heads-append, Starts-append}
use Rattle.opening_hours.proofs.Lists.{Stops-starts, front_made, behind_made, front_behind, list_found, list_again}

-- where the mark between things is
comma_ends : (t : Token) → belongs parts.Item t ≡ false → t ≡ Comma
comma_ends Comma e = refl
comma_ends t e = absurd cc

semicolon_ends : (t : Token) → belongs parts.Rule t ≡ false → t ≡ Semicolon
semicolon_ends Semicolon e = refl
semicolon_ends t e = absurd cc

-- the tokens of dates, days and times, and no others
abbrev pub is_content : Token → Bool
is_content Off = false
is_content Open = false
is_content Always = false
is_content Unknown = false
is_content Semicolon = false
is_content t = true

-- the tokens that may follow dates, and days
abbrev pub follows_dates : Token → Bool
follows_dates (Day a) = true
follows_dates Public = true
follows_dates School = true
follows_dates (Time h m) = true
follows_dates Open = true
follows_dates Off = true
follows_dates t = false

abbrev pub is_time_token : Token → Bool
is_time_token (Time h m) = true
is_time_token t = false

abbrev pub follows_days : Token → Bool
follows_days (Time h m) = true
follows_days Open = true
follows_days Off = true
follows_days t = false

abbrev pub is_day_token : Token → Bool
is_day_token (Day a) = true
is_day_token Public = true
is_day_token School = true
is_day_token t = false

-- one thing
module _ (p : Token → Bool) where
  date_made : p Dash ≡ true → ((m : ℕ) → p (Month m) ≡ true) → ((a : ℕ) (i : Digits) → p (Number a i) ≡ true)
      → (ts : List Token) (d : DateSpan) → IsDate ts d → Made p ts
  date_made dash month number ts d (grammar.month {m = m} _) = (month m, tt)
  date_made dash month number ts d (grammar.months {m = m} {n = n} _ _) = (month m, (dash, (month n, tt)))
  date_made dash month number ts d (grammar.day {m = m} {a = a} {i = i} _ _) = (month m, (number a i, tt))
  date_made dash month number ts d (grammar.days {m = m} {a = a} {b = b} {i = i} {j = j} _ _ _) = (month m, (number a i, (dash, (number b j, tt))))
  date_made dash month number ts d (grammar.days_over {m = m} {a = a} {n = n} {b = b} {i = i} {j = j} _ _ _ _) =
      (month m, (number a i, (dash, (month n, (number b j, tt)))))

  item_made : p Dash ≡ true → ((a : Weekday) → p (Day a) ≡ true) → p Public ≡ true → p School ≡ true
      → p LeftBracket ≡ true → ((a : ℕ) (i : Digits) → p (Number a i) ≡ true) → p RightBracket ≡ true
      → (ts : List Token) (i : DayItem) → IsItem ts i → Made p ts
  item_made dash day public school left number right ts i (grammar.weekday {a = a}) = (day a, tt)
  item_made dash day public school left number right ts i (grammar.weekdays {a = a} {b = b}) = (day a, (dash, (day b, tt)))
  item_made dash day public school left number right ts i grammar.public = (public, tt)
  item_made dash day public school left number right ts i grammar.school = (school, tt)
  item_made dash day public school left number right ts i (grammar.nth {a = a} {k = k} _) =
      (day a, (left, (number k digits.One, (right, tt))))
  item_made dash day public school left number right ts i (grammar.nth_last {a = a} {k = k} _) =
      (day a, (left, (dash, (number k digits.One, (right, tt)))))

  span_made : p Dash ≡ true → ((h m : ℕ) → p (Time h m) ≡ true) → (ts : List Token) (s : TimeSpan) → IsSpan ts s → Made p ts
  span_made dash time ts s (grammar.span {h = h} {m = m} {g = g} {n = n} _ _) = (time h m, (dash, (time g n, tt)))

  long_made : p Dash ≡ true → ((a : Weekday) → p (Day a) ≡ true) → ((h m : ℕ) → p (Time h m) ≡ true)
      → (ts : List Token) (l : LongSpan) → IsLong ts l → Made p ts
  long_made dash day time ts l (grammar.long {a = a} {b = b} {h = h} {m = m} {g = g} {n = n} _ _) =
      (day a, (time h m, (dash, (day b, (time g n, tt)))))

  joined_made : {A : Type 0} (Is : List Token → A → Type 0) (mark : Token) → p mark ≡ true
      → ((ts : List Token) (x : A) → Is ts x → Made p ts) → {ts : List Token} {xs : List A} → Joined Is mark ts xs → Made p ts
  joined_made Is mark passes made (grammar.one {ts = ts} {x = x} h) = made ts x h
  joined_made Is mark passes made (grammar.more {ts = ts} {us = us} {x = x} h hs) =
      Made-append p ts (mark ∷ us) (made ts x h) (passes, joined_made Is mark passes made hs)

  joined_heads : {A : Type 0} (Is : List Token → A → Type 0) (mark : Token)
      → ((ts : List Token) (x : A) → Is ts x → Heads p ts) → {ts : List Token} {xs : List A} → Joined Is mark ts xs → Heads p ts
  joined_heads Is mark heads (grammar.one {ts = ts} {x = x} h) = heads ts x h
  joined_heads Is mark heads (grammar.more {ts = ts} {us = us} {x = x} h hs) = Heads-append p ts (mark ∷ us) (heads ts x h)

date_heads : (ts : List Token) (d : DateSpan) → IsDate ts d → Heads is_content ts
date_heads ts d (grammar.month _) = refl
date_heads ts d (grammar.months _ _) = refl
date_heads ts d (grammar.day _ _) = refl
date_heads ts d (grammar.days _ _ _) = refl
date_heads ts d (grammar.days_over _ _ _ _) = refl

item_heads : (ts : List Token) (i : DayItem) → IsItem ts i → Heads is_day_token ts
item_heads ts i grammar.weekday = refl
item_heads ts i grammar.weekdays = refl
item_heads ts i grammar.public = refl
item_heads ts i grammar.school = refl
item_heads ts i (grammar.nth _) = refl
item_heads ts i (grammar.nth_last _) = refl

span_heads : (ts : List Token) (s : TimeSpan) → IsSpan ts s → Heads is_time_token ts
span_heads ts s (grammar.span _ _) = refl

-- lists of things
dates_again : {ts : List Token} {ds : List DateSpan} → Joined IsDate Comma ts ds → read_list read_date ts ≡ Some ds
unfolding read_list
dates_again h = list_again IsDate read_date parts.Item Comma refl
    (date_made (belongs parts.Item) refl (λ _. refl) (λ _ _. refl)) (λ ts d p. date_again p) h

items_again : {ts : List Token} {is : List DayItem} → Joined IsItem Comma ts is → read_list read_item ts ≡ Some is
unfolding read_list
items_again h = list_again IsItem read_item parts.Item Comma refl (item_made (belongs parts.Item) refl (λ _. refl) refl refl refl (λ _ _. refl) refl)
    (λ ts d p. item_again p) h

spans_again : {ts : List Token} {ss : List TimeSpan} → Joined IsSpan Comma ts ss → read_list read_span ts ≡ Some ss
unfolding read_list
spans_again h = list_again IsSpan read_span parts.Item Comma refl (span_made (belongs parts.Item) refl (λ _ _. refl)) (λ ts d p. span_again p) h

filled_dates : (p : Token → Bool) (ts : List Token) → Heads p ts → read_dates ts ≡ read_list read_date ts
unfolding read_dates
filled_dates p [] h = absurd h
filled_dates p (t ∷ ts) h = refl

filled_days : (p : Token → Bool) (ts : List Token) → Heads p ts → read_days ts ≡ read_list read_item ts
unfolding read_days
filled_days p [] h = absurd h
filled_days p (t ∷ ts) h = refl

filled_spans : (p : Token → Bool) (ts : List Token) → Heads p ts → read_spans ts ≡ read_list read_span ts
unfolding read_spans
filled_spans p [] h = absurd h
filled_spans p (t ∷ ts) h = refl

days_again : {ts : List Token} {is : List DayItem} → IsDays ts is → read_days ts ≡ Some is
unfolding read_days
days_again grammar.none = refl
days_again (grammar.some {ts = ts} h) = filled_days is_day_token ts (joined_heads is_day_token IsItem Comma item_heads h) ∙ items_again h

times_again : {ts : List Token} {ss : List TimeSpan} → IsSpans ts ss → read_spans ts ≡ Some ss
unfolding read_spans
times_again grammar.none = refl
times_again (grammar.some {ts = ts} h) = filled_spans is_time_token ts (joined_heads is_time_token IsSpan Comma span_heads h) ∙ spans_again h

dates_found : (ts : List Token) (ds : List DateSpan) → read_dates ts ≡ Some ds → ((ts ≡ []) × (ds ≡ [])) ⊎ Joined IsDate Comma ts ds
unfolding read_dates read_list
dates_found [] ds e = let f : [] ≡ ds = cc in inl (refl, sym f)
dates_found (t ∷ ts) ds e = inr (list_found IsDate read_date parts.Item Comma comma_ends date_found (t ∷ ts) ds e)

days_found : (ts : List Token) (is : List DayItem) → read_days ts ≡ Some is → IsDays ts is
unfolding read_days read_list
days_found [] is e = let f : [] ≡ is = cc in subst (IsDays []) f grammar.none
days_found (t ∷ ts) is e = grammar.some (list_found IsItem read_item parts.Item Comma comma_ends item_found (t ∷ ts) is e)

spans_found : (ts : List Token) (ss : List TimeSpan) → read_spans ts ≡ Some ss → IsSpans ts ss
unfolding read_spans read_list
spans_found [] ss e = let f : whole_day ≡ ss = cc in subst (IsSpans []) f grammar.none
spans_found (t ∷ ts) ss e = grammar.some (list_found IsSpan read_span parts.Item Comma comma_ends span_found (t ∷ ts) ss e)

-- dates, and what stands behind them
unless_colon : (t : Token) (ts rest : List Token) → Starts follows_dates rest → without_colon (t ∷ ts) rest ≡ rest
unless_colon t ts [] h = refl
unless_colon t ts (Colon ∷ rest) h = absurd cc
unless_colon t ts (r ∷ rest) h = refl

not_dates : (t : Token) → follows_dates t ≡ true → belongs parts.Dates t ≡ false
not_dates (Month m) e = absurd cc
not_dates (Number m i) e = absurd cc
not_dates Dash e = absurd cc
not_dates Comma e = absurd cc
not_dates t e = refl

module _ (core : List Token) (ds : List DateSpan) (h : Joined IsDate Comma core ds) where
  dates_read : read_dates core ≡ Some ds
  dates_read = filled_dates is_content core (joined_heads is_content IsDate Comma date_heads h) ∙ dates_again h

  core_made : Made (belongs parts.Dates) core
  core_made = joined_made (belongs parts.Dates) IsDate Comma refl (date_made (belongs parts.Dates) refl (λ _. refl) (λ _ _. refl)) h

  dated_core : (rest after : List Token) → Stops (belongs parts.Dates) rest → without_colon core rest ≡ after
      → read_dated (core ++ rest) ≡ read_after ds after
  unfolding read_dated
  dated_core rest after stops cut = rw (
    front_made (belongs parts.Dates) core rest core_made stops,
    behind_made
        (belongs parts.Dates) core rest core_made stops,
    dates_read,
    cut,
  ) refl

colon_cut : (core rest : List Token) → Heads is_content core → without_colon core (Colon ∷ rest) ≡ rest
colon_cut [] rest h = absurd h
colon_cut (t ∷ ts) rest h = refl

plain_cut : (core rest : List Token) → Heads is_content core → Starts follows_dates rest → without_colon core rest ≡ rest
plain_cut [] rest h s = absurd h
plain_cut (t ∷ ts) rest h s = unless_colon t ts rest s

undated : (rest : List Token) → Stops (belongs parts.Dates) rest → read_dated rest ≡ read_after [] rest
unfolding read_dated read_dates
undated rest stops = rw (front_made (belongs parts.Dates) [] rest tt stops, behind_made (belongs parts.Dates) [] rest tt stops) refl

dated_again : {a : List Token} {ds : List DateSpan} (rest : List Token) → IsDates a ds → Starts follows_dates rest
    → read_dated (a ++ rest) ≡ read_after ds rest
dated_again rest grammar.none s = undated rest (Stops-starts follows_dates (belongs parts.Dates) not_dates rest s)
dated_again rest (grammar.plain {ts = ts} {ds = ds} h) s =
    dated_core ts ds h rest rest (Stops-starts follows_dates (belongs parts.Dates) not_dates rest s)
    (plain_cut ts rest (joined_heads is_content IsDate Comma date_heads h) s)
dated_again rest (grammar.colon {ts = ts} {ds = ds} h) s =
    ap read_dated (append_assoc ts (Colon ∷ []) rest)
    ∙ dated_core ts ds h (Colon ∷ rest) rest refl (colon_cut ts rest (joined_heads is_content IsDate Comma date_heads h))

-- days, and what stands behind them
not_days : (t : Token) → follows_days t ≡ true → belongs parts.Days t ≡ false
not_days (Day m) e = absurd cc
not_days Public e = absurd cc
not_days School e = absurd cc
not_days LeftBracket e = absurd cc
not_days (Number m i) e = absurd cc
not_days RightBracket e = absurd cc
not_days Dash e = absurd cc
not_days Comma e = absurd cc
not_days t e = refl

days_made : (ts : List Token) (is : List DayItem) → IsDays ts is → Made (belongs parts.Days) ts
days_made ts is grammar.none = tt
days_made ts is (grammar.some h) =
    joined_made (belongs parts.Days) IsItem Comma refl (item_made (belongs parts.Days) refl (λ _. refl) refl refl refl (λ _ _. refl) refl) h

spans_made : (ts : List Token) (ss : List TimeSpan) → IsSpans ts ss → Made (belongs parts.Spans) ts
spans_made ts is grammar.none = tt
spans_made ts is (grammar.some h) = joined_made (belongs parts.Spans) IsSpan Comma refl (span_made (belongs parts.Spans) refl (λ _ _. refl)) h

time_or_open : Token → Bool
time_or_open (Time h m) = true
time_or_open Open = true
time_or_open t = false

not_off : (ts : List Token) → Starts time_or_open ts → is_off ts ≡ false
unfolding time_or_open
not_off [] h = refl
not_off (Off ∷ []) h = absurd cc
not_off ts h = refl

opens_start : {os : List Token} → IsOpens os → Starts time_or_open os
unfolding time_or_open
opens_start grammar.none = tt
opens_start grammar.word = refl

opens_stop : {os : List Token} → IsOpens os → Stops (belongs parts.Spans) os
opens_stop grammar.none = tt
opens_stop grammar.word = refl

time_weaker : (ts : List Token) → Heads is_time_token ts → Starts time_or_open ts
unfolding time_or_open
time_weaker [] h = absurd h
time_weaker (Time a b ∷ ts) h = refl
time_weaker (t ∷ ts) h = absurd cc

spans_start : {ts : List Token} {ss : List TimeSpan} → IsSpans ts ss → Starts time_or_open ts
spans_start grammar.none = tt
spans_start (grammar.some {ts = ts} h) = time_weaker ts (joined_heads is_time_token IsSpan Comma span_heads h)

-- what a time and `open` are, tokens that begin with one of them begin with
times_follow : (p : Token → Bool) → ((a b : ℕ) → p (Time a b) ≡ true) → p Open ≡ true → (ts : List Token) → Starts time_or_open ts → Starts p ts
unfolding time_or_open
times_follow p time word [] h = tt
times_follow p time word (Time a b ∷ ts) h = time a b
times_follow p time word (Open ∷ ts) h = word
times_follow p time word (t ∷ ts) h = absurd cc

open_follows : (ts : List Token) → Starts time_or_open ts → Starts follows_days ts
open_follows = times_follow follows_days (λ a b. refl) refl

spans_then_open : {c os : List Token} {ss : List TimeSpan} → IsSpans c ss → IsOpens os → Starts time_or_open (c ++ os)
spans_then_open {c = c} {os = os} s o = Starts-append time_or_open c os (spans_start s) (opens_start o)

spans_read : {c os : List Token} {ss : List TimeSpan} → IsSpans c ss → IsOpens os → read_times (c ++ os) ≡ Some (times.Spans ss)
unfolding read_times
spans_read {c = c} {os = os} {ss = ss} s o =
    let made = spans_made c ss s in
    rw (
      not_off (c ++ os) (spans_then_open s o),
      front_made (belongs parts.Spans) c os made (opens_stop o),
      behind_made
          (belongs parts.Spans) c os made (opens_stop o),
      opens_again o,
      times_again s,
    ) refl

off_read : read_times (Off ∷ []) ≡ Some times.Off
unfolding read_times
off_read = refl

-- no long span begins so
no_long : {b : List Token} {is : List DayItem} → IsDays b is → (rest : List Token)
    → ((a : Weekday) → is_long (Day a ∷ rest) ≡ false) → is_long rest ≡ false → is_long (b ++ rest) ≡ false
no_long grammar.none rest one none = none
no_long (grammar.some (grammar.one (grammar.weekday {a = a}))) rest one none = one a
no_long (grammar.some (grammar.one grammar.weekdays)) rest one none = refl
no_long (grammar.some (grammar.one grammar.public)) rest one none = refl
no_long (grammar.some (grammar.one grammar.school)) rest one none = refl
no_long (grammar.some (grammar.one (grammar.nth _))) rest one none = refl
no_long (grammar.some (grammar.one (grammar.nth_last _))) rest one none = refl
no_long (grammar.some (grammar.more grammar.weekday hs)) rest one none = refl
no_long (grammar.some (grammar.more grammar.weekdays hs)) rest one none = refl
no_long (grammar.some (grammar.more grammar.public hs)) rest one none = refl
no_long (grammar.some (grammar.more grammar.school hs)) rest one none = refl
no_long (grammar.some (grammar.more (grammar.nth _) hs)) rest one none = refl
no_long (grammar.some (grammar.more (grammar.nth_last _) hs)) rest one none = refl

spans_no_long : {c os : List Token} {ss : List TimeSpan} → IsSpans c ss → IsOpens os → (a : Weekday) → is_long (Day a ∷ (c ++ os)) ≡ false
spans_no_long grammar.none grammar.none a = refl
spans_no_long grammar.none grammar.word a = refl
spans_no_long (grammar.some (grammar.one (grammar.span _ _))) o a = refl
spans_no_long (grammar.some (grammar.more (grammar.span _ _) hs)) o a = refl

spans_not_long : {c os : List Token} {ss : List TimeSpan} → IsSpans c ss → IsOpens os → is_long (c ++ os) ≡ false
spans_not_long grammar.none grammar.none = refl
spans_not_long grammar.none grammar.word = refl
spans_not_long (grammar.some (grammar.one (grammar.span _ _))) o = refl
spans_not_long (grammar.some (grammar.more (grammar.span _ _) hs)) o = refl

after_again : {b : List Token} {is : List DayItem} (ds : List DateSpan) (rest : List Token) (t : RuleTimes) → IsDays b is
    → Starts follows_days rest → is_long (b ++ rest) ≡ false → read_times rest ≡ Some t → read_after ds (b ++ rest) ≡ Some (hours_rule_of ds is t)
unfolding read_after
after_again {b = b} {is = is} ds rest t d follows short times =
    let stops = Stops-starts follows_days (belongs parts.Days) not_days rest follows in
    rw (
      short,
      front_made (belongs parts.Days) b rest (days_made b is d) stops,
      behind_made (belongs parts.Days) b rest
          (days_made b is d) stops,
      days_again d,
      times,
    ) refl

long_is_long : {b : List Token} {l : LongSpan} (os : List Token) → IsLong b l → is_long (b ++ os) ≡ true
long_is_long os (grammar.long _ _) = refl

long_after : {b os : List Token} {l : LongSpan} (ds : List DateSpan) → IsLong b l → IsOpens os
    → read_after ds (b ++ os) ≡ Some (hours_rule_of ds [] (times.Long l))
unfolding read_after
long_after {b = b} {os = os} {l = l} ds h o =
    let e : is_long (b ++ os) ≡ true = long_is_long os h in
    rw (e, long_again h o) refl

-- the tokens of a rule
dates_content : (ts : List Token) (ds : List DateSpan) → IsDates ts ds → Made is_content ts
dates_content ts ds grammar.none = tt
dates_content ts ds (grammar.plain h) = joined_made is_content IsDate Comma refl (date_made is_content refl (λ _. refl) (λ _ _. refl)) h
dates_content ts ds (grammar.colon {ts = us} h) =
    Made-append is_content us (Colon ∷ []) (joined_made is_content IsDate Comma refl (date_made is_content refl (λ _. refl) (λ _ _. refl)) h) (refl, tt)

days_content : (ts : List Token) (is : List DayItem) → IsDays ts is → Made is_content ts
days_content ts is grammar.none = tt
days_content ts is (grammar.some h) = joined_made is_content IsItem Comma refl (item_made is_content refl (λ _. refl) refl refl refl (λ _ _. refl) refl) h

spans_content : (ts : List Token) (ss : List TimeSpan) → IsSpans ts ss → Made is_content ts
spans_content ts is grammar.none = tt
spans_content ts is (grammar.some h) = joined_made is_content IsSpan Comma refl (span_made is_content refl (λ _ _. refl)) h

long_content : (ts : List Token) (l : LongSpan) → IsLong ts l → Made is_content ts
long_content = long_made is_content refl (λ _. refl) (λ _ _. refl)

-- a rule that begins with content is read as one with dates
content_read : (xs rest : List Token) → Made is_content xs → xs ≢ [] → read_rule (xs ++ rest) ≡ read_dated (xs ++ rest)
unfolding read_rule
content_read [] rest h some = absurd (some refl)
content_read (Always ∷ xs) rest h some = absurd (let f = h.0 in cc)
content_read (Open ∷ xs) rest h some = absurd (let f = h.0 in cc)
content_read (x ∷ xs) rest h some = refl

off_rule : (xs : List Token) → Made is_content xs → read_rule (xs ++ Off ∷ []) ≡ read_dated (xs ++ Off ∷ [])
unfolding read_rule
off_rule [] h = refl
off_rule (Always ∷ xs) h = absurd (let f = h.0 in cc)
off_rule (Open ∷ xs) h = absurd (let f = h.0 in cc)
off_rule (x ∷ xs) h = refl

some_append : (xs ys : List Token) → ys ≢ [] → xs ++ ys ≢ []
some_append [] ys h e = h e
some_append (x ∷ xs) ys h e = absurd cc

long_some : {b : List Token} {l : LongSpan} → IsLong b l → b ≢ []
long_some (grammar.long _ _) e = absurd cc

days_follow : (ts : List Token) → Heads is_day_token ts → Starts follows_dates ts
days_follow [] h = absurd h
days_follow (Day a ∷ ts) h = refl
days_follow (Public ∷ ts) h = refl
days_follow (School ∷ ts) h = refl
days_follow (t ∷ ts) h = absurd cc

days_start : {b : List Token} {is : List DayItem} → IsDays b is → Starts follows_dates b
days_start grammar.none = tt
days_start (grammar.some {ts = ts} h) = days_follow ts (joined_heads is_day_token IsItem Comma item_heads h)

open_follows_dates : (ts : List Token) → Starts time_or_open ts → Starts follows_dates ts
open_follows_dates = times_follow follows_dates (λ a b. refl) refl

long_start : {b : List Token} {l : LongSpan} (os : List Token) → IsLong b l → Starts follows_dates (b ++ os)
long_start os (grammar.long _ _) = refl

always : (os : List Token) → IsOpens os → read_rule (Always ∷ os) ≡ Some (hours_rule_of [] [] (times.Spans whole_day))
unfolding read_rule
always os o = rw (opens_again o) refl

pub rule_again : (ts : List Token) (r : HoursRule) → IsRule ts r → read_rule ts ≡ Some r
rule_again ts r (grammar.always {os = os} o) = always os o
rule_again ts r (grammar.spans {a = a} {b = b} {c = c} {os = os} {dates = ds} {days = is} {spans = ss} d i s o some) =
    let whole : a ++ (b ++ (c ++ os)) ≡ (a ++ (b ++ c)) ++ os = ap (λ (us : List Token). a ++ us) (sym (append_assoc b c os))
    ∙ sym (append_assoc a (b ++ c) os) in
    let content = Made-append is_content a (b ++ c) (dates_content a ds d)
    (Made-append is_content b c (days_content b is i) (spans_content c ss s)) in
    let start = spans_then_open s o in
    ap read_rule whole ∙ content_read (a ++ (b ++ c)) os content some ∙ ap read_dated (sym whole)
    ∙ dated_again (b ++ (c ++ os)) d (Starts-append follows_dates b (c ++ os) (days_start i) (open_follows_dates (c ++ os) start))
    ∙ after_again ds (c ++ os) (times.Spans ss) i (open_follows (c ++ os) start)
    (no_long i (c ++ os) (spans_no_long s o) (spans_not_long s o)) (spans_read s o)
rule_again ts r (grammar.off {a = a} {b = b} {dates = ds} {days = is} d i) =
    let whole : a ++ (b ++ Off ∷ []) ≡ (a ++ b) ++ Off ∷ [] = sym (append_assoc a b (Off ∷ [])) in
    let content = Made-append is_content a b (dates_content a ds d) (days_content b is i) in
    ap read_rule whole ∙ off_rule (a ++ b) content ∙ ap read_dated (sym whole)
    ∙ dated_again (b ++ Off ∷ []) d (Starts-append follows_dates b (Off ∷ []) (days_start i) refl)
    ∙ after_again ds (Off ∷ []) times.Off i refl (no_long i (Off ∷ []) (λ _. refl) refl) off_read
rule_again ts r (grammar.long {a = a} {b = b} {os = os} {dates = ds} {l = l} d h o) =
    let whole : a ++ (b ++ os) ≡ (a ++ b) ++ os = sym (append_assoc a b os) in
    let content = Made-append is_content a b (dates_content a ds d) (long_content b l h) in
    ap read_rule whole ∙ content_read (a ++ b) os content (some_append a b (long_some h)) ∙ ap read_dated (sym whole)
    ∙ dated_again (b ++ os) d (long_start os h)
    ∙ long_after ds h o

-- the other way
if_some : {A : Type 0} (b : Bool) (x : Option A) (y : A) → cond b None x ≡ Some y → (b ≡ false) × (x ≡ Some y)
if_some true x y e = absurd cc
if_some false x y e = (refl, e)

off_is : (ts : List Token) → is_off ts ≡ true → ts ≡ Off ∷ []
off_is (Off ∷ []) e = refl
off_is ts e = absurd cc

-- the tokens behind days
data Times : List Token → RuleTimes → Type 0 where
  off : Times (Off ∷ []) times.Off
  spans : {c os : List Token} {ss : List TimeSpan} → IsSpans c ss → IsOpens os → Times (c ++ os) (times.Spans ss)

times_found : (ts : List Token) (t : RuleTimes) → read_times ts ≡ Some t → Times ts t
unfolding read_times
times_found ts t e =
    let p = belongs parts.Spans in
    let by_opens : (b : Bool) → is_opens (behind p ts) ≡ b
    → cond b (option_map (λ ss. times.Spans ss) (read_spans (take_while p ts))) None ≡ Some t → Times ts t =
    λ b. elim b as (λ v. is_opens (behind p ts) ≡ v
    → cond v (option_map (λ ss. times.Spans ss) (read_spans (take_while p ts))) None ≡ Some t → Times ts t) [
      | true ↦ λ o f.
          let m = map_some (read_spans (take_while p ts)) (λ ss. times.Spans ss) t f in
          let found : Times (take_while p ts ++ behind p ts) (times.Spans m.0) =
          spans (spans_found (take_while p ts) m.0 m.1) (opens_found (behind p ts) o) in
          subst (λ (us : List Token). Times us t) (front_behind p ts) (subst (Times (take_while p ts ++ behind p ts)) m.2 found)
      | false ↦ λ o f. absurd cc
    ] in
    let by_off : (b : Bool) → is_off ts ≡ b → cond b (Some times.Off)
    (cond (is_opens (behind p ts)) (option_map (λ ss. times.Spans ss) (read_spans (take_while p ts))) None) ≡ Some t → Times ts t =
    λ b. elim b as (λ v. is_off ts ≡ v → cond v (Some times.Off)
    (cond (is_opens (behind p ts)) (option_map (λ ss. times.Spans ss) (read_spans (take_while p ts))) None) ≡ Some t → Times ts t) [
      | true ↦ λ o f. let g : times.Off ≡ t = cc in subst (λ (us : List Token). Times us t) (sym (off_is ts o)) (subst (Times (Off ∷ [])) g off)
      | false ↦ λ o f. by_opens (is_opens (behind p ts)) refl f
    ] in
    by_off (is_off ts) refl e

-- the tokens behind dates
data After (ds : List DateSpan) : List Token → HoursRule → Type 0 where
  long : {b os : List Token} {l : LongSpan} → IsLong b l → IsOpens os → After ds (b ++ os) (hours_rule_of ds [] (times.Long l))
  off : {b : List Token} {is : List DayItem} → IsDays b is → After ds (b ++ Off ∷ []) (hours_rule_of ds is times.Off)
  spans : {b c os : List Token} {is : List DayItem} {ss : List TimeSpan} → IsDays b is → IsSpans c ss → IsOpens os
      → After ds (b ++ (c ++ os)) (hours_rule_of ds is (times.Spans ss))

after_times : (ds : List DateSpan) (b rest : List Token) (is : List DayItem) (t : RuleTimes) → IsDays b is → Times rest t
    → After ds (b ++ rest) (hours_rule_of ds is t)
after_times ds b rest is t d off = off d
after_times ds b rest is t d (spans s o) = spans d s o

after_found : (ds : List DateSpan) (ts : List Token) (r : HoursRule) → read_after ds ts ≡ Some r → After ds ts r
unfolding read_after
after_found ds ts r e =
    let p = belongs parts.Days in
    let plain = option_and_then (λ is. option_map (λ t. hours_rule_of ds is t) (read_times (behind p ts))) (read_days (take_while p ts)) in
    let by : (b : Bool) → cond b (option_map (λ l. hours_rule_of ds [] (times.Long l)) (read_long ts)) plain ≡ Some r → After ds ts r =
    λ b. elim b as (λ v. cond v (option_map (λ l. hours_rule_of ds [] (times.Long l)) (read_long ts)) plain ≡ Some r → After ds ts r) [
      | true ↦ λ f.
          let m = map_some (read_long ts) (λ l. hours_rule_of ds [] (times.Long l)) r f in
          let h = long_found ts m.0 m.1 in
          let found : After ds (h.span ++ h.opens) (hours_rule_of ds [] (times.Long m.0)) = long h.is_long h.is_opens in
          subst (λ (us : List Token). After ds us r) (sym h.parts) (subst (After ds (h.span ++ h.opens)) m.2 found)
      | false ↦ λ f.
          let a = then_some (read_days (take_while p ts)) (λ is. option_map (λ t. hours_rule_of ds is t) (read_times (behind p ts))) r f in
          let m = map_some (read_times (behind p ts)) (λ t. hours_rule_of ds a.0 t) r a.2 in
          let found = after_times ds (take_while p ts) (behind p ts) a.0 m.0 (days_found (take_while p ts) a.0 a.1)
          (times_found (behind p ts) m.0 m.1) in
          subst (λ (us : List Token). After ds us r) (front_behind p ts) (subst (After ds (take_while p ts ++ behind p ts)) m.2 found)
    ] in
    by (is_long ts) e

rule_made : (a rest : List Token) (ds : List DateSpan) (r : HoursRule) → IsDates a ds → After ds rest r
    → is_opens (a ++ rest) ≡ false → IsRule (a ++ rest) r
rule_made a rest ds r d (long h o) content = grammar.long d h o
rule_made a rest ds r d (off i) content = grammar.off d i
rule_made a rest ds r d (spans {b = b} {c = c} {os = os} i s o) content =
    let whole : a ++ (b ++ (c ++ os)) ≡ (a ++ (b ++ c)) ++ os = ap (λ (us : List Token). a ++ us) (sym (append_assoc b c os))
    ∙ sym (append_assoc a (b ++ c) os) in
    let some : a ++ (b ++ c) ≢ [] = λ nil.
    let same : is_opens (a ++ (b ++ (c ++ os))) ≡ is_opens os = ap is_opens (whole ∙ ap (λ (us : List Token). us ++ os) nil) in
    let yes_ : is_opens os ≡ true = opens_again o in
    cc in
    grammar.spans d i s o some

-- the dates before what stands behind them
cut_back : (core back : List Token) (ds : List DateSpan) → Joined IsDate Comma core ds → (a : List Token) × IsDates a ds
    × (core ++ back ≡ a ++ without_colon core back)
cut_back core back ds h = cut core back (joined_heads is_content IsDate Comma date_heads h) h
  where
    cut : (core back : List Token) → Heads is_content core → Joined IsDate Comma core ds → (a : List Token) × IsDates a ds
        × (core ++ back ≡ a ++ without_colon core back)
    cut [] back some h = absurd some
    cut (t ∷ ts) [] some h = (t ∷ ts, grammar.plain h, refl)
    cut (t ∷ ts) (Colon ∷ back) some h = ((t ∷ ts) ++ Colon ∷ [], grammar.colon h, sym (append_assoc (t ∷ ts) (Colon ∷ []) back))
    cut (t ∷ ts) (b ∷ back) some h = (t ∷ ts, grammar.plain h, refl)

dated_found : (ts : List Token) (r : HoursRule) → is_opens ts ≡ false → read_dated ts ≡ Some r → IsRule ts r
unfolding read_dated
dated_found ts r content e =
    let p = belongs parts.Dates in
    let core = take_while p ts in
    let back = behind p ts in
    let a = then_some (read_dates core) (λ ds. read_after ds (without_colon core back)) r e in
    let after = after_found a.0 (without_colon core back) r a.2 in
    let whole : core ++ back ≡ ts = front_behind p ts in
    elim (dates_found core a.0 a.1) [
      | inl none ↦
          let bare : without_colon core back ≡ back = ap (λ (us : List Token). without_colon us back) none.0 in
          let all : without_colon core back ≡ ts = bare ∙ ap (λ (us : List Token). us ++ back) (sym none.0) ∙ whole in
          let empty : IsDates [] a.0 = subst (IsDates []) (sym none.1) grammar.none in
          subst (λ (us : List Token). IsRule us r) all (rule_made [] (without_colon core back) a.0 r empty after (ap is_opens all ∙ content))
      | inr some ↦
          let c = cut_back core back a.0 some in
          let all : c.0 ++ without_colon core back ≡ ts = sym c.2 ∙ whole in
          subst (λ (us : List Token). IsRule us r) all (rule_made c.0 (without_colon core back) a.0 r c.1 after (ap is_opens all ∙ content))
    ]

always_found : (os : List Token) (r : HoursRule)
    → cond (is_opens os) (Some (hours_rule_of [] [] (times.Spans whole_day))) None ≡ Some r → IsRule (Always ∷ os) r
always_found os r e =
    let f = cond_some (is_opens os) (hours_rule_of [] [] (times.Spans whole_day)) r e in
    subst (IsRule (Always ∷ os)) f.1 (grammar.always (opens_found os f.0))

unless_opens : (ts : List Token) (r : HoursRule) → cond (is_opens ts) None (read_dated ts) ≡ Some r → IsRule ts r
unless_opens ts r e = let f = if_some (is_opens ts) (read_dated ts) r e in dated_found ts r f.0 f.1

pub rule_found : (ts : List Token) (r : HoursRule) → read_rule ts ≡ Some r → IsRule ts r
unfolding read_rule
rule_found (Always ∷ os) r e = always_found os r e
rule_found ts r e = unless_opens ts r e

-- no semicolon stands in a rule
in_rule : (t : Token) → is_content t ≡ true → belongs parts.Rule t ≡ true
in_rule Semicolon e = absurd cc
in_rule t e = refl

opens_in_rule : {os : List Token} → IsOpens os → Made (belongs parts.Rule) os
opens_in_rule grammar.none = tt
opens_in_rule grammar.word = (refl, tt)

rule_tokens : (ts : List Token) (r : HoursRule) → IsRule ts r → Made (belongs parts.Rule) ts
rule_tokens ts r (grammar.always o) = (refl, opens_in_rule o)
rule_tokens ts r (grammar.spans {a = a} {b = b} {c = c} {os = os} {dates = ds} {days = is} {spans = ss} d i s o some) =
    let p = belongs parts.Rule in let w = Made-weaker is_content p in_rule in
    Made-append p a (b ++ (c ++ os)) (w a (dates_content a ds d))
    (Made-append p b (c ++ os) (w b (days_content b is i)) (Made-append p c os (w c (spans_content c ss s)) (opens_in_rule o)))
rule_tokens ts r (grammar.off {a = a} {b = b} {dates = ds} {days = is} d i) =
    let p = belongs parts.Rule in let w = Made-weaker is_content p in_rule in
    Made-append p a (b ++ Off ∷ []) (w a (dates_content a ds d)) (Made-append p b (Off ∷ []) (w b (days_content b is i)) (refl, tt))
rule_tokens ts r (grammar.long {a = a} {b = b} {os = os} {dates = ds} {l = l} d h o) =
    let p = belongs parts.Rule in let w = Made-weaker is_content p in_rule in
    Made-append p a (b ++ os) (w a (dates_content a ds d)) (Made-append p b os (w b (long_content b l h)) (opens_in_rule o))

-- Reading a list of tokens gives exactly the rules that the grammar relates to it.
pub rules_again : (ts : List Token) (rs : List HoursRule) → IsRules ts rs → read_rules ts ≡ Some rs
unfolding read_rules
rules_again ts rs h = list_again IsRule read_rule parts.Rule Semicolon refl rule_tokens rule_again h

pub rules_found : (ts : List Token) (rs : List HoursRule) → read_rules ts ≡ Some rs → IsRules ts rs
unfolding read_rules
rules_found ts rs e = list_found IsRule read_rule parts.Rule Semicolon semicolon_ends rule_found ts rs e
