-- Places of keys, one key after another, and items at places.
use Rattle.std.proofs.Common.{◌≡◌, ℕ, zero, suc, ◌+◌, ◌<◌, Bool, true, Option, Some, None, unwrap_or, List, [], ◌∷◌, ◌++◌, take, slice_get, append_assoc}
use Rattle.std.proofs.Common.{sym, ◌∙◌, ap, refl, arith}
use Rattle.std.specs.List.{list_any}
use Rattle.std.specs.Option.{option_or, option_map}
use Rattle.std.proofs.lemmas.Bool.{or_left, or_right}
use Rattle.std.proofs.lemmas.List.{take_more}
use Rattle.std.proofs.lemmas.Option.{get_or_from_slice_get, slice_get_within}
use Rattle.zone_rules.specs.declared.rows.ZoneRow.{ZoneRow}
use Rattle.opening_hours.specs.Holidays.{HolidayLists}
use Rattle.vehicle_classes.specs.declared.classes.Key.{Key}
use Rattle.conditional_rules.specs.Decisions.{last_given}
use Rattle.conditional_rules.proofs.LastGiven.{last_append}
use Rattle.network_tables.specs.Access.{area_at, places_of, places_of_key}
use Rattle.network_tables.specs.NetworkModel.{Area, NetworkModel}
use Rattle.network_tables.specs.declared.rules.place.RulePlace.{RulePlace}

-- the items before the next place are one more
pub take_next : {A : Type 0} (xs : List A) (k : ℕ) (x : A) → slice_get xs k ≡ Some x → take (k + 1) xs ≡ take k xs ++ x ∷ []
take_next xs k x is =
    take_more xs k x (slice_get_within xs k x is) ∙ ap (λ y. take k xs ++ y ∷ []) (get_or_from_slice_get xs k x x is)

places_append : (area a : ℕ) (keys more : List Key) → places_of area a (keys ++ more) ≡ places_of area a keys ++ places_of area a more
places_append area a [] more = refl
places_append area a (key ∷ keys) more =
    ap (λ rest. places_of_key area a key ++ rest) (places_append area a keys more)
    ∙ sym (append_assoc (places_of_key area a key) (places_of area a keys) (places_of area a more))

-- the places of one key more
pub given_next : {A : Type 0} (f : RulePlace → Option A) (area a : ℕ) (keys : List Key) (k : ℕ) (key : Key) → slice_get keys k ≡ Some key
    → last_given f (places_of area a (take (k + 1) keys))
    ≡ option_or (last_given f (places_of_key area a key)) (last_given f (places_of area a (take k keys)))
given_next f area a keys k key is =
    ap (λ some. last_given f (places_of area a some)) (take_next keys k key is)
    ∙ ap (last_given f) (places_append area a (take k keys) (key ∷ []))
    ∙ last_append f (places_of area a (take k keys)) (places_of_key area a key)

-- what is there is what a default would stand in for
pub mapped_there : {A B : Type 0} (f : A → B) (o : Option A) (d : A) (y : B) → option_map f o ≡ Some y → f (unwrap_or o d) ≡ y
mapped_there f None d y is = absurd (cc)
mapped_there f (Some x) d y is = cc

pub any_found : {A : Type 0} (p : A → Bool) (xs : List A) (k : ℕ) (x : A) → slice_get xs k ≡ Some x → p x ≡ true → list_any p xs ≡ true
any_found p [] k x is passes = absurd (cc)
any_found p (y ∷ ys) zero x is passes =
    let same : y ≡ x = cc in
    or_left (p y) (list_any p ys) (ap p same ∙ passes)
any_found p (y ∷ ys) (suc k) x is passes = or_right (p y) (list_any p ys) (any_found p ys k x is passes)

-- an option has one value
pub some_same : {A : Type 0} (o : Option A) (x y : A) → o ≡ Some x → o ≡ Some y → x ≡ y
some_same o x y a b = cc

-- an item before the n-th is among the first n
pub taken : {A : Type 0} (xs : List A) (k n : ℕ) (x : A) → k < n → slice_get xs k ≡ Some x → slice_get (take n xs) k ≡ Some x
taken [] k n x less there = absurd (cc)
taken (y ∷ ys) zero (suc n) x less there = there
taken (y ∷ ys) zero zero x less there = absurd (omega (arith, less))
taken (y ∷ ys) (suc k) zero x less there = absurd (omega (arith, less))
taken (y ∷ ys) (suc k) (suc n) x less there = taken ys k n x (omega (arith, less)) there

-- past the last item nothing is left out
pub take_none : {A : Type 0} (xs : List A) (k : ℕ) → slice_get xs k ≡ None → take k xs ≡ xs
take_none [] zero none = refl
take_none [] (suc k) none = refl
take_none (x ∷ xs) zero none = absurd (cc)
take_none (x ∷ xs) (suc k) none = ap (λ ys. x ∷ ys) (take_none xs k none)

abbrev no_area : Area
no_area = record { zone = []; holidays = record { public = []; school = [] } }

-- the zone and the holidays of an area that is there
pub zone_there : (network : NetworkModel) (area : ℕ) (zone : List ZoneRow)
    → option_map (λ (a : Area). a.zone) (slice_get network.areas area) ≡ Some zone → (area_at network area).zone ≡ zone
zone_there network area zone is = mapped_there (λ (a : Area). a.zone) (slice_get network.areas area) no_area zone is

pub holidays_there : (network : NetworkModel) (area : ℕ) (holidays : HolidayLists)
    → option_map (λ (a : Area). a.holidays) (slice_get network.areas area) ≡ Some holidays → (area_at network area).holidays ≡ holidays
holidays_there network area holidays is = mapped_there (λ (a : Area). a.holidays) (slice_get network.areas area) no_area holidays is
