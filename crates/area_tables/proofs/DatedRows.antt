-- The days of areas after one row more.
use Rattle.std.proofs.Common.{◌≡◌, ℕ, zero, suc, Bool, true, false, cond, Option, Some, None, List, [], ◌∷◌, ◌++◌, length, map, replicate, get_or}
use Rattle.std.proofs.Common.{refl, sym, ◌∙◌, ap, subst, ⊎_elim, arith}
use Rattle.std.proofs.Math.ListN.{set}
use Rattle.std.specs.Prelude.{◌&&◌}
use Rattle.std.specs.List.{IsDistinct, AllByRecursion, filter}
use Rattle.std.specs.Option.{option_map}
use Rattle.std.specs.Str.{bytes_eq}
use Rattle.std.proofs.lemmas.Bool.{cases_Bool}
use Rattle.std.proofs.lemmas.List.{map-append, append-nil}
use Rattle.std.proofs.lemmas.List.Elements.{filter-append}
use Rattle.std.proofs.lemmas.Map.Keys.{IsDistinct-head, IsDistinct-tail}
use Rattle.std.proofs.lemmas.Slice.Eq.{bytes_eq-Decides}
use Rattle.opening_hours.specs.Holidays.{HolidayLists}
use Rattle.area_tables.specs.declared.holidays.row.HolidayKind.{HolidayKind}
use Rattle.area_tables.specs.declared.holidays.row.HolidayKind.TheVariants.{Public, School}
use Rattle.area_tables.specs.Inside.{HolidayDays, HaveDays}
use Rattle.area_tables.specs.Holidays.{HolidayEntry, is_kind, days_named, rows_named}
use Rattle.table_reader.specs.NameIndex.{names_of, place_among}
use Rattle.table_reader.proofs.Lists.{position-cons}

-- a write at the place of a name, where a function of names changes at this name alone
module _ {X : Type 0} (f g : List ℕ → X) (name : List ℕ) (new d : X) (others : (n : List ℕ) → bytes_eq name n ≡ false → g n ≡ f n) where
  same_elsewhere : (ns : List (List ℕ)) → AllByRecursion (λ n. bytes_eq name n ≡ false) ns → map f ns ≡ map g ns
  same_elsewhere [] apart = refl
  same_elsewhere (n ∷ ns) apart =
      let head : f n ≡ g n = sym (others n apart.0) in
      let tail : map f ns ≡ map g ns = same_elsewhere ns apart.1 in
      cc

  -- at the first name
  written_here : (n : List ℕ) (ns : List (List ℕ)) → IsDistinct bytes_eq (n ∷ ns) → bytes_eq name n ≡ true → new ≡ g n
      → set (map f (n ∷ ns)) 0 new ≡ map g (n ∷ ns)
  written_here n ns distinct same is =
      let e : name ≡ n = (bytes_eq-Decides name n).0 same in
      let tail : map f ns ≡ map g ns = same_elsewhere ns
      (subst (λ (k : List ℕ). AllByRecursion (λ m. bytes_eq k m ≡ false) ns) (sym e) (IsDistinct-head bytes_eq n ns distinct)) in
      cc

  nowhere : (i : ℕ) → None ≡ Some i → ⊥
  nowhere i e = cc

  -- behind the first name
  written_behind : (n : List ℕ) (ns : List (List ℕ)) (i : ℕ) (o : Option ℕ) → bytes_eq name n ≡ false → option_map suc o ≡ Some i
      → ((j : ℕ) → o ≡ Some j → i ≡ suc j → set (map f ns) j new ≡ map g ns)
      → set (map f (n ∷ ns)) i new ≡ map g (n ∷ ns)
  written_behind n ns i None other e more = absurd (nowhere i e)
  written_behind n ns i (Some j) other e more =
      let next : i ≡ suc j = cc in
      let tail : set (map f ns) j new ≡ map g ns = more j refl next in
      let head : f n ≡ g n = sym (others n other) in
      ap (λ (k : ℕ). set (map f (n ∷ ns)) k new) next ∙ ap (λ (x : X). x ∷ set (map f ns) j new) head ∙ ap (λ (xs : List X). g n ∷ xs) tail

  pub name_written : (ns : List (List ℕ)) (i : ℕ) → IsDistinct bytes_eq ns → place_among ns name ≡ Some i
      → ((n : List ℕ) → bytes_eq name n ≡ true → get_or (map f ns) i d ≡ f n → new ≡ g n)
      → set (map f ns) i new ≡ map g ns
  name_written [] i distinct place here = absurd (nowhere i place)
  name_written (n ∷ ns) i distinct place here =
      let more : (j : ℕ) → place_among ns name ≡ Some j → i ≡ suc j → set (map f ns) j new ≡ map g ns = λ j there next.
      name_written ns j (IsDistinct-tail bytes_eq n ns distinct) there (λ m same is. here m same (ap (λ (k : ℕ). get_or (map f (n ∷ ns)) k d) next ∙ is)) in
      let at : cond (bytes_eq name n) (Some 0) (option_map suc (place_among ns name)) ≡ Some i = sym (position-cons (bytes_eq name) n ns) ∙ place in
      ⊎_elim
      (λ (same : bytes_eq name n ≡ true). (let some : cond true (Some 0) (option_map suc (place_among ns name)) ≡ Some i = sym
      (ap (λ (b : Bool). cond b (Some 0) (option_map suc (place_among ns name))) same) ∙ at in
      let first : 0 ≡ i = cc in
      ap (λ (k : ℕ). set (map f (n ∷ ns)) k new) (sym first)
      ∙ written_here n ns distinct same (here n same (ap (λ (k : ℕ). get_or (map f (n ∷ ns)) k d) (sym first)))))
      (λ (other : bytes_eq name n ≡ false). written_behind n ns i (place_among ns name) other
      (sym (ap (λ (b : Bool). cond b (Some 0) (option_map suc (place_among ns name))) other) ∙ at) more)
      (cases_Bool (bytes_eq name n))

-- the days of an area with one row more
module _ (entries : List HolidayEntry) (h : HolidayEntry) (area : List ℕ) where
  one : (b : Bool) → map (λ (x : HolidayEntry). x.1.day) (cond b (h ∷ []) []) ≡ cond b (h.1.day ∷ []) []
  one true = refl
  one false = refl

  days_more : (kind : HolidayKind) (b : Bool) → bytes_eq h.0 area ≡ b
      → days_named (entries ++ h ∷ []) area kind ≡ days_named entries area kind ++ cond (b && is_kind kind h.1.kind) (h.1.day ∷ []) []
  days_more kind b is =
      let test = λ (x : HolidayEntry). bytes_eq x.0 area && is_kind kind x.1.kind in
      let day = λ (x : HolidayEntry). x.1.day in
      ap (λ (hs : List HolidayEntry). map day hs) (filter-append test entries (h ∷ []))
      ∙ map-append day (filter test entries) (filter test (h ∷ []))
      ∙ ap (λ (ys : List ℕ). days_named entries area kind ++ ys) (one (test h) ∙ ap (λ (t : Bool). cond (t && is_kind kind h.1.kind) (h.1.day ∷ []) []) is)

  pub rows_other : bytes_eq h.0 area ≡ false → rows_named (entries ++ h ∷ []) area ≡ rows_named entries area
  rows_other other =
      let public = days_more Public false other ∙ append-nil (days_named entries area Public) in
      let school = days_more School false other ∙ append-nil (days_named entries area School) in
      cc

  pub rows_more : (old new : HolidayLists) → bytes_eq h.0 area ≡ true → old ≡ rows_named entries area
      → new.public ≡ old.public ++ cond (is_kind Public h.1.kind) (h.1.day ∷ []) []
      → new.school ≡ old.school ++ cond (is_kind School h.1.kind) (h.1.day ∷ []) [] → new ≡ rows_named (entries ++ h ∷ []) area
  rows_more old new same was public school =
      let all = entries ++ h ∷ [] in
      let p : new.public ≡ days_named all area Public =
      public ∙ ap (λ (l : HolidayLists). l.public ++ cond (is_kind Public h.1.kind) (h.1.day ∷ []) []) was ∙ sym (days_more Public true same) in
      let s : new.school ≡ days_named all area School =
      school ∙ ap (λ (l : HolidayLists). l.school ++ cond (is_kind School h.1.kind) (h.1.day ∷ []) []) was ∙ sym (days_more School true same) in
      let at : List ℕ → List ℕ → HolidayLists = λ days free. record { public = days; school = free } in
      ap (λ (days : List ℕ). at days new.school) p ∙ ap (λ (free : List ℕ). at (days_named all area Public) free) s

-- the days of all areas with one row more
pub HaveDays-more : (start now : HolidayDays) (entries : List HolidayEntry) (h : HolidayEntry) (i : ℕ) (new d : HolidayLists)
    → HaveDays start now entries → IsDistinct bytes_eq (names_of now.areas) → place_among (names_of now.areas) h.0 ≡ Some i
    → new.public ≡ (get_or now.days i d).public ++ cond (is_kind Public h.1.kind) (h.1.day ∷ []) []
    → new.school ≡ (get_or now.days i d).school ++ cond (is_kind School h.1.kind) (h.1.day ∷ []) []
    → HaveDays start (record { areas = now.areas; days = set now.days i new }) (entries ++ h ∷ [])
HaveDays-more start now entries h i new d have distinct place public school = record {
  areas = have.areas;
  days =
      let names = names_of start.areas in
      let same : names_of now.areas ≡ names = ap (λ (areas : List (List ℕ × ℕ)). names_of areas) have.areas in
      ap (λ (days : List HolidayLists). set days i new) have.days
      ∙ name_written (rows_named entries) (rows_named (entries ++ h ∷ [])) h.0 new d (λ n other. rows_other entries h n other) names i
      (subst (λ (ns : List (List ℕ)). IsDistinct bytes_eq ns) same distinct)
      (subst (λ (ns : List (List ℕ)). place_among ns h.0 ≡ Some i) same place)
      (λ n named was. rows_more entries h n (get_or now.days i d) new named (ap (λ (days : List HolidayLists). get_or days i d) have.days ∙ was) public school);
}

-- no days before the first row
abbrev pub no_days : HolidayLists
no_days = record { public = []; school = [] }

pub none_named : (areas : List (List ℕ × ℕ)) (n : ℕ) → length areas ≡ n → replicate n no_days ≡ map (rows_named []) (names_of areas)
none_named [] zero e = refl
none_named [] (suc n) e = absurd (omega (arith, e))
none_named (a ∷ areas) zero e = absurd (omega (arith, e))
none_named (a ∷ areas) (suc n) e = ap (λ (xs : List HolidayLists). no_days ∷ xs) (none_named areas n (omega (arith, e)))
