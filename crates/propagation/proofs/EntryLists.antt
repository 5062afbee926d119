-- Lists of entry sets: room for more, and one more set in a list.
use Rattle.std.proofs.Common.{◌≡◌, ◌⊎◌, inl, inr, ⊎_elim, ℕ, ◌-◌, ◌≤◌, ◌<◌, Some, List, [], ◌∷◌, ◌++◌, length, get_or, set, refl, sym, ◌∙◌, ap}
use Rattle.std.proofs.Common.{take, drop, subst, arith, length-append, length-set, get_or-set_other, get_or-set_same}
use Rattle.std.specs.Prelude.{All, slice_get, unwrap_or, Vec}
use Rattle.std.specs.List.{insert}
use Rattle.std.specs.declared.alloc.Global.{Global}
use Rattle.std.proofs.lemmas.Bool.{cases_lt, cases_eq}
use Rattle.std.proofs.lemmas.List.{get_or_append_left, get_or-append_right}
use Rattle.std.proofs.lemmas.List.Elements.{All-append, All-cons, All-take, All-drop}
use Rattle.std.proofs.lemmas.Option.{slice_get_within, slice_get-get_or, get_or_from_slice_get}
use Rattle.route_base.specs.Net.{Net}
use Rattle.route_base.specs.declared.types.Run.{Run}
use Rattle.propagation.specs.Inside.EntrySets.{AreEntries, IsEntrySet, AreEntrySets, HasEntriesAt}
use Rattle.propagation.specs.declared.entry_sets.EntrySet.{EntrySet}
use Rattle.propagation.specs.declared.entry_sets.EntrySets.{EntrySets}

-- all items still have what they had where one that has it too is put in
pub all_inserted : {A : Type 0} (P : A → Type 0) (xs : List A) (i : ℕ) (x : A) → All P xs → P x → All P (insert xs i x)
all_inserted P xs i x all one = All-append P (take i xs) (x ∷ drop i xs) (All-take P i xs all) (All-cons P x (drop i xs) one (All-drop P i xs all))

-- an item of a list that is one longer is an item of the list or the last
pushed : {A : Type 0} (xs : List A) (y x : A) (i : ℕ) → slice_get (xs ++ y ∷ []) i ≡ Some x → (slice_get xs i ≡ Some x) ⊎ (y ≡ x)
pushed xs y x i is =
    let within = slice_get_within (xs ++ y ∷ []) i x is in
    let at = get_or_from_slice_get (xs ++ y ∷ []) i x x is in
    ⊎_elim
    (λ (before : i < length xs). inl (slice_get-get_or xs i x before ∙ ap (λ w. Some w) (sym (get_or_append_left xs (y ∷ []) x i before) ∙ at)))
    (λ (last : length xs ≤ i).
    let e : i ≡ length xs = omega (arith, last, within, length-append xs (y ∷ [])) in
    inr (sym (get_or-append_right xs (y ∷ []) (length xs) i x refl last ∙ (let f : i - length xs ≡ 0 = omega (arith, e) in ap (λ n. get_or (y ∷ []) n x) f))
    ∙ at))
    (cases_lt i (length xs))

-- an empty list more
pub room_more : (net : Net) (until : ℕ) (old new : EntrySets) (list : Vec EntrySet Global) → list.items ≡ [] → new.lists.items ≡ old.lists.items ++ list ∷ []
    → AreEntrySets net until old → AreEntrySets net until new
room_more net until old new list none more was = record {
  each = λ i own is. ⊎_elim
      (λ (before : slice_get old.lists.items i ≡ Some own). was.each i own before)
      (λ (last : list ≡ own).
      let empty : own.items ≡ [] = ap (λ (w : Vec EntrySet Global). w.items) (sym last) ∙ none in
      λ k d within. absurd (omega (arith, within, ap (λ (w : List EntrySet). length w) empty)))
      (pushed old.lists.items list own i (sym (ap (λ (w : List (Vec EntrySet Global)). slice_get w i) more) ∙ is));
}

-- the sets of one list are those that avoid its closed runs
pub sets_at : (net : Net) (until : ℕ) (sets : EntrySets) (i : ℕ) (closed : List Run) (own : Vec EntrySet Global) → AreEntrySets net until sets
    → unwrap_or (slice_get net.closed i) [] ≡ closed
    → i < length sets.lists.items → own ≡ get_or sets.lists.items i own → All (IsEntrySet closed until) own.items
sets_at net until sets i closed own are is within at =
    subst (λ runs. All (IsEntrySet runs until) own.items) is (are.each i own (slice_get-get_or sets.lists.items i own within ∙ ap (λ w. Some w) (sym at)))

-- a write to one list
pub sets_kept : (net : Net) (until : ℕ) (old new : EntrySets) (i : ℕ) (closed : List Run) (own : Vec EntrySet Global) → AreEntrySets net until old
    → unwrap_or (slice_get net.closed i) [] ≡ closed
    → i < length old.lists.items → new.lists.items ≡ set old.lists.items i own → All (IsEntrySet closed until) own.items → AreEntrySets net until new
sets_kept net until old new i closed own are is within wrote made = record {
  each = λ j list there. ⊎_elim
      (λ (here : j ≡ i).
      let at : Some list ≡ Some own = sym there
      ∙ (ap (λ (w : List (Vec EntrySet Global)). slice_get w j) wrote
      ∙ (ap (λ n. slice_get (set old.lists.items i own) n) here
      ∙ (slice_get-get_or (set old.lists.items i own) i own (omega (arith, within, length-set old.lists.items i own))
      ∙ ap (λ w. Some w) (get_or-set_same old.lists.items i own own within)))) in
      let e : list ≡ own = cc in
      subst (λ (w : Vec EntrySet Global). All (IsEntrySet (unwrap_or (slice_get net.closed j) []) until) w.items) (sym e)
      (subst (λ runs. All (IsEntrySet runs until) own.items) (sym (ap (λ n. unwrap_or (slice_get net.closed n) []) here ∙ is)) made))
      (λ (other : j ≡ i → ⊥).
      let short = slice_get_within new.lists.items j list there in
      let there' : slice_get (set old.lists.items i own) j ≡ Some list = sym (ap (λ (w : List (Vec EntrySet Global)). slice_get w j) wrote) ∙ there in
      let inside = slice_get_within (set old.lists.items i own) j list there' in
      are.each j list (slice_get-get_or old.lists.items j list (omega (arith, inside, length-set old.lists.items i own))
      ∙ ap (λ w. Some w) (sym (get_or-set_other old.lists.items i j own list other)
      ∙ get_or_from_slice_get (set old.lists.items i own) j list list there')))
      (cases_eq j i);
}

-- the set that is read at its place
pub set_read : (closed : List Run) (until minutes : ℕ) (sets : EntrySets) (i k : ℕ) (own : Vec EntrySet Global) (made : EntrySet)
    → HasEntriesAt closed until minutes sets i k → own ≡ get_or sets.lists.items i own → made ≡ get_or own.items k made
    → AreEntries closed until minutes made.set
set_read closed until minutes sets i k own made has at here =
    let read : AreEntries closed until minutes (get_or own.items k made).set =
    subst (λ (w : Vec EntrySet Global). AreEntries closed until minutes (get_or w.items k made).set) (sym at) (has.entries own made) in
    subst (λ (w : EntrySet). AreEntries closed until minutes w.set) (sym here) read
