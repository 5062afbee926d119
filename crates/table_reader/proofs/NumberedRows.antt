-- The values of numbers after one more row.
use Rattle.std.proofs.Common.{◌≡◌, ℕ, zero, suc, ◌+◌, ◌-◌, ◌<◌, ◌≤◌, Bool, cond, eqb, Option, Some, None, List, [], ◌∷◌, ◌++◌, length, map, get_or}
use Rattle.std.proofs.Common.{refl, sym, ◌∙◌, ap, arith, eq-eqb, ⊎_elim}
use Rattle.std.proofs.Math.ListN.{set, replicate}
use Rattle.std.specs.List.{range_with_len}
use Rattle.std.specs.Option.{is_some, option_and_then}
use Rattle.std.proofs.lemmas.Bool.{ne_eqb, cases_eq, le-leb}
use Rattle.std.proofs.lemmas.List.FromFn.{get_or-map-range_with_len, length-map-range_with_len}
use Rattle.route_base.specs.declared.faults.Cause.{Cause}
use Rattle.route_base.specs.declared.faults.Cause.TheVariants.{Duplicate}
use Rattle.table_reader.specs.ByNumber.{ValuesByNumber, HaveValues, NumberedRow, numbered_of, numbered_in, field_for, given_to, given_by_number}
use Rattle.table_reader.specs.ByNumber.{cause_of_numbered}
use Rattle.table_reader.specs.Records.{Record}
use Rattle.table_reader.proofs.Lists.{range-written, lookup-other, lookup-new}

pub length-given_by_number : {X : Type 0} (n : ℕ) (value : List ℕ → Option X) (rows : List NumberedRow) → length (given_by_number n value rows) ≡ n
unfolding given_by_number
length-given_by_number n value rows = length-map-range_with_len (given_to value rows) 1 n

none_among : {X : Type 0} (value : List ℕ → Option X) (a n : ℕ) → replicate n None ≡ map (given_to value []) (range_with_len a n)
none_among value a zero = refl
none_among value a (suc n) = ap (λ (xs : List (Option _)). None ∷ xs) (none_among value (a + 1) n)

-- no rows yet
pub given_at_first : {X : Type 0} (value : List ℕ → Option X) (n : ℕ) → given_by_number n value [] ≡ replicate n None
unfolding given_by_number
given_at_first value n = sym (none_among value 1 n)

module _ {S V : Type 0} (value : S → List ℕ → Option V) where
  pub HaveValues-first : (t : ValuesByNumber S V) (n : ℕ) → t.values ≡ given_by_number n (value t.source) [] → HaveValues value t t []
  HaveValues-first t n is = record {
    source = refl;
    values = is ∙ ap (λ k. given_by_number k (value t.source) []) (sym (ap length is ∙ length-given_by_number n (value t.source) []));
    known = λ v. refl;
  }

  -- as many numbers as at the start
  pub HaveValues-length : (start now : ValuesByNumber S V) (rows : List NumberedRow) → HaveValues value start now rows → length now.values ≡ length start.values
  HaveValues-length start now rows gives = ap length gives.values ∙ length-given_by_number (length start.values) (value start.source) rows

  -- what stands at a number's place
  pub given_there : (start now : ValuesByNumber S V) (rows : List NumberedRow) (v : ℕ) (d : Option V) → HaveValues value start now rows → 1 ≤ v
      → v ≤ length now.values → get_or now.values (v - 1) d ≡ given_to (value start.source) rows v
  unfolding given_by_number
  given_there start now rows v d gives low high =
      let len = HaveValues-length start now rows gives in
      let there : v - 1 < length start.values = omega arith in
      let number : 1 + (v - 1) ≡ v = omega arith in
      ap (λ (ys : List (Option V)). get_or ys (v - 1) d) gives.values
      ∙ get_or-map-range_with_len (given_to (value start.source) rows) 1 (length start.values) (v - 1) v d there number

  -- whether the number has a row
  pub held_there : (start now : ValuesByNumber S V) (rows : List NumberedRow) (v : ℕ) (d : Option V) → HaveValues value start now rows → 1 ≤ v
      → v ≤ length now.values → is_some (field_for rows v) ≡ is_some (get_or now.values (v - 1) d)
  held_there start now rows v d gives low high = sym (gives.known v) ∙ sym (ap is_some (given_there start now rows v d gives low high))

  pub HaveValues-more : (start now : ValuesByNumber S V) (rows : List NumberedRow) (r : NumberedRow) (x : V) → HaveValues value start now rows
      → 1 ≤ r.0 → r.0 ≤ length now.values → value now.source r.1 ≡ Some x → field_for rows r.0 ≡ None
      → HaveValues value start (record { source = now.source; values = set now.values (r.0 - 1) (Some x) }) (rows ++ r ∷ [])
  unfolding given_by_number
  HaveValues-more start now rows r x gives low high is none =
      let len = HaveValues-length start now rows gives in
      let there : r.0 - 1 < length start.values = omega arith in
      let number : r.0 - 1 + 1 ≡ r.0 = omega arith in
      let known : value start.source r.1 ≡ Some x = ap (λ (source : S). value source r.1) (sym gives.source) ∙ is in
      let here : given_to (value start.source) (rows ++ r ∷ []) (r.0 - 1 + 1) ≡ Some x =
      ap (λ o. option_and_then (value start.source) o) (at_new rows r (r.0 - 1 + 1) none number) ∙ known in
      record {
        source = gives.source;
        values = range-written (given_to (value start.source) rows) (given_to (value start.source) (rows ++ r ∷ [])) (length start.values) now.values
            (r.0 - 1) (Some x) None gives.values there (sym here)
            (λ v ne. ap (λ o. option_and_then (value start.source) o) (at_other rows r v (λ e. ne (e ∙ sym number))));
        known = λ v. ⊎_elim
            (λ (e : v ≡ r.0). (let new = at_new rows r v none e in
            ap (λ o. is_some (option_and_then (value start.source) o)) new ∙ ap is_some known ∙ sym (ap is_some new)))
            (λ (ne : v ≡ r.0 → ⊥). (let old = at_other rows r v ne in
            ap (λ o. is_some (option_and_then (value start.source) o)) old ∙ gives.known v ∙ sym (ap is_some old)))
            (cases_eq v r.0);
      }
    where
      -- the field of a number with one row more
      at_other : (rows : List NumberedRow) (r : NumberedRow) (v : ℕ) → (v ≡ r.0 → ⊥) → field_for (rows ++ r ∷ []) v ≡ field_for rows v
      at_other rows r v ne = lookup-other (λ k. eqb v k) rows r (ne_eqb v r.0 ne)

      at_new : (rows : List NumberedRow) (r : NumberedRow) (v : ℕ) → field_for rows r.0 ≡ None → v ≡ r.0 → field_for (rows ++ r ∷ []) v ≡ Some r.1
      at_new rows r v none e = lookup-new (λ k. eqb v k) rows r (ap (λ n. field_for rows n) e ∙ none) (eq-eqb v r.0 e)

-- why the row can't follow, once its number is one and its field has a value
pub cause_there : {X : Type 0} (n : ℕ) (value : List ℕ → Option X) (before : List NumberedRow) (r : NumberedRow) (x : X) (b : Bool) → 1 ≤ r.0
    → r.0 ≤ n → value r.1 ≡ Some x → is_some (field_for before r.0) ≡ b
    → cause_of_numbered n value before (Some r) ≡ cond b (Some Duplicate) None
cause_there n value before r x b low high known is = rw (le-leb 1 r.0 low, le-leb r.0 n high, known, is) refl

module _ {S V : Type 0} (form : List ℕ → Bool) (value : S → List ℕ → Option V) where
  -- this row has this cause after the others, if it has one
  abbrev pub HasCause : Record → Option Cause → ValuesByNumber S V → Type 0
  HasCause row cause now = (start : ValuesByNumber S V) (before : List Record) → HaveValues value start now (numbered_in form before)
      → cause_of_numbered (length now.values) (value now.source) (numbered_in form before) (numbered_of form row) ≡ cause

  -- it is a duplicate where the number has a value
  pub cause_next : (now : ValuesByNumber S V) (row : Record) (r : NumberedRow) (x : V) (d : Option V) (b : Bool) → numbered_of form row ≡ Some r
      → 1 ≤ r.0 → r.0 ≤ length now.values → value now.source r.1 ≡ Some x → is_some (get_or now.values (r.0 - 1) d) ≡ b
      → HasCause row (cond b (Some Duplicate) None) now
  cause_next now row r x d b is low high known held = λ start before gives.
      ap (cause_of_numbered (length now.values) (value now.source) (numbered_in form before)) is
      ∙ cause_there (length now.values) (value now.source) (numbered_in form before) r x b low high known
      (held_there value start now (numbered_in form before) r.0 d gives low high ∙ held)
