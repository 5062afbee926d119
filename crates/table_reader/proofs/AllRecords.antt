-- The records of a text, one after another.
use Rattle.std.proofs.Common.{◌≡◌, ℕ, zero, suc, ◌+◌, ◌≤◌, ◌<◌, true, false, cond, Option, Some, None, List, [], ◌∷◌, ◌++◌, length, refl, sym, ◌∙◌, ap}
use Rattle.std.proofs.Common.{subst, arith, add-one}
use Rattle.csv.specs.Machine.{Read, next_record, step, is_end, fields_after, field_after, ends_at_end}
use Rattle.csv.specs.Reading.{Reached, AreRecords, records_from, records_next, records}
use Rattle.csv.specs.declared.parser.Config.{Config}
use Rattle.csv.specs.declared.parser.State.{State}
use Rattle.csv.specs.declared.parser.State.TheVariants as st
use Rattle.table_reader.specs.Records.{Record}

rest_of : (r p : Read) → Some r ≡ Some p → length p.2 ≤ length r.2
rest_of r p is = let same : r ≡ p = cc in omega (arith, ap (λ (w : Read). length w.2) same)

-- at the end of the text nothing is left
ends : (cfg : Config) (s : State) (fields : List (List ℕ)) (field : List ℕ) (p : Read) → next_record cfg s fields field [] ≡ Some p
    → (p.1 ≡ st.StartRecord) × (p.2 ≡ [])
unfolding next_record
ends cfg s fields field p is =
    elim (ends_at_end s) as (λ b. cond b (Some (fields ++ (field ∷ []), st.StartRecord, [])) None ≡ Some p → (p.1 ≡ st.StartRecord) × (p.2 ≡ [])) [
      | true ↦ λ e. (let r : Read = (fields ++ (field ∷ []), st.StartRecord, []) in let same : r ≡ p = cc in
          (sym (ap (λ (w : Read). w.1) same), sym (ap (λ (w : Read). w.2) same)))
      | false ↦ λ e. cc
    ] is

-- what is left after a record is shorter, where something was there
consumes : (cfg : Config) (s : State) (fields : List (List ℕ)) (field : List ℕ) (c : ℕ) (rest : List ℕ) (p : Read)
    → next_record cfg s fields field (c ∷ rest) ≡ Some p → length p.2 ≤ length rest
unfolding next_record
consumes cfg s fields field c [] p is =
    elim (is_end (step cfg s c).1) as (λ b. cond b (Some (fields_after (step cfg s c).1 fields field, (step cfg s c).0, []))
    (next_record cfg (step cfg s c).0 (fields_after (step cfg s c).1 fields field) (field_after (step cfg s c).1 c field) []) ≡ Some p
    → length p.2 ≤ 0) [
      | true ↦ λ e. rest_of (fields_after (step cfg s c).1 fields field, (step cfg s c).0, []) p e
      | false ↦ λ e. (let gone = ends cfg (step cfg s c).0 (fields_after (step cfg s c).1 fields field) (field_after (step cfg s c).1 c field) p e in
          omega (arith, ap (λ (w : List ℕ). length w) gone.1))
    ] is
consumes cfg s fields field c (d ∷ rest) p is =
    elim (is_end (step cfg s c).1) as (λ b. cond b (Some (fields_after (step cfg s c).1 fields field, (step cfg s c).0, d ∷ rest))
    (next_record cfg (step cfg s c).0 (fields_after (step cfg s c).1 fields field) (field_after (step cfg s c).1 c field) (d ∷ rest)) ≡ Some p
    → length p.2 ≤ length (d ∷ rest)) [
      | true ↦ λ e. rest_of (fields_after (step cfg s c).1 fields field, (step cfg s c).0, d ∷ rest) p e
      | false ↦ λ e. (let less = consumes cfg (step cfg s c).0 (fields_after (step cfg s c).1 fields field)
          (field_after (step cfg s c).1 c field) d rest p e in omega (arith, less))
    ] is

-- past the end there is none
past_end : (cfg : Config) (m : ℕ) (s : State) (p : Read) → next_record cfg s [] [] [] ≡ Some p → records_from cfg m p.1 p.2 ≡ []
unfolding records_from next_record
past_end cfg m s p is =
    let past = ends cfg s [] [] p is in
    rw (past.0, past.1) (none m)
  where
    none : (n : ℕ) → records_from cfg n st.StartRecord [] ≡ []
    none zero = refl
    none (suc n) = refl

-- with turns enough, their number makes no difference
turns : (cfg : Config) (n m : ℕ) (s : State) (xs : List ℕ) → length xs < n → length xs < m → records_from cfg n s xs ≡ records_from cfg m s xs
unfolding records_from
turns cfg zero m s xs short also = absurd (omega (arith, short))
turns cfg (suc n) zero s xs short also = absurd (omega (arith, also))
turns cfg (suc n) (suc m) s [] short also = by (next_record cfg s [] [] []) refl
  where
    by : (o : Option Read) → next_record cfg s [] [] [] ≡ o → records_next (records_from cfg n) o ≡ records_next (records_from cfg m) o
    by None is = refl
    by (Some p) is = ap (λ (rows : List Record). p.0 ∷ rows) (past_end cfg n s p is ∙ sym (past_end cfg m s p is))
turns cfg (suc n) (suc m) s (x ∷ xs) short also = by (turns cfg n m) (next_record cfg s [] [] (x ∷ xs)) refl
  where
    by : ((t : State) (ys : List ℕ) → length ys < n → length ys < m → records_from cfg n t ys ≡ records_from cfg m t ys)
        → (o : Option Read) → next_record cfg s [] [] (x ∷ xs) ≡ o → records_next (records_from cfg n) o ≡ records_next (records_from cfg m) o
    by again None is = refl
    by again (Some p) is =
        let fewer = consumes cfg s [] [] x xs p is in
        ap (λ (rows : List Record). p.0 ∷ rows) (again p.1 p.2 (omega (arith, short, fewer)) (omega (arith, also, fewer)))

-- a record, and those behind it
pub behind_record : (cfg : Config) (s : State) (xs : List ℕ) (p : Read) → next_record cfg s [] [] xs ≡ Some p
    → records_from cfg (length xs + 1) s xs ≡ p.0 ∷ records_from cfg (length p.2 + 1) p.1 p.2
unfolding records_from
behind_record cfg s [] p is =
    ap (records_next (records_from cfg 0)) is ∙ ap (λ (rows : List Record). p.0 ∷ rows) (sym (past_end cfg (length p.2 + 1) s p is))
behind_record cfg s (x ∷ xs) p is =
    let fewer = consumes cfg s [] [] x xs p is in
    ap (λ (n : ℕ). records_from cfg n s (x ∷ xs)) (add-one (length (x ∷ xs)))
    ∙ ap (records_next (records_from cfg (length (x ∷ xs)))) is
    ∙ ap (λ (rows : List Record). p.0 ∷ rows) (turns cfg (length (x ∷ xs)) (length p.2 + 1) p.1 p.2 (omega (arith, fewer)) (omega arith))

-- where there is no record
pub no_record : (cfg : Config) (s : State) (xs : List ℕ) → next_record cfg s [] [] xs ≡ None → records_from cfg (length xs + 1) s xs ≡ []
unfolding records_from
no_record cfg s xs is = ap (λ (n : ℕ). records_from cfg n s xs) (add-one (length xs)) ∙ ap (records_next (records_from cfg (length xs))) is

-- the records that were reached are all from a state
all_from : (cfg : Config) (s : State) (xs : List ℕ) (rows : List Record) (s2 : State) (ys : List ℕ) → Reached cfg s xs rows s2 ys
    → next_record cfg s2 [] [] ys ≡ None → records_from cfg (length xs + 1) s xs ≡ rows
unfolding Reached
all_from cfg s xs [] s2 ys reached stop =
    no_record cfg s xs (subst (λ (t : State). next_record cfg t [] [] xs ≡ None) (sym reached.0)
    (subst (λ (w : List ℕ). next_record cfg s2 [] [] w ≡ None) (sym reached.1) stop))
all_from cfg s xs (r ∷ rows) s2 ys reached stop =
    let p = reached.0 in
    behind_record cfg s xs p reached.1
    ∙ ap (λ (w : List Record). p.0 ∷ w) (all_from cfg p.1 p.2 rows s2 ys reached.3 stop)
    ∙ ap (λ (w : Record). w ∷ rows) (sym reached.2)

pub all_records : (cfg : Config) (xs : List ℕ) (rows : List (List (List ℕ))) → AreRecords cfg st.StartRecord xs rows → rows ≡ records cfg xs
all_records cfg xs rows are = sym (all_from cfg st.StartRecord xs rows are.0 are.1 are.2 are.3)
