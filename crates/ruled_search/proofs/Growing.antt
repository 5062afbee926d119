-- The table grows by a state of which nothing is found.
use Rattle.std.proofs.Common.{◌≡◌, ◌⊎◌, inl, inr, ⊎_elim, ℕ, zero, suc, ◌+◌, eqb, Bool, true, false}
use Rattle.std.proofs.Common.{Option, Some, None, List, [], ◌∷◌, ◌++◌, length, refl, sym, ◌∙◌, ap, subst, arith}
use Rattle.std.specs.Prelude.{if◌then◌else◌, nat_eq}
use Rattle.std.proofs.lemmas.Bool.{eqb-true}
use Rattle.std.proofs.lemmas.Option.{slice_get_past}
use Rattle.route_base.specs.Net.{at_number}
use Rattle.route_base.specs.declared.types.Pair.{Pair}
use Rattle.route_base.specs.declared.types.Run.{Run}
use Rattle.cost_functions.specs.Pieces.{value_at, value_in}
use Rattle.cost_functions.specs.declared.pieces.Piece.{Piece}
use Rattle.propagation.specs.Inside.Invariants.{Progress}
use Rattle.propagation.specs.Inside.States.{is_pending, set_has}
use Rattle.route_base.proofs.Items.{slice_get-push_end}
use Rattle.ruled_states.specs.Inside.Codes.{found_by}
use Rattle.ruled_states.specs.Inside.Tables.{IsStateOf, code_of, next_number, number_in}
use Rattle.ruled_states.specs.declared.table.Info.{Info}
use Rattle.ruled_search.specs.Inside.Steps.{IsAlike}

-- what is read of a list isn't changed by one more item that reads as none
push_read : {A B : Type 0} (read : Option A → B) (xs : List A) (e : A) (n : ℕ) → read (Some e) ≡ read None
    → read (at_number (xs ++ e ∷ []) n) ≡ read (at_number xs n)
push_read read xs e zero same = refl
push_read read [] e (suc zero) same = same
push_read read [] e (suc (suc n)) same = refl
push_read read (x ∷ xs) e (suc zero) same = refl
push_read read (x ∷ xs) e (suc (suc n)) same = push_read read xs e (suc n) same

first_number : (b : Bool) → ((if b then 1 else next_number 0) ≡ 0) ⊎ ((◌≡◌ {A = ℕ} 0 0) × ((if b then 1 else next_number 0) ≡ 1))
first_number true = inr (refl, refl)
first_number false = inl refl

-- the number of a code stays, but for that of the new state, which was 0
number_grown : (infos : List Info) (i : Info) (c : ℕ)
    → (number_in (infos ++ i ∷ []) c ≡ number_in infos c) ⊎ ((number_in infos c ≡ 0) × (number_in (infos ++ i ∷ []) c ≡ suc (length infos)))
number_grown [] i c = first_number (eqb (code_of i) c)
number_grown (x ∷ xs) i c = by (number_in xs c) (number_in (xs ++ i ∷ []) c) (eqb (code_of x) c) (number_grown xs i c)
  where
    by : (m n : ℕ) (b : Bool) → (n ≡ m) ⊎ ((m ≡ 0) × (n ≡ suc (length xs)))
        → ((if b then 1 else next_number n) ≡ (if b then 1 else next_number m))
        ⊎ (((if b then 1 else next_number m) ≡ 0) × ((if b then 1 else next_number n) ≡ suc (suc (length xs))))
    by m n true grown = inl refl
    by m n false grown = ⊎_elim
        (λ (same : n ≡ m). inl (ap next_number same))
        (λ (new : (m ≡ 0) × (n ≡ suc (length xs))). inr (ap next_number new.0, ap next_number new.1))
        grown

read_grown : {A B : Type 0} (read : Option A → B) (xs : List A) (e : A) (infos : List Info) (i : Info) (c : ℕ) → length xs ≡ length infos
    → read (Some e) ≡ read None → read (at_number (xs ++ e ∷ []) (number_in (infos ++ i ∷ []) c)) ≡ read (at_number xs (number_in infos c))
read_grown read xs e infos i c long same = push_read read xs e (number_in (infos ++ i ∷ []) c) same ∙ ⊎_elim
    (λ (kept : number_in (infos ++ i ∷ []) c ≡ number_in infos c). ap (λ n. read (at_number xs n)) kept)
    (λ (new : (number_in infos c ≡ 0) × (number_in (infos ++ i ∷ []) c ≡ suc (length infos))).
    ap (λ n. read (at_number xs n)) (new.1 ∙ ap (λ n. suc n) (sym long)) ∙ ap read (slice_get_past xs (length xs) (omega arith)) ∙ ap (λ n. read (at_number xs n)) (sym new.0))
    (number_grown infos i c)

nothing_at : (t : ℕ) → value_at [] t ≡ None
unfolding value_at
nothing_at t = refl

pub alike_grown : (infos : List Info) (functions : List (List Piece)) (pending : List (List Run)) (pairs : List Pair) (i : Info)
    → length functions ≡ length infos → length pending ≡ length infos
    → IsAlike (found_by infos functions pending pairs) (found_by (infos ++ i ∷ []) (functions ++ [] ∷ []) (pending ++ [] ∷ []) pairs)
alike_grown infos functions pending pairs i long many = record {
  cost = λ c t. read_grown (λ o. value_in o t) functions [] infos i c long (nothing_at t);
  pending = λ c t. read_grown (λ o. set_has o t) pending [] infos i c many refl;
  pairs = refl;
}

-- what is pending by number stays
pub pending_grown : (pending : List (List Run)) (n t : ℕ) → is_pending (pending ++ [] ∷ []) n t ≡ is_pending pending n t
pending_grown pending n t = push_read (λ o. set_has o t) pending [] n refl

-- the same for what is written
pub alike_added : (infos infos' : List Info) (functions functions' : List (List Piece)) (pending pending' : List (List Run)) (pairs : List Pair) (i : Info)
    → infos' ≡ infos ++ i ∷ [] → functions' ≡ functions ++ [] ∷ [] → pending' ≡ pending ++ [] ∷ []
    → length functions ≡ length infos → length pending ≡ length infos
    → IsAlike (found_by infos functions pending pairs) (found_by infos' functions' pending' pairs)
alike_added infos infos' functions functions' pending pending' pairs i more longer later long many =
    subst (λ w. IsAlike (found_by infos functions pending pairs) (found_by w functions' pending' pairs)) (sym more)
    (subst (λ w. IsAlike (found_by infos functions pending pairs) (found_by (infos ++ i ∷ []) w pending' pairs)) (sym longer)
    (subst (λ w. IsAlike (found_by infos functions pending pairs) (found_by (infos ++ i ∷ []) (functions ++ [] ∷ []) w pairs)) (sym later)
    (alike_grown infos functions pending pairs i long many)))

-- the new state has its number
pub state_added : (infos infos' : List Info) (i : Info) (n : ℕ) → infos' ≡ infos ++ i ∷ [] → n ≡ length infos + 1 → IsStateOf infos' i.node.0 i.state n
state_added infos infos' i n more number =
    let last : n ≡ suc (length infos) = omega (arith, number) in
    record {
      info = i;
      at = ap (λ w. at_number w n) more ∙ ap (at_number (infos ++ i ∷ [])) last ∙ slice_get-push_end infos i;
      node = refl;
      state = refl;
    }

pub alike_same : (now : Progress) → IsAlike now now
alike_same now = record { cost = λ c t. refl; pending = λ c t. refl; pairs = refl }

-- an offer without pieces has no cost
pub nothing_offered : (f : List Piece) (b : Bool) → b ≡ nat_eq (length f) 0 → b ≡ true → (t : ℕ) → value_at f t ≡ None
nothing_offered [] b is none t = nothing_at t
nothing_offered (x ∷ xs) b is none t = absurd (omega (arith, eqb-true (length (x ∷ xs)) 0 (sym is ∙ none)))
