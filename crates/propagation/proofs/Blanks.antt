-- Nothing found yet, and the end.
use Rattle.std.proofs.Common.{◌≡◌, inl, inr, ⊎_elim, ℕ, zero, suc, Bool, true, false, Option, Some, None, List, [], length, get_or}
use Rattle.std.proofs.Common.{refl, sym, ◌∙◌, ap, subst, arith}
use Rattle.cost_functions.specs.Building.{AreBuilt}
use Rattle.std.specs.Prelude.{All, Contains, slice_get}
use Rattle.std.proofs.lemmas.Option.{slice_get_within, get_or_from_slice_get}
use Rattle.std.proofs.lemmas.Bool.{cases_eq}
use Rattle.route_base.specs.Front.{RiseAndFall}
use Rattle.route_base.specs.Itinerary.{Position}
use Rattle.route_base.specs.Legs.{start_of}
use Rattle.route_base.specs.Net.{at_number}
use Rattle.label_queue.specs.Keys.{key_at, IsLeastTaken}
use Rattle.propagation.specs.declared.progress.Progress.{Progress as ProgressHeld}
use Rattle.cost_functions.specs.Pieces.{value_at, value_in}
use Rattle.route_base.specs.Runs.{any_has}
use Rattle.propagation.specs.Inside.Invariants.{IsBlank, IsLabel, IsResting, IsWorseOrLate, Progress, Task, point}
use Rattle.propagation.specs.Inside.Offers.{IsSource}
use Rattle.propagation.specs.Inside.Pairs.{AreBorders}
use Rattle.propagation.specs.Found.{cost_at}
use Rattle.propagation.specs.Inside.States.{IsShaped, is_pending, set_has}
use Rattle.cost_functions.specs.declared.pieces.Piece.{Piece}
use Rattle.route_base.specs.declared.types.Run.{Run}

-- what all items have, the item of each number has
module _ {A : Type 0} (P : Option A → Type 0) (xs : List A) where
  pub by_number : P None → All (λ x. P (Some x)) xs → (v : ℕ) → P (at_number xs v)
  by_number none all zero = none
  by_number none all (suc i) = by (slice_get xs i) refl
    where
      by : (o : Option A) → slice_get xs i ≡ o → P (slice_get xs i)
      by None is = subst P (sym is) none
      by (Some x) is = subst P (sym is) (subst (λ y. P (Some y)) (get_or_from_slice_get xs i x x is) (all i x (slice_get_within xs i x is)))

none : (f : List Piece) → f ≡ [] → (t : ℕ) → value_at f t ≡ None
unfolding value_at
none f is t = ap (λ (w : List Piece). value_at w t) is

-- functions without pieces have no costs
pub all_none : (functions : List (List Piece)) → All (λ (f : List Piece). f ≡ []) functions → (v t : ℕ) → cost_at functions v t ≡ None
all_none functions all = by_number (λ o. (t : ℕ) → value_in o t ≡ None) functions (λ t. refl) (λ k d within t. none (get_or functions k d) (all k d within) t)

-- sets without runs have no minutes
pub all_idle : (sets : List (List Run)) → All (λ (set : List Run). set ≡ []) sets → (v t : ℕ) → is_pending sets v t ≡ false
all_idle sets all = by_number (λ o. (t : ℕ) → set_has o t ≡ false) sets (λ t. refl) (λ k d within t. ap (λ (w : List Run). any_has w t) (all k d within))

-- a function without pieces is built
pub empty_built : (functions : List (List Piece)) → All (λ (f : List Piece). f ≡ []) functions → All AreBuilt functions
empty_built functions all k d within = subst AreBuilt (sym (all k d within)) (record {
  pieces = record { each = λ i e short. absurd (omega (arith, short)); apart = λ i j e lt short. absurd (omega (arith, short)) };
  reduced = λ i j e lt short. absurd (omega (arith, short));
  small = λ i e short. absurd (omega (arith, short));
})

module _ (k : Task) where
  -- the cost of the start, alone, is a source
  pub start_source : (now : Progress) (costs : ℕ → Option ℕ) → costs k.request.depart ≡ Some 0 → ((t : ℕ) → (t ≡ k.request.depart → ⊥) → costs t ≡ None)
      → IsSource k now k.request.origin.0 costs
  start_source now costs here others = record {
    reached = λ t x is.
        let at = only t x is in
        let none : x ≡ 0 = zero_of t x is at in
        ([], subst (λ n. start_of k.request ≡ point k.request.origin.0 n x) (sym at) (ap (λ n. point k.request.origin.0 k.request.depart n) (sym none)));
    comes = λ t x y is le. inl (refl, only t y is);
  }
    where
      only : (t x : ℕ) → costs t ≡ Some x → t ≡ k.request.depart
      only t x is = ⊎_elim
          (λ (same : t ≡ k.request.depart). same)
          (λ (other : t ≡ k.request.depart → ⊥). let bad : None ≡ Some x = sym (others t other) ∙ is in cc)
          (cases_eq t k.request.depart)

      zero_of : (t x : ℕ) → costs t ≡ Some x → t ≡ k.request.depart → x ≡ 0
      zero_of t x is at = let e : Some x ≡ Some 0 = sym is ∙ (ap costs at ∙ here) in cc

  -- where the start has no bound, nothing is left to be found
  pub blank_rests : (now : Progress) → IsBlank now → k.bounds k.request.origin.0 ≡ None → IsResting k now
  blank_rests now blank unbound = record {
    start = inr (subst (λ o. IsWorseOrLate k.request.until now.pairs o (start_of k.request)) (sym unbound) tt);
    sound = record { reached = λ p is. nowhere p is; comes = λ p is. nowhere p is };
    steps = record { waits = λ p q is step. nowhere p is; drives = λ p is. nowhere p is };
    paired = record {
      trade = subst RiseAndFall (sym blank.pairs) (λ i j d before within. absurd (omega (arith, within)));
      achieved = λ p one. let bad = subst (λ w. Contains w p) blank.pairs one in absurd (omega (arith, bad.1));
      matched = λ t x is. nowhere (point k.request.goal.0 t x) is;
    };
    tight = λ p is. nowhere p is;
    known = λ v t is. let bad : false ≡ true = sym (blank.pending v t) ∙ is in cc;
  }
    where
      nowhere : {C : Type 0} (p : Position) → IsLabel now p → C
      nowhere {C} p is = let bad : None ≡ Some p.cost = sym (blank.cost p.node p.minute) ∙ is in cc

-- nothing is pending at number 0
none_at_zero : (sets : List (List Run)) (u t : ℕ) → u ≡ 0 → is_pending sets u t ≡ true → ⊥
none_at_zero sets zero t e is = cc
none_at_zero sets (suc i) t e is = omega (arith, e)

-- the node that is taken out of the queue is at work
module _ (sets : List (List Run)) (keys new_keys : List (Option ℕ)) (v key : ℕ) (taken : IsLeastTaken keys new_keys v key) where
  pub queued_taken : ((u t : ℕ) → is_pending sets u t ≡ true → (u ≡ 0 → ⊥) → (key : ℕ) × (key_at keys u ≡ Some key))
      → (u t : ℕ) → is_pending sets u t ≡ true → (u ≡ v → ⊥) → (key : ℕ) × (key_at new_keys u ≡ Some key)
  queued_taken queued u t is other =
      let q = queued u t is (λ e. none_at_zero sets u t e is) in
      (q.0, taken.now.others u other ∙ q.1)

  pub waiting_taken : ((u key : ℕ) → key_at keys u ≡ Some key → (t : ℕ) × (is_pending sets u t ≡ true))
      → (u key : ℕ) → key_at new_keys u ≡ Some key → (t : ℕ) × (is_pending sets u t ≡ true)
  waiting_taken waiting u at is = ⊎_elim
      (λ (here : u ≡ v). let bad : None ≡ Some at = sym taken.now.here ∙ (ap (key_at new_keys) (sym here) ∙ is) in cc)
      (λ (other : u ≡ v → ⊥). waiting u at (sym (taken.now.others u other) ∙ is))
      (cases_eq u v)

pub shaped_taken : (nodes v key : ℕ) (old new : ProgressHeld) → IsShaped nodes 0 old → new.functions ≡ old.functions → new.pending ≡ old.pending
    → AreBorders new.pairs.items new.borders.items → IsLeastTaken old.queue new.queue v key → IsShaped nodes v new
shaped_taken nodes v key old new shape functions pending are taken = record {
  functions = ap (λ w. length w.items) functions ∙ shape.functions;
  built = subst (λ w. All AreBuilt w.items) (sym functions) shape.built;
  pending = ap (λ w. length w.items) pending ∙ shape.pending;
  queue = taken.now.room ∙ shape.queue;
  queued = λ u t is other. queued_taken old.pending.items old.queue new.queue v key taken shape.queued u t
      (ap (λ w. is_pending w.items u t) (sym pending) ∙ is) other;
  waiting = λ u at is.
      let w = waiting_taken old.pending.items old.queue new.queue v key taken shape.waiting u at is in
      (w.0, ap (λ x. is_pending x.items u w.0) pending ∙ w.1);
  borders = are;
}

-- where the queue is empty, nothing is pending
pub idle_by : (sets : List (List Run)) (keys : List (Option ℕ))
    → ((u t : ℕ) → is_pending sets u t ≡ true → (u ≡ 0 → ⊥) → (key : ℕ) × (key_at keys u ≡ Some key)) → ((v : ℕ) → key_at keys v ≡ None)
    → (v t : ℕ) → is_pending sets v t ≡ false
idle_by sets keys queued empty v t = by (is_pending sets v t) refl
  where
    by : (b : Bool) → is_pending sets v t ≡ b → is_pending sets v t ≡ false
    by false is = is
    by true is =
        let q = queued v t is (λ e. none_at_zero sets v t e is) in
        let bad : None ≡ Some q.0 = sym (empty v) ∙ q.1 in cc

pub idle_at_end : (nodes : ℕ) (progress : ProgressHeld) → IsShaped nodes 0 progress → ((v : ℕ) → key_at progress.queue v ≡ None) → (v t : ℕ)
    → is_pending progress.pending.items v t ≡ false
idle_at_end nodes progress shape empty = idle_by progress.pending.items progress.queue shape.queued empty
