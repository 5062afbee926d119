-- What is written to the progress keeps its shape.
use Rattle.std.proofs.Common.{◌≡◌, ⊎_elim, ℕ, ◌+◌, ◌≤◌, Bool, true, Option, Some, List, [], ◌∷◌, ◌++◌, length, sym, ◌∙◌, ap, subst, arith}
use Rattle.std.proofs.Common.{length-append}
use Rattle.std.specs.Prelude.{All}
use Rattle.std.proofs.lemmas.Bool.{cases_eq, or_right}
use Rattle.std.proofs.lemmas.List.Elements.{All-push}
use Rattle.route_base.specs.declared.types.Bound.{Bound}
use Rattle.cost_functions.specs.Building.{AreBuilt}
use Rattle.label_queue.specs.Keys.{key_at, IsSet}
use Rattle.propagation.specs.Inside.Pairs.{AreBorders}
use Rattle.propagation.specs.Inside.States.{is_pending, IsAwaited}
use Rattle.ruled_states.specs.Inside.Tables.{IsStateOf}
use Rattle.ruled_states.specs.declared.table.Info.{Info}
use Rattle.ruled_search.specs.Inside.Tasks.{IsGoodInfo, IsShaped}
use Rattle.ruled_search.specs.declared.progress.Progress.{Progress as ProgressHeld}
use Rattle.ruled_search.proofs.Growing.{pending_grown}

-- a function without pieces is built
nothing_built : AreBuilt []
nothing_built = record {
  pieces = record { each = λ i e short. absurd (omega (arith, short)); apart = λ i j e lt short. absurd (omega (arith, short)) };
  reduced = λ i j e lt short. absurd (omega (arith, short));
  small = λ i e short. absurd (omega (arith, short));
}

-- what holds of states holds of the same states
distinct_of : (old new : List Info) → new ≡ old → ((v k n m : ℕ) → IsStateOf old v k n → IsStateOf old v k m → n ≡ m)
    → (v k n m : ℕ) → IsStateOf new v k n → IsStateOf new v k m → n ≡ m
distinct_of old new same distinct = subst (λ infos. (v k n m : ℕ) → IsStateOf infos v k n → IsStateOf infos v k m → n ≡ m) (sym same) distinct

borders_of : (old new : ProgressHeld) → new.pairs.items ≡ old.pairs.items → new.borders.items ≡ old.borders.items
    → AreBorders old.pairs.items old.borders.items → AreBorders new.pairs.items new.borders.items
borders_of old new pairs borders are = subst (λ w. AreBorders w new.borders.items) (sym pairs) (subst (λ w. AreBorders old.pairs.items w) (sym borders) are)

module _ (nodes : ℕ) (bound : ℕ → ℕ → Option Bound) (old new : ProgressHeld) (shape : IsShaped nodes bound 0 old) where
  -- the functions and the pairs are others, and the rest is as before
  pub shaped_lowered : length new.functions.items ≡ length old.functions.items → All AreBuilt new.functions.items
      → AreBorders new.pairs.items new.borders.items → new.table.infos ≡ old.table.infos → new.table.rows ≡ old.table.rows
      → new.pending.items ≡ old.pending.items → new.queue ≡ old.queue → new.room ≡ old.room → IsShaped nodes bound 0 new
  shaped_lowered functions built are infos rows pending queue room =
      let long : length new.table.infos ≡ length old.table.infos = ap (λ w. length w) infos in
      record {
        functions = functions ∙ shape.functions ∙ sym long;
        built = built;
        pending = ap (λ w. length w) pending ∙ shape.pending ∙ sym long;
        room = omega (arith, long, room, shape.room);
        queue = ap (λ w. length w) queue ∙ shape.queue ∙ sym room;
        rows = rows ∙ shape.rows;
        infos = subst (λ w. All (IsGoodInfo nodes bound) w) (sym infos) shape.infos;
        distinct = distinct_of old.table.infos new.table.infos infos shape.distinct;
        queued = λ n t is work.
            let had = shape.queued n t (subst (λ w. is_pending w n t ≡ true) pending is) work in
            (had.0, subst (λ w. key_at w n ≡ Some had.0) (sym queue) had.1);
        waiting = λ n key is.
            let had = shape.waiting n key (subst (λ w. key_at w n ≡ Some key) queue is) in
            (had.0, subst (λ w. is_pending w n had.0 ≡ true) (sym pending) had.1);
        borders = are;
      }

  -- a state with more pending minutes is in the queue
  pub shaped_awaited : (h : ℕ) (more : ℕ → Bool) → length new.functions.items ≡ length old.functions.items → All AreBuilt new.functions.items
      → new.table.infos ≡ old.table.infos → new.table.rows ≡ old.table.rows → new.room ≡ old.room → AreBorders new.pairs.items new.borders.items
      → length new.pending.items ≡ length old.pending.items → IsAwaited h more (is_pending old.pending.items) (is_pending new.pending.items)
      → (key : ℕ) × IsSet old.queue new.queue h (Some key) → (t : ℕ) × (more t ≡ true) → IsShaped nodes bound 0 new
  shaped_awaited h more functions built infos rows room are pending awaits queue some =
      let long : length new.table.infos ≡ length old.table.infos = ap (λ w. length w) infos in
      record {
        functions = functions ∙ shape.functions ∙ sym long;
        built = built;
        pending = pending ∙ shape.pending ∙ sym long;
        room = omega (arith, long, room, shape.room);
        queue = queue.1.room ∙ shape.queue ∙ sym room;
        rows = rows ∙ shape.rows;
        infos = subst (λ w. All (IsGoodInfo nodes bound) w) (sym infos) shape.infos;
        distinct = distinct_of old.table.infos new.table.infos infos shape.distinct;
        queued = λ u t is work. ⊎_elim
            (λ (here : u ≡ h). (queue.0, ap (key_at new.queue) here ∙ queue.1.here))
            (λ (other : u ≡ h → ⊥).
            let had = shape.queued u t (sym (awaits.others u t other) ∙ is) work in
            (had.0, queue.1.others u other ∙ had.1))
            (cases_eq u h);
        waiting = λ u key is. ⊎_elim
            (λ (here : u ≡ h). (
              some.0,
              subst (λ w. is_pending new.pending.items w some.0 ≡ true) (sym here)
                  (awaits.here some.0 ∙ or_right (is_pending old.pending.items h some.0) (more some.0) some.1),
            ))
            (λ (other : u ≡ h → ⊥).
            let had = shape.waiting u key (sym (queue.1.others u other) ∙ is) in
            (had.0, awaits.others u had.0 other ∙ had.1))
            (cases_eq u h);
        borders = are;
      }

  -- a state more, of which nothing is found
  pub shaped_grown : (i : Info) → new.table.infos ≡ old.table.infos ++ i ∷ [] → new.table.rows ≡ old.table.rows
      → new.functions.items ≡ old.functions.items ++ [] ∷ [] → new.pending.items ≡ old.pending.items ++ [] ∷ []
      → length old.table.infos + 1 ≤ new.room → length new.queue ≡ new.room → ((n : ℕ) → key_at new.queue n ≡ key_at old.queue n)
      → new.pairs.items ≡ old.pairs.items → new.borders.items ≡ old.borders.items → IsGoodInfo nodes bound i
      → ((v k n m : ℕ) → IsStateOf new.table.infos v k n → IsStateOf new.table.infos v k m → n ≡ m) → IsShaped nodes bound 0 new
  shaped_grown i infos rows functions pending room queue keys pairs borders good distinct =
      let long : length new.table.infos ≡ length old.table.infos + 1 = ap (λ w. length w) infos ∙ length-append old.table.infos (i ∷ []) in
      record {
        functions = ap (λ w. length w) functions ∙ length-append old.functions.items ([] ∷ []) ∙ ap (λ n. n + 1) shape.functions ∙ sym long;
        built = subst (λ w. All AreBuilt w) (sym functions) (All-push AreBuilt old.functions.items [] shape.built nothing_built);
        pending = ap (λ w. length w) pending ∙ length-append old.pending.items ([] ∷ []) ∙ ap (λ n. n + 1) shape.pending ∙ sym long;
        room = omega (arith, room, long);
        queue = queue;
        rows = rows ∙ shape.rows;
        infos = subst (λ w. All (IsGoodInfo nodes bound) w) (sym infos) (All-push (IsGoodInfo nodes bound) old.table.infos i shape.infos good);
        distinct = distinct;
        queued = λ n t is work.
            let had = shape.queued n t (sym (pending_grown old.pending.items n t) ∙ subst (λ w. is_pending w n t ≡ true) pending is) work in
            (had.0, keys n ∙ had.1);
        waiting = λ n key is.
            let had = shape.waiting n key (sym (keys n) ∙ is) in
            (had.0, subst (λ w. is_pending w n had.0 ≡ true) (sym pending) (pending_grown old.pending.items n had.0 ∙ had.1));
        borders = borders_of old new pairs borders shape.borders;
      }
