-- The numbers and the shape of the progress while a state leaves the queue and a part is taken of it.
use Rattle.std.proofs.Common.{◌≡◌, ◌≤◌, ◌<◌, ◌/◌, ◌%◌, ℕ, true, Bool, Option, Some, None, length, refl, sym, ◌∙◌, ap, subst, arith}
use Rattle.std.specs.Prelude.{All}
use Rattle.std.proofs.lemmas.Nat.{div-mul-add, mod-mul-add}
use Rattle.route_base.specs.Net.{at_number}
use Rattle.route_base.specs.declared.limits.TheConstants.{MOST_NET_NODES}
use Rattle.route_base.specs.declared.types.Bound.{Bound}
use Rattle.route_base.proofs.Numbered.{at_number-all, number_within}
use Rattle.cost_functions.specs.Building.{AreBuilt}
use Rattle.label_queue.specs.Keys.{key_at, IsLeastTaken}
use Rattle.propagation.specs.Inside.Pairs.{AreBorders}
use Rattle.propagation.specs.Inside.States.{is_pending, IsRequeued, IsSplit}
use Rattle.propagation.proofs.Blanks.{queued_taken, waiting_taken}
use Rattle.propagation.proofs.Splitting.{queued_again, room_again, waiting_again}
use Rattle.state_dominance.specs.Inside.Product.{code}
use Rattle.ruled_states.specs.Inside.Codes.{base, HaveSmallNodes}
use Rattle.ruled_states.specs.Inside.Tables.{IsStateOf, code_of, number_in}
use Rattle.ruled_states.specs.declared.table.Info.{Info}
use Rattle.ruled_states.proofs.Numbers.{number_of_code}
use Rattle.ruled_search.specs.Inside.Tasks.{IsGoodInfo, IsShaped}
use Rattle.ruled_search.specs.declared.progress.Progress.{Progress as ProgressHeld}

-- a bound of a node and a state is that of its code
pub bound_by_code : (bound : ℕ → ℕ → Option Bound) (v k : ℕ) → v < base → bound (code base v k % base) (code base v k / base) ≡ bound v k
bound_by_code bound v k small = ap (λ n. bound n (code base v k / base)) (mod-mul-add k base v small) ∙ ap (λ n. bound v n) (div-mul-add k base v small)

module _ (nodes : ℕ) (bound : ℕ → ℕ → Option Bound) (at_work : ℕ) (old : ProgressHeld) (shape : IsShaped nodes bound at_work old) where
  pub good_info : (n : ℕ) (i : Info) → at_number old.table.infos n ≡ Some i → IsGoodInfo nodes bound i
  good_info n i at = at_number-all (IsGoodInfo nodes bound) old.table.infos n i shape.infos at

  -- a state has a function and pending minutes
  pub has_place : (n : ℕ) (i : Info) → at_number old.table.infos n ≡ Some i
      → (1 ≤ n) × (n ≤ length old.functions.items) × (n ≤ length old.pending.items) × (n ≤ length old.queue)
  has_place n i at =
      let own = number_within old.table.infos n i at in
      (own.0, omega (arith, own.1, shape.functions), omega (arith, own.1, shape.pending), omega (arith, own.1, shape.room, shape.queue))

  -- a state has the number of its code
  pub own_number : nodes ≤ MOST_NET_NODES → (n : ℕ) (i : Info) → at_number old.table.infos n ≡ Some i → number_in old.table.infos (code_of i) ≡ n
  own_number few n i at = number_of_code old.table.infos small shape.distinct i.node.0 i.state n (small n i at)
      (record { info = i; at = at; node = refl; state = refl })
    where
      small : HaveSmallNodes old.table.infos
      small m j there = omega (arith, (good_info m j there).node.1, few)

  -- the same states, with other pending minutes and keys
  pub shaped_by : (later : ℕ) (new : ProgressHeld) → new.table ≡ old.table → new.functions ≡ old.functions → new.room ≡ old.room → new.pairs ≡ old.pairs
      → new.borders ≡ old.borders → length new.pending.items ≡ length old.pending.items → length new.queue ≡ length old.queue
      → ((n t : ℕ) → is_pending new.pending.items n t ≡ true → (n ≡ later → ⊥) → (key : ℕ) × (key_at new.queue n ≡ Some key))
      → ((n key : ℕ) → key_at new.queue n ≡ Some key → (t : ℕ) × (is_pending new.pending.items n t ≡ true)) → IsShaped nodes bound later new
  shaped_by later new table functions room pairs borders pending queue queued waiting = record {
    functions = ap (λ w. length w.items) functions ∙ shape.functions ∙ ap (λ w. length w.infos) (sym table);
    built = subst (λ w. All AreBuilt w.items) (sym functions) shape.built;
    pending = pending ∙ shape.pending ∙ ap (λ w. length w.infos) (sym table);
    room = subst (λ n. length new.table.infos ≤ n) (sym room) (subst (λ w. length w.infos ≤ old.room) (sym table) shape.room);
    queue = queue ∙ shape.queue ∙ sym room;
    rows = ap (λ w. w.rows) table ∙ shape.rows;
    infos = subst (λ w. All (IsGoodInfo nodes bound) w.infos) (sym table) shape.infos;
    distinct = subst (λ w. (v k n m : ℕ) → IsStateOf w.infos v k n → IsStateOf w.infos v k m → n ≡ m) (sym table) shape.distinct;
    queued = queued;
    waiting = waiting;
    borders = subst (λ w. AreBorders w.items new.borders.items) (sym pairs) (subst (λ w. AreBorders old.pairs.items w.items) (sym borders) shape.borders);
  }

-- a part is taken of what is pending at a state, which is back in the queue if minutes are left
pub shaped_again : (nodes : ℕ) (bound : ℕ → ℕ → Option Bound) (n : ℕ) (taken : ℕ → Bool) (next : Option ℕ) (old new : ProgressHeld)
    → IsShaped nodes bound n old → key_at old.queue n ≡ None → IsSplit n taken next (is_pending old.pending.items) (is_pending new.pending.items)
    → IsRequeued n next old.queue new.queue → new.table ≡ old.table → new.functions ≡ old.functions → new.room ≡ old.room → new.pairs ≡ old.pairs
    → new.borders ≡ old.borders → length new.pending.items ≡ length old.pending.items → IsShaped nodes bound 0 new
shaped_again nodes bound n taken next old new shape absent split requeued table functions room pairs borders pending =
    let was = is_pending old.pending.items in
    let now = is_pending new.pending.items in
    shaped_by nodes bound n old shape 0 new table functions room pairs borders pending (room_again n taken was now old.queue new.queue next requeued)
    (λ u t is work. queued_again n taken was now old.queue new.queue next split requeued shape.queued u t is)
    (waiting_again n taken was now old.queue new.queue next split requeued absent shape.waiting)

-- the state that is taken out of the queue is at work
pub shaped_taken : (nodes : ℕ) (bound : ℕ → ℕ → Option Bound) (n key : ℕ) (old new : ProgressHeld) → IsShaped nodes bound 0 old → new.table ≡ old.table
    → new.functions ≡ old.functions → new.room ≡ old.room → new.pairs ≡ old.pairs → new.borders ≡ old.borders → new.pending ≡ old.pending
    → IsLeastTaken old.queue new.queue n key → IsShaped nodes bound n new
shaped_taken nodes bound n key old new shape table functions room pairs borders pending taken =
    shaped_by nodes bound 0 old shape n new table functions room pairs borders (ap (λ w. length w.items) pending) taken.now.room
    (λ u t is other. queued_taken old.pending.items old.queue new.queue n key taken shape.queued u t
    (ap (λ w. is_pending w.items u t) (sym pending) ∙ is) other)
    (λ u at is.
    let w = waiting_taken old.pending.items old.queue new.queue n key taken shape.waiting u at is in
    (w.0, ap (λ x. is_pending x.items u w.0) pending ∙ w.1))
