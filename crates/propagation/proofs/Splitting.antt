-- The minutes that are taken from the pending ones of a node.
use Rattle.std.proofs.Common.{◌≡◌, ◌⊎◌, inl, inr, ⊎_elim, ℕ, ◌-◌, ◌≤◌, ◌<◌, Bool, true, false, ◌&&◌, ◌||◌, not, Option, Some, None, List, [], length, get_or}
use Rattle.std.proofs.Common.{set, refl, sym, ◌∙◌, ap, subst}
use Rattle.cost_functions.specs.Building.{AreBuilt}
use Rattle.std.specs.Prelude.{All, nat_lt, if◌then◌else◌, IfSome, IsNone}
use Rattle.std.proofs.lemmas.Bool.{cases_eq, lt-ltb, and_parts, or_right}
use Rattle.route_base.specs.Relaxing.{IsDominatedOrLate}
use Rattle.route_base.specs.declared.types.Bound.{Bound}
use Rattle.label_queue.specs.Keys.{key_at, IsSet}
use Rattle.propagation.specs.declared.progress.Progress.{Progress as ProgressHeld}
use Rattle.potentials.proofs.Lists.{number_read, number_set, number_set_other}
use Rattle.route_base.specs.Runs.{any_has}
use Rattle.function_merge.specs.Pruning.{IsPruned}
use Rattle.propagation.specs.Inside.Invariants.{IsWorseOrLate, Progress, TakesPart, Task, point}
use Rattle.propagation.specs.Inside.States.{IsAwaited, IsRequeued, IsShaped, IsSplit, is_pending, set_has}
use Rattle.route_base.specs.declared.types.Pair.{Pair}
use Rattle.route_base.specs.declared.types.Run.{Run}
use Rattle.propagation.specs.Inside.Pairs.{AreBorders}
use Rattle.propagation.proofs.Pruning.{worse_by_borders}

part_or_rest : (a b : Bool) → a ≡ true → ((a && not b) ≡ true) ⊎ ((a && b) ≡ true)
part_or_rest true true h = inr refl
part_or_rest true false h = inl refl
part_or_rest false b h = cc

not_rest : (a b : Bool) → b ≡ true → (a && not b) ≡ false
not_rest true true h = refl
not_rest false true h = refl
not_rest a false h = cc

pub pending_is : (sets : List (List Run)) (v : ℕ) (own : List Run) → 1 ≤ v → v ≤ length sets → own ≡ get_or sets (v - 1) own → (t : ℕ)
    → is_pending sets v t ≡ any_has own t
pending_is sets v own low high is t = ap (λ o. set_has o t) (number_read sets v own low high) ∙ ap (λ w. any_has w t) (sym is)

set_is : (sets : List (List Run)) (v : ℕ) (own : List Run) → 1 ≤ v → v ≤ length sets → (t : ℕ)
    → is_pending (set sets (v - 1) own) v t ≡ any_has own t
set_is sets v own low high t = ap (λ o. set_has o t) (number_set sets v own low high)

-- more minutes are pending at one node
pub awaited : (sets : List (List Run)) (h : ℕ) (own new : List Run) (more : ℕ → Bool) → 1 ≤ h → h ≤ length sets → own ≡ get_or sets (h - 1) own
    → ((t : ℕ) → any_has new t ≡ (any_has own t || more t)) → IsAwaited h more (is_pending sets) (is_pending (set sets (h - 1) new))
awaited sets h own new more low high is added = record {
  here = λ t. set_is sets h new low high t ∙ added t ∙ ap (λ b. b || more t) (sym (pending_is sets h own low high is t));
  others = λ v t ne. ap (λ o. set_has o t) (number_set_other sets h v new low high ne);
}

-- all that is pending is taken, and nothing is left
pub split_whole : (sets : List (List Run)) (v first : ℕ) (own taken rest : List Run) → 1 ≤ v → v ≤ length sets → own ≡ get_or sets (v - 1) own
    → is_pending sets v first ≡ true → taken ≡ own → rest ≡ []
    → IsSplit v (any_has taken) None (is_pending sets) (is_pending (set sets (v - 1) rest))
split_whole sets v first own taken rest low high is begins took empty = record {
  others = λ u t ne. ap (λ o. set_has o t) (number_set_other sets v u rest low high ne);
  pending = λ t there. inr (ap (λ (w : List Run). any_has w t) took ∙ (sym (pending_is sets v own low high is t) ∙ there));
  less = λ t there. let bad : true ≡ false = sym there ∙ none t in cc;
  some = (first, begins, none first);
  left = tt;
  none = λ nothing t. none t;
}
  where
    none : (t : ℕ) → is_pending (set sets (v - 1) rest) v t ≡ false
    none t = set_is sets v rest low high t ∙ ap (λ (w : List Run). any_has w t) empty

pub split_is : (sets : List (List Run)) (v first last : ℕ) (own taken rest : List Run) (next : Option ℕ) → 1 ≤ v → v ≤ length sets
    → own ≡ get_or sets (v - 1) own
    → is_pending sets v first ≡ true → first < last
    → ((t : ℕ) → any_has taken t ≡ (any_has own t && nat_lt t last)) → ((t : ℕ) → any_has rest t ≡ (any_has own t && not (nat_lt t last)))
    → IfSome next (λ t. any_has rest t ≡ true) → (IsNone next → (t : ℕ) → any_has rest t ≡ false)
    → IsSplit v (any_has taken) next (is_pending sets) (is_pending (set sets (v - 1) rest))
split_is sets v first last own taken rest next low high is begins le took left some none = record {
  others = λ u t ne. ap (λ o. set_has o t) (number_set_other sets v u rest low high ne);
  pending = λ t there. ⊎_elim
      (λ (stays : (any_has own t && not (nat_lt t last)) ≡ true). inl (now t ∙ left t ∙ stays))
      (λ (goes : (any_has own t && nat_lt t last) ≡ true). inr (took t ∙ goes))
      (part_or_rest (any_has own t) (nat_lt t last) (sym (was t) ∙ there));
  less = λ t there. was t ∙ (and_parts (any_has own t) (not (nat_lt t last)) (sym (left t) ∙ (sym (now t) ∙ there))).0;
  some = (first, begins, now first ∙ left first ∙ not_rest (any_has own first) (nat_lt first last) (lt-ltb first last le));
  left = by_some next some;
  none = λ empty t. now t ∙ none empty t;
}
  where
    was : (t : ℕ) → is_pending sets v t ≡ any_has own t
    was t = pending_is sets v own low high is t

    now : (t : ℕ) → is_pending (set sets (v - 1) rest) v t ≡ any_has rest t
    now t = set_is sets v rest low high t

    by_some : (o : Option ℕ) → IfSome o (λ t. any_has rest t ≡ true) → IfSome o (λ t. is_pending (set sets (v - 1) rest) v t ≡ true)
    by_some None h = h
    by_some (Some t) h = now t ∙ h

cut_some : (b : Bool) (o : Option ℕ) (x : ℕ) → (if b then o else None) ≡ Some x → o ≡ Some x
cut_some true o x h = h
cut_some false o x h = cc

some_cut : (b : Bool) (o : Option ℕ) (x : ℕ) → b ≡ true → o ≡ Some x → (if b then o else None) ≡ Some x
some_cut true o x b h = h
some_cut false o x b h = cc

pub parts_are : (k : Task) (v : ℕ) (b : Bound) (borders : List Pair) (taken : ℕ → Bool) (next : Option ℕ) (whole part : ℕ → Option ℕ) (old new : Progress)
    → k.bounds v ≡ Some b → ((u t : ℕ) → new.cost u t ≡ old.cost u t) → new.pairs ≡ old.pairs → AreBorders old.pairs borders
    → IsSplit v taken next old.pending new.pending
    → ((t : ℕ) → whole t ≡ (if taken t then old.cost v t else None)) → IsPruned k.request.until borders b whole part → TakesPart k v part old new
parts_are k v b borders taken next whole part old new bound same pairs are split cuts prunes = record {
  cost = same;
  pairs = pairs;
  within = λ t x is. cut_some (taken t) (old.cost v t) x (sym (cuts t) ∙ prunes.kept t x is);
  pending = λ u t is. ⊎_elim
      (λ (here : u ≡ v). ⊎_elim
      (λ (stays : new.pending v t ≡ true). inl (subst (λ w. new.pending w t ≡ true) (sym here) stays))
      (λ (goes : taken t ≡ true). inr (
        here,
        λ x there. ⊎_elim
            (λ (i : part t ≡ Some x). inl i)
            (λ (e : IsDominatedOrLate k.request.until borders (Some b) (point v t x)).
            inr (subst (λ o. IsWorseOrLate k.request.until old.pairs o (point v t x)) (sym bound)
            (worse_by_borders k.request.until old.pairs borders b (point v t x) are e)))
            (prunes.left (point v t x) (cuts t ∙ some_cut (taken t) (old.cost v t) x goes there)),
      ))
      (split.pending t (subst (λ w. old.pending w t ≡ true) here is)))
      (λ (other : u ≡ v → ⊥). inl (split.others u t other ∙ is))
      (cases_eq u v);
  less = λ u t is. ⊎_elim
      (λ (here : u ≡ v). subst (λ w. old.pending w t ≡ true) (sym here) (split.less t (subst (λ w. new.pending w t ≡ true) here is)))
      (λ (other : u ≡ v → ⊥). sym (split.others u t other) ∙ is)
      (cases_eq u v);
  some = split.some;
}

-- node v gets a key, and each other node has the one that it had
module _ (keys new_keys : List (Option ℕ)) where
  pub key_put : (v put u : ℕ) → IsSet keys new_keys v (Some put) → ((u ≡ v → ⊥) → (key : ℕ) × (key_at keys u ≡ Some key))
      → (key : ℕ) × (key_at new_keys u ≡ Some key)
  key_put v put u is_put had = ⊎_elim
      (λ (here : u ≡ v). (put, ap (key_at new_keys) here ∙ is_put.here))
      (λ (other : u ≡ v → ⊥). let q = had other in (q.0, is_put.others u other ∙ q.1))
      (cases_eq u v)

  -- a node with a key has pending minutes, if node v has some
  pub pending_put : (old new : ℕ → ℕ → Bool) (v put u key : ℕ) → IsSet keys new_keys v (Some put) → ((w t : ℕ) → (w ≡ v → ⊥) → new w t ≡ old w t)
      → (t : ℕ) × (new v t ≡ true) → ((w k : ℕ) → key_at keys w ≡ Some k → (t : ℕ) × (old w t ≡ true)) → key_at new_keys u ≡ Some key
      → (t : ℕ) × (new u t ≡ true)
  pending_put old new v put u key is_put others some waiting is = ⊎_elim
      (λ (here : u ≡ v). (some.0, subst (λ w. new w some.0 ≡ true) (sym here) some.1))
      (λ (other : u ≡ v → ⊥). let w = waiting u key (sym (is_put.others u other) ∙ is) in (w.0, others u w.0 other ∙ w.1))
      (cases_eq u v)

-- the queue after a part was taken from what is pending at node v
module _ (v : ℕ) (taken : ℕ → Bool) (old new : ℕ → ℕ → Bool) (keys new_keys : List (Option ℕ)) where
  pub queued_again : (next : Option ℕ) → IsSplit v taken next old new → IsRequeued v next keys new_keys
      → ((u t : ℕ) → old u t ≡ true → (u ≡ v → ⊥) → (key : ℕ) × (key_at keys u ≡ Some key))
      → (u t : ℕ) → new u t ≡ true → (key : ℕ) × (key_at new_keys u ≡ Some key)
  queued_again None cut same queued u t is = ⊎_elim
      (λ (here : u ≡ v). let bad : false ≡ true = sym (cut.none refl t) ∙ subst (λ w. new w t ≡ true) here is in cc)
      (λ (other : u ≡ v → ⊥). let q = queued u t (sym (cut.others u t other) ∙ is) other in (q.0, ap (λ w. key_at w u) same ∙ q.1))
      (cases_eq u v)
  queued_again (Some first) cut put queued u t is =
      key_put keys new_keys v put.0 u put.1 (λ other. queued u t (sym (cut.others u t other) ∙ is) other)

  pub waiting_again : (next : Option ℕ) → IsSplit v taken next old new → IsRequeued v next keys new_keys → key_at keys v ≡ None
      → ((u key : ℕ) → key_at keys u ≡ Some key → (t : ℕ) × (old u t ≡ true)) → (u key : ℕ) → key_at new_keys u ≡ Some key → (t : ℕ) × (new u t ≡ true)
  waiting_again None cut same absent waiting u key is = ⊎_elim
      (λ (here : u ≡ v). let bad : None ≡ Some key = sym absent ∙ (ap (key_at keys) (sym here) ∙ (ap (λ w. key_at w u) (sym same) ∙ is)) in cc)
      (λ (other : u ≡ v → ⊥). let w = waiting u key (ap (λ w. key_at w u) (sym same) ∙ is) in (w.0, cut.others u w.0 other ∙ w.1))
      (cases_eq u v)
  waiting_again (Some first) cut put absent waiting u key is =
      pending_put keys new_keys old new v put.0 u key put.1 cut.others (first, cut.left) waiting is

  pub room_again : (next : Option ℕ) → IsRequeued v next keys new_keys → length new_keys ≡ length keys
  room_again None same = ap (λ (w : List (Option ℕ)). length w) same
  room_again (Some first) put = put.1.room

pub shaped_again : (nodes v : ℕ) (taken : ℕ → Bool) (next : Option ℕ) (old new : ProgressHeld) → IsShaped nodes v old → key_at old.queue v ≡ None
    → IsSplit v taken next (is_pending old.pending.items) (is_pending new.pending.items) → IsRequeued v next old.queue new.queue
    → new.functions ≡ old.functions → length new.pending.items ≡ length old.pending.items → AreBorders new.pairs.items new.borders.items
    → IsShaped nodes 0 new
shaped_again nodes v taken next old new shape absent split requeued functions pending are = record {
  functions = ap (λ w. length w.items) functions ∙ shape.functions;
  built = subst (λ w. All AreBuilt w.items) (sym functions) shape.built;
  pending = pending ∙ shape.pending;
  queue = room_again v taken (is_pending old.pending.items) (is_pending new.pending.items) old.queue new.queue next requeued ∙ shape.queue;
  queued = λ u t is work. queued_again v taken (is_pending old.pending.items) (is_pending new.pending.items) old.queue new.queue
      next split requeued shape.queued u t is;
  waiting = waiting_again v taken (is_pending old.pending.items) (is_pending new.pending.items) old.queue new.queue
      next split requeued absent shape.waiting;
  borders = are;
}

-- a node with more pending minutes is in the queue
pub shaped_awaited : (nodes h : ℕ) (more : ℕ → Bool) (old new : ProgressHeld) → IsShaped nodes 0 old → length new.functions.items ≡ length old.functions.items
    → All AreBuilt new.functions.items
    → length new.pending.items ≡ length old.pending.items → IsAwaited h more (is_pending old.pending.items) (is_pending new.pending.items)
    → (key : ℕ) × IsSet old.queue new.queue h (Some key) → (t : ℕ) × (more t ≡ true)
    → AreBorders new.pairs.items new.borders.items → IsShaped nodes 0 new
shaped_awaited nodes h more old new shape functions built pending awaits queue some are = record {
  functions = functions ∙ shape.functions;
  built = built;
  pending = pending ∙ shape.pending;
  queue = queue.1.room ∙ shape.queue;
  queued = λ u t is work. key_put old.queue new.queue h queue.0 u queue.1 (λ other. shape.queued u t (sym (awaits.others u t other) ∙ is) work);
  waiting = λ u key is. pending_put old.queue new.queue (is_pending old.pending.items) (is_pending new.pending.items) h queue.0 u key queue.1 awaits.others
      (some.0, awaits.here some.0 ∙ or_right (is_pending old.pending.items h some.0) (more some.0) some.1) shape.waiting is;
  borders = are;
}
