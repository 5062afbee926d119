use Rattle.std.proofs.Common.{◌≡◌, List, Option, ℕ, None, Some, ap, sym, ◌∙◌, subst, arith}
use Rattle.std.specs.Option.{option_map}
use Rattle.std.proofs.lemmas.List.{get_or_default}
use Rattle.label_queue.specs.Keys.{key_at}
use Rattle.label_queue.specs.Inside.Heaps.{label_at, place_of}
use Rattle.label_queue.specs.declared.heap.Label.{Label}
use Rattle.label_queue.proofs.Places.{key_read}
use Rattle.label_queue.proofs.Viewing.{key_is, key_outside, key_there}
use Rattle.label_queue.proofs.queue.LabelQueue.key_of.Goals as goal
use Rattle.label_queue.proofs.queue.LabelQueue.key_of.Goals.{then-v-eq0-via-then-v-eq0, then-v-eq0-via-else-v-eq0+then-v-len}

pub returns-then-v-eq0 : goal.returns-then-v-eq0
returns-then-v-eq0 c = sym (subst (λ (w : List (Option ℕ)). key_at w c.args.v.0 ≡ None) c.self.view_is
    (key_outside c.self.inside.heap c.args.v.0 (λ own. elim c.then-v-eq0.branch [
      | then-v-eq0-via-then-v-eq0 w ↦ omega (arith, own.0, w.if-v-eq0.true)
      | then-v-eq0-via-else-v-eq0+then-v-len w ↦ omega (arith, own.1, w.if-v-len.true, w.len.ensures)
    ])))

pub returns-in_err-place : goal.returns-in_err-place
returns-in_err-place c =
    let heap = c.self.inside.heap in
    let v = c.args.v.0 in
    let place : place_of heap v ≡ None = key_read heap.places.items v c.index.result.now (omega (arith, c.if-v-eq0.false))
    (omega (arith, c.if-v-len.false, c.len.ensures)) ∙ (sym c.index.ensures ∙ c.in_err-place.was) in
    subst (λ (w : List (Option ℕ)). c.from_residual.result ≡ key_at w v) c.self.view_is
    (c.from_residual.ensures ∙ sym (key_is heap v ∙ ap (option_map (λ i. (label_at heap i).key)) place))

pub index-requires-2 : goal.index-requires-2
index-requires-2 c =
    let heap = c.self.inside.heap in
    let v = c.args.v.0 in
    let place : place_of heap v ≡ Some c.in_ok-place.place = key_read heap.places.items v c.index.result.now (omega (arith, c.if-v-eq0.false))
    (omega (arith, c.if-v-len.false, c.len.ensures)) ∙ (sym c.index.ensures ∙ c.in_ok-place.was) in
    omega (arith, (c.self.invariant.labelled v c.in_ok-place.place place).0, c.self.invariant.within)

pub returns : goal.returns
returns c =
    let heap = c.self.inside.heap in
    let v = c.args.v.0 in
    let place : place_of heap v ≡ Some c.in_ok-place.place = key_read heap.places.items v c.index.result.now (omega (arith, c.if-v-eq0.false))
    (omega (arith, c.if-v-len.false, c.len.ensures)) ∙ (sym c.index.ensures ∙ c.in_ok-place.was) in
    let there : c.index-2.result.now ≡ label_at heap c.in_ok-place.place = c.index-2.ensures
    ∙ get_or_default heap.labels.items c.in_ok-place.place c.index-2.result.now (record { key = 0; node = 0 })
    (omega (arith, (c.self.invariant.labelled v c.in_ok-place.place place).0, c.self.invariant.within)) in
    subst (λ (w : List (Option ℕ)). Some c.index-2.result.now.key ≡ key_at w v) c.self.view_is
    (ap (λ (l : Label). Some l.key) there ∙ sym (key_is heap v ∙ key_there heap v c.in_ok-place.place place))
