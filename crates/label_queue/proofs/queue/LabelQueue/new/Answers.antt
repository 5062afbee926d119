use Rattle.std.proofs.Common.{◌≡◌, Option, List, ℕ, None, replicate, refl, arith, rules}
use Rattle.label_queue.specs.declared.heap.Heap.{Heap}
use Rattle.label_queue.proofs.Viewing.{empty_heap, none_is}
use Rattle.label_queue.proofs.queue.LabelQueue.new.Goals as goal

pub invariant_of-result : goal.invariant_of-result
invariant_of-result c =
    let e : ◌≡◌ {A = List (Option ℕ)} c.in_ok-vec.field-0.items (replicate c.args.n None) = search rules in
    empty_heap _ c.args.n refl (search rules) (omega (arith, c.ranges)) e

pub returns-clause-empty : goal.returns-clause-empty
returns-clause-empty c v =
    let e : ◌≡◌ {A = List (Option ℕ)} c.in_ok-vec.field-0.items (replicate c.args.n None) = search rules in
    let heap : Heap = record { count = 0; labels = c.in_ok-with_capacity.field-0; places = c.in_ok-vec.field-0 } in
    none_is heap (empty_heap heap c.args.n refl (search rules) (omega (arith, c.ranges)) e) refl v
