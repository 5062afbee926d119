use Rattle.std.proofs.Common.{◌≡◌, ℕ, Option, Some, None, IfSome, IsNone, refl, sym, subst}
use Rattle.std.specs.Vec.{with_item}
use Rattle.label_queue.specs.Keys.{key_at}
use Rattle.label_queue.proofs.Entries.{takes_entry}
use Rattle.label_queue.proofs.ring.Ring.take_entry.Goals as goal

if_some : (o : Option ℕ) (P : ℕ → Type 0) → IfSome o P → (v : ℕ) → o ≡ Some v → P v
if_some None P has v is = cc
if_some (Some w) P has v is = let e : w ≡ v = cc in subst P e has

pub returns : goal.returns
returns c =
    let old = c.args.self.now in
    let after = c.take_counting.new.bucket in
    takes_entry old (record { buckets = with_item old.buckets old.place after; place = old.place; floor = old.floor }) c.index_mut-bucket.result.now after
    c.args.keys.now c.take_counting.result c.requires.place c.index_mut-bucket.ensures.value refl refl refl
    (if_some c.take_counting.result (λ v. key_at c.args.keys.now v ≡ Some old.floor) c.take_counting.ensures.some)
    (λ none. c.take_counting.ensures.none (subst (λ (o : Option ℕ). IsNone o) (sym none) refl)) c.take_counting.ensures.kept
