use Rattle.std.proofs.Common.{inl, inr, ◌<◌, ◌∷◌, [], ℕ, List, refl, sym, ◌∙◌, subst, arith}
use Rattle.std.specs.Prelude.{Vec}
use Rattle.std.specs.List.{Contains}
use Rattle.std.specs.Vec.{with_item}
use Rattle.std.specs.declared.alloc.Global.{Global}
use Rattle.std.proofs.lemmas.List.Elements.{Contains-append_left, Contains-push}
use Rattle.label_queue.specs.Inside.Rings.{span_of, IsSlot}
use Rattle.label_queue.specs.declared.ring.Ring.{Ring}
use Rattle.label_queue.proofs.Entries.{bucket_read, entries_kept, entry_here}
use Rattle.label_queue.proofs.ring.Ring.add.Goals as goal
use Rattle.label_queue.proofs.ring.Ring.add.Goals.{then-ahead-rest, else-ahead-rest}

-- the ring with another bucket at a place
abbrev with_bucket : Ring → ℕ → Vec ℕ Global → Ring
with_bucket ring slot bucket = record { buckets = with_item ring.buckets slot bucket; place = ring.place; floor = ring.floor }

pub returns-in_err-push-clause-kept : goal.returns-in_err-push-clause-kept
returns-in_err-push-clause-kept c =
    let old = c.args.self.now in
    let slot = c.if-ahead-rest.slot in
    let below : slot < span_of old = elim c.if-ahead-rest.branch [ then-ahead-rest w ↦ omega arith | else-ahead-rest w ↦ omega arith ] in
    entries_kept old (with_bucket old slot c.push.new.self) slot c.push.new.self below refl refl refl
    (λ v has. subst (λ (w : List ℕ). Contains w v)
    (bucket_read old slot c.index_mut-bucket.result.now below c.index_mut-bucket.ensures.value ∙ sym c.in_err-push.ensures.items) has)

pub returns-clause-kept : goal.returns-clause-kept
returns-clause-kept c =
    let old = c.args.self.now in
    let slot = c.if-ahead-rest.slot in
    let below : slot < span_of old = elim c.if-ahead-rest.branch [ then-ahead-rest w ↦ omega arith | else-ahead-rest w ↦ omega arith ] in
    let bucket = c.index_mut-bucket.result.now in
    entries_kept old (with_bucket old slot c.push.new.self) slot c.push.new.self below refl refl refl
    (λ v has. subst (λ (w : List ℕ). Contains w v) (sym c.in_ok-push.ensures.items)
    (Contains-append_left bucket.items (c.args.v.0 ∷ []) v
    (subst (λ (w : List ℕ). Contains w v) (bucket_read old slot bucket below c.index_mut-bucket.ensures.value) has)))

pub returns-clause-added : goal.returns-clause-added
returns-clause-added c =
    let old = c.args.self.now in
    let slot = c.if-ahead-rest.slot in
    let below : slot < span_of old = elim c.if-ahead-rest.branch [ then-ahead-rest w ↦ omega arith | else-ahead-rest w ↦ omega arith ] in
    let is : IsSlot old c.args.key slot = elim c.if-ahead-rest.branch [ then-ahead-rest w ↦ inl (omega arith) | else-ahead-rest w ↦ inr (omega arith) ] in
    entry_here old (with_bucket old slot c.push.new.self) slot c.push.new.self below refl refl refl c.args.v.0 c.args.key is
    (subst (λ (w : List ℕ). Contains w c.args.v.0) (sym c.in_ok-push.ensures.items) (Contains-push c.index_mut-bucket.result.now.items c.args.v.0))
