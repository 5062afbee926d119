use Rattle.std.proofs.Common.{◌≡◌, List, ℕ, drop, length, get_or, ap, sym, ◌∙◌, subst, arith}
use Rattle.std.proofs.lemmas.List.{take_at}
use Rattle.drive_states.specs.Inside.BitRows.{TakesLater}
use Rattle.drive_states.proofs.BitWords.{takes_later}
use Rattle.drive_states.proofs.bits.add_later.Goals as goal

pub returns : goal.returns
returns c =
    let whole : length c.join_words.new.row ≡ c.lengthen.new.row.len = omega (arith, c.join_words.auto.row, c.deref_mut.ensures.len) in
    subst (λ (w : List ℕ). TakesLater c.args.row.now.items w c.args.from.now c.args.by c.args.most c.join_words.result)
    (sym (take_at c.join_words.new.row (drop (length c.join_words.new.row) c.lengthen.new.row.items) c.lengthen.new.row.len whole))
    (takes_later c.args.row.now.items c.deref_mut.result.now c.join_words.new.row c.args.from.now c.args.by c.args.most c.join_words.result
    (λ k. ap (λ (w : List ℕ). get_or w k 0) c.deref_mut.ensures.value ∙ c.lengthen.ensures.same k) c.join_words.ensures.bits c.join_words.ensures.count)
