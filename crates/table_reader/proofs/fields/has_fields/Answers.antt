use Rattle.std.proofs.Common.{◌&&◌, drop, map, ap, sym, ◌∙◌, arith, suc, add-one}
use Rattle.csv.specs.Records.{fields_of}
use Rattle.table_reader.specs.Records.{record_eq}
use Rattle.table_reader.proofs.FieldLists.{words-next, not_true, not_false}
use Rattle.table_reader.proofs.fields.has_fields.Goals as goal

pub returns-then-ne : goal.returns-then-ne
returns-then-ne c =
    let next = words-next (fields_of c.args.row.now) c.args.words.now c.loop-i.i _ _ _ c.field.ensures (omega arith) c.as_bytes.ensures.value in
    let differ = not_true _ c.if-ne.ensures in
    sym (ap (λ b. b && record_eq (drop (suc c.loop-i.i) (fields_of c.args.row.now))
    (drop (suc c.loop-i.i) (map (λ w. w.now) c.args.words.now))) differ) ∙ sym next ∙ c.loop-i.invariant

pub loop-i-preserved : goal.loop-i-preserved
loop-i-preserved c =
    let next = words-next (fields_of c.args.row.now) c.args.words.now c.loop-i.i _ _ _ c.field.ensures (omega arith) c.as_bytes.ensures.value in
    let agree = not_false _ c.if-ne.ensures in
    ap (λ n. record_eq (drop n (fields_of c.args.row.now)) (drop n (map (λ w. w.now) c.args.words.now))) (add-one c.loop-i.i)
    ∙ sym (ap (λ b. b && record_eq (drop (suc c.loop-i.i) (fields_of c.args.row.now))
    (drop (suc c.loop-i.i) (map (λ w. w.now) c.args.words.now))) agree) ∙ sym next ∙ c.loop-i.invariant
