use Rattle.std.proofs.Common.{◌||◌, Bool, drop, ap, sym, ◌∙◌, arith, suc, add-one}
use Rattle.csv.specs.Records.{fields_of}
use Rattle.table_reader.specs.Records.{headers_of}
use Rattle.table_reader.specs.Schema.{is_header}
use Rattle.table_reader.proofs.HeaderLists.{same_record, header-next, header-there, none_left}
use Rattle.table_reader.proofs.table.header_among.Goals as goal

pub returns-then-has_fields-clause-same : goal.returns-then-has_fields-clause-same
returns-then-has_fields-clause-same c = sym (same_record _ _ (sym c.has_fields.ensures ∙ c.if-has_fields.true))

pub returns-then-has_fields-clause-known : goal.returns-then-has_fields-clause-known
returns-then-has_fields-clause-known c = header-there c.args.headers.now c.loop-i.i _ c.loop-i-test.true

pub returns-then-has_fields-clause-found : goal.returns-then-has_fields-clause-found
returns-then-has_fields-clause-found c =
    let rest = is_header (headers_of (drop (suc c.loop-i.i) c.args.headers.now)) (fields_of c.args.first.now) in
    sym c.loop-i.invariant
    ∙ header-next c.args.headers.now (fields_of c.args.first.now) c.loop-i.i _ c.loop-i-test.true
    ∙ ap (λ (b : Bool). b || rest) (sym c.has_fields.ensures ∙ c.if-has_fields.true)

pub loop-i-preserved : goal.loop-i-preserved
loop-i-preserved c =
    let first = fields_of c.args.first.now in
    let rest = is_header (headers_of (drop (suc c.loop-i.i) c.args.headers.now)) first in
    ap (λ n. is_header (headers_of (drop n c.args.headers.now)) first) (add-one c.loop-i.i)
    ∙ sym (ap (λ (b : Bool). b || rest) (sym c.has_fields.ensures ∙ c.if-has_fields.false))
    ∙ sym (header-next c.args.headers.now first c.loop-i.i _ c.loop-i-test.true)
    ∙ c.loop-i.invariant

pub returns-clause-found : goal.returns-clause-found
returns-clause-found c = sym c.loop-i.invariant
    ∙ none_left c.args.headers.now (fields_of c.args.first.now) c.loop-i.i (λ less. absurd (omega (arith, less, c.loop-i-test.false)))
