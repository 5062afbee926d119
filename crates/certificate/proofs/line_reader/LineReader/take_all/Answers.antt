use Rattle.std.proofs.Common.{◌≡◌, sym, subst}
use Rattle.certificate.specs.Inside.Reading.{first_line, items_in, AreTaken}
use Rattle.certificate.proofs.CutLines.{first_shorter}
use Rattle.certificate.proofs.Items.{taken_more, taken_all}
use Rattle.certificate.proofs.line_reader.LineReader.take_all.Goals as goal

pub lines-preserved : goal.lines-preserved
lines-preserved g c =
    let read = g.K.LineKind.reading c.args.kind.now in
    let more = taken_more (first_line read) c.args.self.now c.lines.items.items c.lines.self
    c.in-Some.item c.take.new.self c.lines.invariant c.in-Some.ensures.some
    (first_shorter read c.lines.self c.in-Some.item c.take.new.self c.in-Some.ensures.some) in
    subst (λ items. AreTaken (first_line read) c.args.self.now items c.take.new.self) (sym c.in_ok-push.ensures.items) more

pub returns : goal.returns
returns g c =
    let read = g.K.LineKind.reading c.args.kind.now in
    subst (λ lines. (c.lines.items.items, lines) ≡ items_in (first_line read) c.args.self.now) (sym c.in_default.ensures.kept)
    (taken_all (first_line read) c.args.self.now c.lines.items.items c.lines.self c.lines.invariant c.in_default.ensures.none)
