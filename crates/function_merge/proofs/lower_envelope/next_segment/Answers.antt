use Rattle.std.proofs.Common.{◌∙◌, refl, arith}
use Rattle.function_merge.proofs.FirstPieces.{first_of, first_is, first_none, no_pieces}
use Rattle.function_merge.proofs.Nexts.{least_none, next_in_first, next_in_second, next_in_both}
use Rattle.function_merge.specs.declared.lower_envelope.Segment.TheVariants.{Kept, Improved}
use Rattle.function_merge.proofs.lower_envelope.next_segment.Goals as goal

pub returns-in_default-g-clause-none_least : goal.returns-in_default-g-clause-none_least
returns-in_default-g-clause-none_least c = λ same t from. least_none c.args.f.now c.args.g.now t
    (no_pieces c.args.f.now t (omega (arith, c.in_default.len_below))) (no_pieces c.args.g.now t (omega (arith, c.in_default-g.len_below)))

pub returns-in_default-clause-some : goal.returns-in_default-clause-some
returns-in_default-clause-some c =
    let f = c.args.f.now in
    let g = c.args.g.now in
    let e = c.part.ensures in
    let some = c.in-len1-up-g.len_at_least in
    let filled = (first_is g some c.requires.second.pieces).filled in
    let reaches = c.requires.second.reach 0 (first_of g) (omega (arith, some)) in
    next_in_second f g c.args.from (Improved c.part.result) (omega (arith, e.lo, e.hi, c.max.ensures, filled, reaches)) e.small some c.requires.second.pieces
    (e.lo ∙ c.max.ensures) (omega (arith, e.hi)) (λ t late. e.line t (omega (arith, late, e.lo)))
    (λ t late upto. no_pieces f t (omega (arith, c.in_default.len_below))) refl

pub returns-in_default-g-2-clause-some : goal.returns-in_default-g-2-clause-some
returns-in_default-g-2-clause-some c =
    let f = c.args.f.now in
    let g = c.args.g.now in
    let e = c.part-in_default-g-2.ensures in
    let some = c.in-len1-up.len_at_least in
    let filled = (first_is f some c.requires.first.pieces).filled in
    let reaches = c.requires.first.reach 0 (first_of f) (omega (arith, some)) in
    next_in_first f g c.args.from (Kept c.part-in_default-g-2.result) (omega (arith, e.lo, e.hi, c.max-p_lo.ensures, filled, reaches)) e.small some
    c.requires.first.pieces
    (e.lo ∙ c.max-p_lo.ensures) (omega (arith, e.hi)) (λ t late. e.line t (omega (arith, late, e.lo)))
    (λ t late upto. no_pieces g t (omega (arith, c.in_default-g-2.len_below))) refl

pub returns-then-p_lo-q_lo-clause-some : goal.returns-then-p_lo-q_lo-clause-some
returns-then-p_lo-q_lo-clause-some c =
    let f = c.args.f.now in
    let g = c.args.g.now in
    let e = c.part-then-p_lo-q_lo.ensures in
    let some = c.in-len1-up.len_at_least in
    let filled = (first_is f some c.requires.first.pieces).filled in
    let reaches = c.requires.first.reach 0 (first_of f) (omega (arith, some)) in
    let hi = e.hi ∙ c.min.ensures in
    let first = c.if-p_lo-q_lo.true in
    next_in_first f g c.args.from (Kept c.part-then-p_lo-q_lo.result) (omega (arith, e.lo, hi, c.max-p_lo.ensures, first, filled, reaches)) e.small some
    c.requires.first.pieces (e.lo ∙ c.max-p_lo.ensures) (omega (arith, hi)) (λ t late. e.line t (omega (arith, late, e.lo)))
    (λ t late upto. first_none g c.in-len1-up-g-2.len_at_least c.requires.second.pieces t (omega (arith, late, upto, hi, c.max-q_lo.ensures, first))) refl

pub returns-then-q_lo-p_lo-clause-some : goal.returns-then-q_lo-p_lo-clause-some
returns-then-q_lo-p_lo-clause-some c =
    let f = c.args.f.now in
    let g = c.args.g.now in
    let e = c.part-then-q_lo-p_lo.ensures in
    let some = c.in-len1-up-g-2.len_at_least in
    let filled = (first_is g some c.requires.second.pieces).filled in
    let reaches = c.requires.second.reach 0 (first_of g) (omega (arith, some)) in
    let hi = e.hi ∙ c.min-then-q_lo-p_lo.ensures in
    let first = c.if-q_lo-p_lo.true in
    let own = c.max-q_lo.ensures in
    next_in_second f g c.args.from (Improved c.part-then-q_lo-p_lo.result) (omega (arith, e.lo, hi, own, first, filled, reaches)) e.small some
    c.requires.second.pieces (e.lo ∙ own) (omega (arith, hi)) (λ t late. e.line t (omega (arith, late, e.lo)))
    (λ t late upto. first_none f c.in-len1-up.len_at_least c.requires.first.pieces t (omega (arith, late, upto, hi, c.max-p_lo.ensures, first))) refl

pub returns-else-q_lo-p_lo-clause-some : goal.returns-else-q_lo-p_lo-clause-some
returns-else-q_lo-p_lo-clause-some c =
    let f = c.args.f.now in
    let g = c.args.g.now in
    let e = c.lesser.ensures in
    next_in_both f g c.args.from c.lesser.result (omega (arith, e.lo, e.filled)) e.small
    c.in-len1-up.len_at_least c.in-len1-up-g-2.len_at_least c.requires.first.pieces c.requires.second.pieces
    (e.lo ∙ c.max-p_lo.ensures) (omega (arith, e.lo, c.max-q_lo.ensures, c.if-p_lo-q_lo.false, c.if-q_lo-p_lo.false)) e.first_end e.second_end
    (λ t late upto. e.line t (omega (arith, late, e.lo)) upto)
    (λ t late upto. e.better t (omega (arith, late, e.lo)) upto)
