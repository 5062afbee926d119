use Rattle.std.proofs.Common.{⊎_elim, ◌<◌, ◌≤◌, ◌∙◌, refl, sym, arith}
use Rattle.std.proofs.lemmas.Bool.{cases_lt}
use Rattle.std.proofs.lemmas.Option.{IfSome_then}
use Rattle.function_merge.proofs.FirstPieces.{first_of, begin_all, no_pieces}
use Rattle.function_merge.proofs.Nexts.{better_none, better_same, none_until}
use Rattle.function_merge.proofs.merging.first_better.Goals as goal

pub better_from-requires-clause-first : goal.better_from-requires-clause-first
better_from-requires-clause-first c =
    let left = c.find_pieces.ensures in
    record { pieces = left.pieces; small = left.small c.requires.first_small; reach = left.reach }

pub better_from-requires-clause-second : goal.better_from-requires-clause-second
better_from-requires-clause-second c = record {
  pieces = c.requires.second;
  small = c.requires.second_small;
  reach = λ k d within.
      (let begin = begin_all c.args.g.now c.in-len1-up.len_at_least c.requires.second k d within in
      let filled = (c.requires.second.each k d within).filled in
      omega (arith, begin, filled));
}

pub returns-in-empty-clause-none : goal.returns-in-empty-clause-none
returns-in-empty-clause-none c = λ same t. better_none c.args.f.now c.args.g.now t (no_pieces c.args.g.now t (omega (arith, c.in-empty.len_below)))

pub returns-in-len1-up-clause-worse : goal.returns-in-len1-up-clause-worse
returns-in-len1-up-clause-worse c =
    let g = c.args.g.now in
    IfSome_then c.better_from.result c.better_from.ensures.worse (λ first worse t early.
    ⊎_elim
    (λ (before : t < (first_of g).lo). better_none c.args.f.now g t
    (none_until g (first_of g).lo t (begin_all g c.in-len1-up.len_at_least c.requires.second) before))
    (λ (late : (first_of g).lo ≤ t). sym (better_same c.find_pieces.result.now g c.args.f.now g t (c.find_pieces.ensures.values t late) refl)
    ∙ worse t late early)
    (cases_lt t (first_of g).lo))

pub returns-in-len1-up-clause-none : goal.returns-in-len1-up-clause-none
returns-in-len1-up-clause-none c = λ same t.
    let g = c.args.g.now in
    ⊎_elim
    (λ (before : t < (first_of g).lo). better_none c.args.f.now g t
    (none_until g (first_of g).lo t (begin_all g c.in-len1-up.len_at_least c.requires.second) before))
    (λ (late : (first_of g).lo ≤ t). sym (better_same c.find_pieces.result.now g c.args.f.now g t (c.find_pieces.ensures.values t late) refl)
    ∙ c.better_from.ensures.none same t late)
    (cases_lt t (first_of g).lo)
