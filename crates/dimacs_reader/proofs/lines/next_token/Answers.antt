use Rattle.std.proofs.Common.{◌≡◌, ◌∙◌, ◌-◌, ◌∷◌, refl, ap, length, take, drop, rules}
use Rattle.std.specs.Option.{unwrap_or}
use Rattle.dimacs_reader.specs.Lines.{tokens_of}
use Rattle.dimacs_reader.proofs.Tokens.{no_token, end_within, token_cut}
use Rattle.dimacs_reader.proofs.lines.next_token.Goals as goal

pub returns-in_err-line-clause-none : goal.returns-in_err-line-clause-none
returns-in_err-line-clause-none c = let none = no_token c.args.line.now c.in_err-line.ensures in search rules

pub split_at-requires : goal.split_at-requires
split_at-requires c =
    let part = take (length c.args.line.now - c.in_ok-line.field-0) (drop c.in_ok-line.field-0 c.args.line.now) in
    end_within part c.unwrap_or-end.result (c.unwrap_or-end.ensures ∙ ap (λ o. unwrap_or o (length part)) c.place_of_blank.ensures)

pub returns-clause-cut : goal.returns-clause-cut
returns-clause-cut c =
    let part = take (length c.args.line.now - c.in_ok-line.field-0) (drop c.in_ok-line.field-0 c.args.line.now) in
    let end = c.unwrap_or-end.result in
    let cut : tokens_of c.args.line.now ≡ take end part ∷ tokens_of
    (drop end part) = token_cut c.args.line.now part c.in_ok-line.field-0 end c.in_ok-line.ensures refl
    (c.unwrap_or-end.ensures ∙ ap (λ o. unwrap_or o (length part)) c.place_of_blank.ensures) in
    let front = c.split_at.ensures.front in
    let back = c.split_at.ensures.back in
    cc
