use Rattle.std.proofs.Common.{◌≡◌, ◌++◌, ◌∷◌, [], sym, Some, arith}
use Rattle.opening_hours.specs.Inside.Tokenizer.{token_at}
use Rattle.opening_hours.proofs.Cuts.{cut_goes_on, cut_ends, cut_fails, token_shorter, length-without_blanks, not_nil, nil}
use Rattle.opening_hours.proofs.Longest.{cut_of, match_of}
use Rattle.opening_hours.proofs.tokenizer.cut.Goals as goal

pub returns-in_default-clause-none : goal.returns-in_default-clause-none
returns-in_default-clause-none c = λ _ ts h. cut_fails c.args.text.now c.loop-token.rest.now c.loop-token.tokens
    (sym (c.in_default.ensures)) c.loop-token.invariant ts (match_of c.args.text.now ts h)

pub loop-token-smaller : goal.loop-token-smaller
loop-token-smaller c =
    let e : token_at c.loop-token.rest.now ≡ Some (c.in-Some.token, c.in-Some.after.now) = sym c.in-Some.ensures in
    rw c.behind_blanks-rest.ensures (omega (
      arith,
      token_shorter c.loop-token.rest.now c.in-Some.token c.in-Some.after.now e,
      length-without_blanks c.in-Some.after.now,
    ))

pub loop-token-preserved : goal.loop-token-preserved
loop-token-preserved c =
    let e : token_at c.loop-token.rest.now ≡ Some (c.in-Some.token, c.in-Some.after.now) = sym c.in-Some.ensures in
    rw (c.behind_blanks-rest.ensures, c.in_ok-push.ensures.ok)
    (cut_goes_on c.args.text.now c.loop-token.rest.now c.in-Some.after.now c.loop-token.tokens c.in-Some.token e
    (not_nil c.in-Some.after.now (c.if-is_empty.ensures)) c.loop-token.invariant)

pub returns-then-is_empty-clause-found : goal.returns-then-is_empty-clause-found
returns-then-is_empty-clause-found c =
    let e : token_at c.loop-token.rest.now ≡ Some (c.in-Some.token, c.in-Some.after.now) = sym c.in-Some.ensures in
    rw c.in_ok-push.ensures.ok (cut_of c.args.text.now (c.loop-token.tokens ++ c.in-Some.token ∷ [])
    (cut_ends c.args.text.now c.loop-token.rest.now c.in-Some.after.now c.loop-token.tokens c.in-Some.token e
    (nil c.in-Some.after.now c.if-is_empty.ensures) c.loop-token.invariant))
