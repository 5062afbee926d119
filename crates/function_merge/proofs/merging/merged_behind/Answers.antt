use Rattle.std.proofs.Common.{⊎_elim, ◌<◌, ◌≤◌, ◌++◌, ◌∙◌, ℕ, All, get_or, sym, subst, arith}
use Rattle.std.proofs.lemmas.Bool.{cases_lt}
use Rattle.cost_functions.specs.Building.{IsSettled}
use Rattle.function_merge.specs.Least.{least_at, better_at}
use Rattle.function_merge.proofs.Nexts.{least_same, better_same, from_start, before_start}
use Rattle.function_merge.proofs.Outcomes.{three_ok}
use Rattle.function_merge.proofs.Splits.{value_past, front_settled}
use Rattle.function_merge.proofs.merging.merged_behind.Goals.{After-first_minute-start}
use Rattle.function_merge.proofs.merging.merged_behind.Goals as goal

-- what is built ends before the sweep starts
ended : (c : After-first_minute-start) → All (λ q. q.hi < c.first_minute-start.result) c.args.before.items
ended c j d within = c.first_minute-start.ensures.largest (get_or c.args.before.items j d).hi (c.requires.ended j d within)
    (λ k e inside. c.requires.parts.apart k e inside j d within)

pub merged_from-requires-clause-first : goal.merged_from-requires-clause-first
merged_from-requires-clause-first c =
    let rest = c.requires.parts.back in
    record {
      pieces = rest.pieces;
      small = rest.small;
      reach = λ k d within.
          (let begin = c.first_minute-start.ensures.first k d within in
          let filled = (rest.pieces.each k d within).filled in
          omega (arith, begin, filled));
    }

pub merged_from-requires-clause-second : goal.merged_from-requires-clause-second
merged_from-requires-clause-second c =
    let other = c.find_pieces-other.ensures in
    record { pieces = other.pieces; small = other.small c.requires.small; reach = other.reach }

pub merged_from-requires-clause-ended : goal.merged_from-requires-clause-ended
merged_from-requires-clause-ended c = subst (All (λ q. q.hi < c.first_minute-start.result)) (sym c.behind.ensures)
    (ended (goal.at.merged_from-requires-clause-ended c).After-first_minute-start)

pub returns : goal.returns
returns c =
    let before = c.args.before.items in
    let rest = c.args.rest.now in
    let g = c.args.g.now in
    let start = c.first_minute-start in
    let ended = ended (goal.at.returns c).After-first_minute-start in
    let worse = λ (t : ℕ) (early : t < start.result). c.requires.worse t (omega (arith, early, start.ensures.upto)) in
    let settled = subst (λ ps. IsSettled (least_at (before ++ rest) g) ps start.result) (sym c.behind.ensures)
    (front_settled before rest g start.result ended start.ensures.first worse) in
    let own = λ (t : ℕ) (late : start.result ≤ t). value_past before rest start.result t ended late in
    let other = λ (t : ℕ) (late : start.result ≤ t). sym (c.find_pieces-other.ensures.values t late) in
    three_ok c.merged_from.result _ _ _ _ (λ merged values improved built.
    record {
      values = values (least_at (before ++ rest) g) settled (λ t late.
          least_same (before ++ rest) g rest c.find_pieces-other.result.now t (own t late) (other t late));
      better = λ t.
          improved t ∙ ⊎_elim
          (λ (early : t < start.result). before_start start.result t (better_at rest c.find_pieces-other.result.now t) early ∙ sym (worse t early))
          (λ (late : start.result ≤ t). from_start start.result t (better_at rest c.find_pieces-other.result.now t) late
          ∙ sym (better_same (before ++ rest) g rest c.find_pieces-other.result.now t (own t late) (other t late)))
          (cases_lt t start.result);
      built = built;
    }) c.merged_from.ensures.values c.merged_from.ensures.improved c.merged_from.ensures.built
