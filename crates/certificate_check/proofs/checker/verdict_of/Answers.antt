use Rattle.std.proofs.Common.{sym, rules}
use Rattle.certificate_check.specs.Verdicts.{first_fails, second_fails, third_fails, fourth_fails, fifth_fails, sixth_fails}
use Rattle.certificate_check.proofs.CoveredGoal.{refused, covered_over}
use Rattle.certificate_check.proofs.checker.verdict_of.Goals as goal

pub returns-then-not-are_ordered : goal.returns-then-not-are_ordered
returns-then-not-are_ordered c = first_fails (λ a. refused (c.if-not-are_ordered.ensures.1 (rw (sym c.requires.pairs) at a)))

pub returns-then-not-are_achieved : goal.returns-then-not-are_achieved
returns-then-not-are_achieved c =
    second_fails
    (rw c.requires.pairs at (c.if-not-are_ordered.ensures.0 (search rules)))
    (λ a. refused (c.if-not-are_achieved.ensures.1 (rw (sym c.as_slice.ensures) at a)))

pub returns-then-not-are_node_bounds : goal.returns-then-not-are_node_bounds
returns-then-not-are_node_bounds c =
    third_fails
    (rw c.requires.pairs at (c.if-not-are_ordered.ensures.0 (search rules)))
    (rw c.as_slice.ensures at (c.if-not-are_achieved.ensures.0 (search rules)))
    (λ a. refused (c.if-not-are_node_bounds.ensures.1 a))

pub returns-then-not-is_start_relaxed : goal.returns-then-not-is_start_relaxed
returns-then-not-is_start_relaxed c =
    fourth_fails
    (rw c.requires.pairs at (c.if-not-are_ordered.ensures.0 (search rules)))
    (rw c.as_slice.ensures at (c.if-not-are_achieved.ensures.0 (search rules)))
    (c.if-not-are_node_bounds.ensures.0 (search rules))
    (λ a. refused (c.if-not-is_start_relaxed.ensures.1 (rw (sym c.requires.pairs) at a)))

pub returns-then-not-are_functions_relaxed : goal.returns-then-not-are_functions_relaxed
returns-then-not-are_functions_relaxed c =
    fifth_fails
    (rw c.requires.pairs at (c.if-not-are_ordered.ensures.0 (search rules)))
    (rw c.as_slice.ensures at (c.if-not-are_achieved.ensures.0 (search rules)))
    (c.if-not-are_node_bounds.ensures.0 (search rules))
    (rw c.requires.pairs at (c.if-not-is_start_relaxed.ensures.0 (search rules)))
    (λ a. refused (c.if-not-are_functions_relaxed.ensures.1 (rw (sym c.requires.pairs) at a)))

pub returns-then-not-is_goal_covered : goal.returns-then-not-is_goal_covered
returns-then-not-is_goal_covered c =
    sixth_fails
    (rw c.requires.pairs at (c.if-not-are_ordered.ensures.0 (search rules)))
    (rw c.as_slice.ensures at (c.if-not-are_achieved.ensures.0 (search rules)))
    (c.if-not-are_node_bounds.ensures.0 (search rules))
    (rw c.requires.pairs at (c.if-not-is_start_relaxed.ensures.0 (search rules)))
    (rw c.requires.pairs at (c.if-not-are_functions_relaxed.ensures.0 (search rules)))
    (λ a. refused (c.if-not-is_goal_covered.ensures.1 (covered_over (sym c.requires.pairs) c.pieces_of.ensures.values a)))

pub returns : goal.returns
returns c = record {
  pairs = rw c.requires.pairs at (c.if-not-are_ordered.ensures.0 (search rules));
  achieved = rw c.as_slice.ensures at (c.if-not-are_achieved.ensures.0 (search rules));
  bounds = c.if-not-are_node_bounds.ensures.0 (search rules);
  start = rw c.requires.pairs at (c.if-not-is_start_relaxed.ensures.0 (search rules));
  goes_on = rw c.requires.pairs at (c.if-not-are_functions_relaxed.ensures.0 (search rules));
  end = covered_over c.requires.pairs (λ t. sym (c.pieces_of.ensures.values t)) (c.if-not-is_goal_covered.ensures.0 (search rules));
}
