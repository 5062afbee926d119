use Rattle.std.proofs.Common.{length}
use Rattle.opening_hours.proofs.Cuts.{MatchedSoFar}
use Rattle.opening_hours.proofs.tokenizer.cut.Given as goal

abbrev pub invariant-loop-token : goal.invariant-loop-token
invariant-loop-token l = MatchedSoFar l.text l.rest l.tokens

abbrev pub decreases-loop-token : goal.decreases-loop-token
decreases-loop-token l = length l.rest
