use Rattle.std.proofs.Common.{take}
use Rattle.certificate_check.specs.Inside.Reduction.{AreAlike, AreReducedWhereSmall}
use Rattle.certificate_check.proofs.reduction.reduced_copy.Given as goal

abbrev pub invariant-loop-entry : goal.invariant-loop-entry
invariant-loop-entry l = record {
  alike : AreAlike l.copy (take l.entry-index l.entry-items);
  reduced : AreReducedWhereSmall l.copy;
}
