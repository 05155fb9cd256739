use Rattle.numbers.proofs.Written.{Partly}
use Rattle.numbers.proofs.write.groups_of.Given as goal

abbrev pub invariant-loop-rest : goal.invariant-loop-rest
invariant-loop-rest l = Partly l.value l.rest l.groups.items

abbrev pub decreases-loop-rest : goal.decreases-loop-rest
decreases-loop-rest l = l.rest
