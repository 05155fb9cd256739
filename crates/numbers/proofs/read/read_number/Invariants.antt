use Rattle.numbers.proofs.Groups.{Sofar}
use Rattle.numbers.proofs.read.read_number.Given as goal

abbrev pub invariant-loop-group : goal.invariant-loop-group
invariant-loop-group l = Sofar l.bytes l.rest l.at l.group l.value l.scale
