use Rattle.forms.proofs.Names.{Named}
use Rattle.forms.proofs.read.Reader.names.Given as goal

abbrev pub invariant-loop-name : goal.invariant-loop-name
invariant-loop-name l = Named l.params l.initial.self l.self l.name-index l.name-items
