use Rattle.forms.proofs.Stored.{Stored}
use Rattle.forms.proofs.read.Reader.rows.Given as goal

abbrev pub invariant-loop-i : goal.invariant-loop-i
invariant-loop-i l = Stored l.count l.last l.initial.self l.initial.free l.self l.i l.free
