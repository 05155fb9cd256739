use Rattle.std.proofs.Common.{◌-◌}
use Rattle.forms.proofs.Blocks.{Blocked}
use Rattle.forms.proofs.read.Reader.blocks.Given as goal

abbrev pub invariant-loop-count : goal.invariant-loop-count
invariant-loop-count l = Blocked l.blocks (l.blocks - 1) l.initial.self l.initial.rows l.self l.count-index l.place l.count-items l.rows
