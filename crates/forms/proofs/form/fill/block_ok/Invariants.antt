use Rattle.std.proofs.Common.{◌≡◌, drop}
use Rattle.forms.specs.Rules.{block_ok}
use Rattle.forms.proofs.form.fill.block_ok.Given as goal

abbrev pub invariant-loop-i : goal.invariant-loop-i
invariant-loop-i l = block_ok l.last (drop l.i l.rows) ≡ block_ok l.last l.rows
