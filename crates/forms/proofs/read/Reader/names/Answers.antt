use Rattle.std.proofs.Common.{arith}
use Rattle.std.proofs.lemmas.Result.{err_from_is_err_and}
use Rattle.forms.proofs.Names.{refused, again}
use Rattle.forms.proofs.read.Reader.names.Goals as goal

pub returns-in_err-name : goal.returns-in_err-name
returns-in_err-name c =
    let p = err_from_is_err_and c.from_residual.result c.from_residual.ensures.1 in
    rw (p.1, p.2) (refused c.loop-name.invariant (omega arith) c.field.new.self c.in_err-name.field-0.0 c.in_err-name.ensures)

pub loop-name-preserved : goal.loop-name-preserved
loop-name-preserved c = again c.loop-name.invariant (omega arith) c.field.new.self c.in_ok-name.field-0 c.in_ok-name.ensures
