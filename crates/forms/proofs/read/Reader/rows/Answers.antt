use Rattle.std.proofs.Common.{arith}
use Rattle.std.proofs.lemmas.Result.{err_from_is_err_and}
use Rattle.forms.proofs.Stored.{refused, misplaced, full, again}
use Rattle.forms.proofs.read.Reader.rows.Goals as goal

pub returns-in_err-row : goal.returns-in_err-row
returns-in_err-row c =
    let p = err_from_is_err_and c.from_residual.result c.from_residual.ensures.1 in
    let k = refused c.loop-i.invariant (omega arith) c.row.new.self c.in_err-row.field-0.0 c.in_err-row.ensures in
    record { result = rw (p.1, p.2) k.result; rows = k.rows }

pub returns-then-not-placed : goal.returns-then-not-placed
returns-then-not-placed c =
    let k = misplaced c.loop-i.invariant (omega arith) c.row.new.self c.in_ok-row.row c.in_ok-row.ensures c.if-not-placed.ensures in
    record { result = k.result; rows = k.rows }

pub returns-then-i-free : goal.returns-then-i-free
returns-then-i-free c =
    let k = full c.loop-i.invariant (omega arith) c.row.new.self c.in_ok-row.row c.in_ok-row.ensures c.if-not-placed.ensures (omega arith) in
    record { result = k.result; rows = k.rows }

pub loop-i-preserved : goal.loop-i-preserved
loop-i-preserved c =
    again c.loop-i.invariant (omega arith) c.row.new.self c.in_ok-row.row c.in_ok-row.ensures c.if-not-placed.ensures (omega arith)
