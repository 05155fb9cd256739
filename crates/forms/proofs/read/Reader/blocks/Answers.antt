use Rattle.std.proofs.Common.{arith}
use Rattle.std.proofs.lemmas.List.{take_rest}
use Rattle.std.proofs.lemmas.Result.{err_from_is_err_and}
use Rattle.forms.proofs.Blocks.{count_refused, rows_refused, again}
use Rattle.forms.proofs.read.Reader.blocks.Goals as goal

pub returns-in_err-count : goal.returns-in_err-count
returns-in_err-count c =
    let p = err_from_is_err_and c.from_residual.result c.from_residual.ensures.1 in
    let k = count_refused c.loop-count.invariant (omega arith) c.row_count.new.self c.in_err-count.field-0.0 c.in_err-count.ensures in
    record { result = rw (p.1, p.2) k.result; rows = k.rows }

pub returns-in_err-rows : goal.returns-in_err-rows
returns-in_err-rows c =
    let p = err_from_is_err_and c.from_residual-in_err-rows.result c.from_residual-in_err-rows.ensures.1 in
    let k = rows_refused c.loop-count.invariant (omega arith) c.row_count.new.self c.in_ok-count.field-0 c.in_ok-count.ensures c.rows.new.self _ c.rows.new.free
    (take_rest c.loop-count.rows c.loop-count.place) c.rows.ensures.rows c.in_err-rows.field-0.0 c.in_err-rows.ensures.result in
    record { result = rw (p.1, p.2) k.result; rows = k.rows }

pub loop-count-preserved : goal.loop-count-preserved
loop-count-preserved c =
    again c.loop-count.invariant (omega arith) c.row_count.new.self c.in_ok-count.field-0 c.in_ok-count.ensures c.rows.new.self _ c.rows.new.free
    (take_rest c.loop-count.rows c.loop-count.place) c.rows.ensures.rows c.in_ok-rows.ensures.result
