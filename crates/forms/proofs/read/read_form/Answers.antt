use Rattle.std.proofs.Common.{length, sym, arith}
use Rattle.forms.proofs.Canonical.{is_written}
use Rattle.forms.proofs.Complete.{accepts_all}
use Rattle.forms.proofs.Sound.{count_in_within}
use Rattle.forms.proofs.Whole.{head_is, filled_by}
use Rattle.forms.proofs.read.read_form.Goals as goal

pub returns-in_err-blocks-clause-accepts : goal.returns-in_err-blocks-clause-accepts
returns-in_err-blocks-clause-accepts c = accepts_all c.args.bytes.now (length c.args.rows.now)

pub returns-in_err-params-clause-accepts : goal.returns-in_err-params-clause-accepts
returns-in_err-params-clause-accepts c = accepts_all c.args.bytes.now (length c.args.rows.now)

pub names-requires : goal.names-requires
names-requires c = (count_in_within 0 8 c.count_in.new.self.bytes.now c.count_in.new.self.at _ (sym c.in_ok-params.ensures.1)).1

pub returns-in_err-names-clause-accepts : goal.returns-in_err-names-clause-accepts
returns-in_err-names-clause-accepts c = accepts_all c.args.bytes.now (length c.args.rows.now)

pub blocks-requires : goal.blocks-requires
blocks-requires c = (count_in_within 1 64 c.args.bytes.now 0 _ (sym c.in_ok-blocks.ensures.1)).1

pub returns-in_err-counts-clause-accepts : goal.returns-in_err-counts-clause-accepts
returns-in_err-counts-clause-accepts c = accepts_all c.args.bytes.now (length c.args.rows.now)

pub returns-then-reader-bytes-clause-accepts : goal.returns-then-reader-bytes-clause-accepts
returns-then-reader-bytes-clause-accepts c = accepts_all c.args.bytes.now (length c.args.rows.now)

pub returns-clause-head : goal.returns-clause-head
returns-clause-head c =
    head_is c.args.bytes c.args.rows.now c.count_in.new.self c.count_in-2.new.self c.names.new.self c.blocks-2.new.self
    c.in_ok-blocks.blocks c.in_ok-params.params c.in_ok-names.names c.in_ok-counts.counts
    c.in_ok-blocks.ensures c.in_ok-params.ensures c.in_ok-names.ensures c.in_ok-counts.ensures.result (omega arith) c.args.head.now

pub returns-clause-fills : goal.returns-clause-fills
returns-clause-fills c =
    filled_by c.args.bytes c.args.rows.now c.count_in.new.self c.count_in-2.new.self c.names.new.self c.blocks-2.new.self
    c.in_ok-blocks.blocks c.in_ok-params.params c.in_ok-names.names c.in_ok-counts.counts
    c.in_ok-blocks.ensures c.in_ok-params.ensures c.in_ok-names.ensures c.in_ok-counts.ensures.result (omega arith)
    c.blocks-2.new.rows c.blocks-2.ensures.rows c.args.head.now

pub returns-clause-written : goal.returns-clause-written
returns-clause-written c = is_written c.args.bytes.now (λ i. omega (arith, c.type_inv.bytes i)) (length c.args.rows.now)

pub returns-clause-accepts : goal.returns-clause-accepts
returns-clause-accepts c = accepts_all c.args.bytes.now (length c.args.rows.now)
