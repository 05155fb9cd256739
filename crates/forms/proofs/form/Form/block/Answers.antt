use Rattle.std.proofs.Common.{◌≡◌, ℕ, ◌+◌, ◌-◌, get_or, take, drop, ap, ◌∙◌, arith}
use Rattle.forms.proofs.Cuts.{block_is, no_block}
use Rattle.forms.proofs.form.Form.block.Goals as goal

pub returns-then-b-head : goal.returns-then-b-head
returns-then-b-head c = no_block c.args.self.now.rows.now c.args.self.now.head.now c.args.self.now.sound c.args.b (omega arith)

pub returns : goal.returns
returns c =
    let n : (c.rows_before-start.result + get_or c.args.self.now.head.now.counts c.args.b 0) - c.rows_before-start.result ≡ get_or c.args.self.now.head.now.counts c.args.b 0 = omega arith in
    ap (λ (m : ℕ). take m (drop c.rows_before-start.result c.args.self.now.rows.now)) n
    ∙ ap (λ (m : ℕ). take (get_or c.args.self.now.head.now.counts c.args.b 0) (drop m c.args.self.now.rows.now)) c.rows_before-start.ensures
    ∙ block_is c.args.self.now.rows.now c.args.self.now.head.now c.args.self.now.sound c.args.b (omega arith)
