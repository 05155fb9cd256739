use Rattle.std.proofs.Common.{◌^◌, ◌<◌, take, sum, rules, arith}
use Rattle.forms.proofs.Cuts.{before_there}
use Rattle.forms.proofs.form.Form.rows_before.Goals as goal

pub sum-requires-clause-fits : goal.sum-requires-clause-fits
sum-requires-clause-fits c =
    let h : sum (take c.args.b c.args.self.now.head.now.counts) < 2 ^ 64
    = omega (arith, before_there c.args.self.now.rows.now c.args.self.now.head.now c.args.self.now.sound c.args.b c.requires) in
    search rules
