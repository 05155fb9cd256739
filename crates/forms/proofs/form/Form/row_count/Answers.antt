use Rattle.std.proofs.Common.{◌∙◌}
use Rattle.forms.proofs.Cuts.{rows_counted}
use Rattle.forms.proofs.form.Form.row_count.Goals as goal

pub returns : goal.returns
returns c = c.rows_before.ensures ∙ rows_counted c.args.self.now.rows.now c.args.self.now.head.now c.args.self.now.sound
