use Rattle.forms.proofs.Cuts.{blocks_counted}
use Rattle.forms.proofs.form.Form.blocks.Goals as goal

pub returns : goal.returns
returns c = blocks_counted c.args.self.now.rows.now c.args.self.now.head.now c.args.self.now.sound
