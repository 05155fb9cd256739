use Rattle.std.proofs.Common.{sym, ◌∙◌}
use Rattle.banks.specs.Frame.{over}
use Rattle.banks.specs.Frames.{slot_has_width, below_has_width}
use Rattle.banks.specs.Meanings.{table_of}
use Rattle.banks.proofs.frame.layer.FrameBank.width.Goals as goal

pub returns-in-Some : goal.returns-in-Some
returns-in-Some g c = c.width.ensures ∙ slot_has_width g.B.Bank.kind (over g.B.Bank.kind (g.B.Bank.meaning c.args.self.now.below) (table_of c.args.self.now.slots)) c.args.a c.in-Some.slot (sym c.slot.ensures ∙ c.in-Some.is)

pub returns-in-None : goal.returns-in-None
returns-in-None g c = c.width-in-None.ensures ∙ below_has_width g.B.Bank.kind (over g.B.Bank.kind (g.B.Bank.meaning c.args.self.now.below) (table_of c.args.self.now.slots)) g.met.B.Bank.shows c.args.a (sym c.slot.ensures ∙ c.in-None.is)
