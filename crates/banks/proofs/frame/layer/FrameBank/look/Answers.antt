use Rattle.std.proofs.Common.{sym, ◌∙◌}
use Rattle.banks.specs.Frame.{over}
use Rattle.banks.specs.Frames.{slot_has_look, below_has_look}
use Rattle.banks.specs.Meanings.{table_of}
use Rattle.banks.proofs.frame.layer.FrameBank.look.Goals as goal

pub returns-in-Some : goal.returns-in-Some
returns-in-Some g c = c.look.ensures ∙ slot_has_look g.B.Bank.kind (over g.B.Bank.kind (g.B.Bank.meaning c.args.self.now.below) (table_of c.args.self.now.slots)) c.args.a c.in-Some.slot (sym c.slot.ensures ∙ c.in-Some.is)

pub returns-in-None : goal.returns-in-None
returns-in-None g c = c.look-in-None.ensures ∙ below_has_look g.B.Bank.kind (over g.B.Bank.kind (g.B.Bank.meaning c.args.self.now.below) (table_of c.args.self.now.slots)) g.met.B.Bank.shows c.args.a (sym c.slot.ensures ∙ c.in-None.is)
