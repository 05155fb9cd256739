use Rattle.std.proofs.Common.{sym, ap, ◌∙◌}
use Rattle.banks.specs.Frame.{over}
use Rattle.banks.specs.Frames.{slot_is_put, below_is_put}
use Rattle.banks.specs.Meanings.{table_of}
use Rattle.banks.proofs.frame.layer.FrameBank.put.Goals as goal

pub returns-in-Some : goal.returns-in-Some
returns-in-Some g c = ap (over g.B.Bank.kind (g.B.Bank.meaning c.args.self.now.below)) c.put.ensures ∙ slot_is_put g.B.Bank.kind (over g.B.Bank.kind (g.B.Bank.meaning c.args.self.now.below) (table_of c.args.self.now.slots)) c.args.a c.in-Some.slot (sym c.slot.ensures ∙ c.in-Some.is) c.args.w

pub returns-in-None : goal.returns-in-None
returns-in-None g c = ap (λ m. over g.B.Bank.kind m (table_of c.args.self.now.slots)) c.put-in-None.ensures ∙ below_is_put g.B.Bank.kind (over g.B.Bank.kind (g.B.Bank.meaning c.args.self.now.below) (table_of c.args.self.now.slots)) g.met.B.Bank.shows c.args.a (sym c.slot.ensures ∙ c.in-None.is) c.args.w
