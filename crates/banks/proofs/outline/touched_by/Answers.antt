use Rattle.std.proofs.Common.{rules}
use Rattle.banks.proofs.Outlined.{bits_all, no_touch_above}
use Rattle.banks.proofs.outline.touched_by.Goals as goal

pub returns : goal.returns
returns g c = bits_all c.mask.result _ (λ i l. let told = c.mask.ensures.told i l in search rules) c.mask.ensures.others (no_touch_above (g.met.B.Bank.shows.described (g.B.Bank.meaning c.args.bank.now)) c.args.a)
