use Rattle.std.proofs.Common.{ℕ, eqb, ap, ◌∙◌}
use Rattle.banks.specs.Words.{lowest}
use Rattle.banks.proofs.Fitting.{low_whole, constant_fits}
use Rattle.banks.proofs.fits.widths_fit.Goals as goal

-- a constant is all of its lowest bytes
pub returns-in-1 : goal.returns-in-1
returns-in-1 g c =
    ap (λ (x : ℕ). eqb x c.args.row.now.c) (c.low_bytes.ensures ∙ ap (lowest c.args.row.now.c) c.width-width.ensures)
    ∙ low_whole c.args.row.now.c ((g.B.Bank.kind.describe (g.B.Bank.meaning c.args.bank.now)).width c.args.row.now.d)
    ∙ constant_fits (g.B.Bank.kind.describe (g.B.Bank.meaning c.args.bank.now)) c.args.row.now c.in-1.is
