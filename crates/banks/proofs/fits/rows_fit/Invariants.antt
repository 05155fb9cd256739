use Rattle.std.proofs.Common.{◌≡◌, drop}
use Rattle.banks.specs.Fits.{unfit_row}
use Rattle.banks.proofs.fits.rows_fit.Given as goal

-- what is left answers for all
abbrev pub invariant-loop-i : goal.invariant-loop-i
invariant-loop-i g l =
    unfit_row (g.B.Bank.kind.describe (g.B.Bank.meaning l.bank)) l.side l.block l.i (drop l.i l.rows)
    ≡ unfit_row (g.B.Bank.kind.describe (g.B.Bank.meaning l.bank)) l.side l.block 0 l.rows
