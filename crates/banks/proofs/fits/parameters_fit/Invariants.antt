use Rattle.std.proofs.Common.{◌≡◌, drop}
use Rattle.banks.specs.Fits.{unfit_parameter}
use Rattle.banks.proofs.fits.parameters_fit.Given as goal

-- what is left answers for all
abbrev pub invariant-loop-i : goal.invariant-loop-i
invariant-loop-i g l =
    unfit_parameter (g.B.Bank.kind.describe (g.B.Bank.meaning l.bank)) l.side l.i (drop l.i l.names)
    ≡ unfit_parameter (g.B.Bank.kind.describe (g.B.Bank.meaning l.bank)) l.side 0 l.names
