use Rattle.std.proofs.Common.{◌≡◌, drop}
use Rattle.banks.specs.Fits.{unfit_block}
use Rattle.forms.specs.View.{code}
use Rattle.banks.proofs.fits.form_fits.Given as goal

-- what is left answers for all
abbrev pub invariant-loop-block : goal.invariant-loop-block
invariant-loop-block g l =
    unfit_block (g.B.Bank.kind.describe (g.B.Bank.meaning l.bank)) l.side l.block (drop l.block (code l.form).blocks)
    ≡ unfit_block (g.B.Bank.kind.describe (g.B.Bank.meaning l.bank)) l.side 0 (code l.form).blocks
