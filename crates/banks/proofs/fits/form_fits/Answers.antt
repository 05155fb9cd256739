use Rattle.forms.specs.View.{code}
use Rattle.forms.proofs.Keeps.{form_keeps}
use Rattle.forms.proofs.Kept.{few_rows}
use Rattle.banks.proofs.fits.form_fits.Goals as goal

-- a block has at most 64 rows
pub rows_fit-requires : goal.rows_fit-requires
rows_fit-requires g c =
    let keeps = form_keeps c.args.form.now.rows.now c.args.form.now.head.now c.args.form.now.sound in
    few_rows (code c.args.form.now) keeps c.loop-block.block c.block.result.now c.block.ensures
