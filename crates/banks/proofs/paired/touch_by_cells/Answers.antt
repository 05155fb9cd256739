use Rattle.banks.specs.Pairs.{touch_by_cells_lem}
use Rattle.banks.proofs.paired.touch_by_cells.Goals as goal

pub returns : goal.returns
returns c = touch_by_cells_lem
