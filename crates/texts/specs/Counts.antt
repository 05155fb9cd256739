-- How much a form has.
use Rattle.std.specs.Prelude.{length}
use Rattle.forms.specs.Code.{Code, row_count}
use Rattle.texts.specs.declared.labels.Counts.{Counts}

-- How many blocks, parameters and rows.
abbrev pub counts_of : Code → Counts
counts_of code = record { blocks = length code.blocks; parameters = length code.params; rows = row_count code }
