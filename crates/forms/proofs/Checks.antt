-- What the loops that check the rules go by.
use Rattle.std.proofs.Common.{ℕ, ◌-◌, Bool, ◌&&◌, leb, List, length, drop, sum}
use Rattle.forms.specs.declared.row.Row.{Row}
use Rattle.forms.specs.Code.{cut}
use Rattle.forms.specs.Rules.{blocks_ok}

-- what is left of the counts, after `used` rows: the rows are there, and the blocks keep the rules
abbrev pub rest_ok : ℕ → ℕ → List ℕ → List Row → Bool
rest_ok last used counts rows = leb (sum counts) (length rows - used) && blocks_ok last used (cut counts (drop used rows))
