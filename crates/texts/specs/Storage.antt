-- How many rows were stored.
use Rattle.std.specs.Prelude.{ℕ, not, List, ◌==◌}
use Rattle.std.specs.List.{prefix_len}
use Rattle.forms.specs.declared.Row.{Row}

-- How many rows at the front are of a kind that a row can have.
abbrev pub stored : List Row → ℕ
stored rows = prefix_len (λ r. not (r.kind == 255)) rows
