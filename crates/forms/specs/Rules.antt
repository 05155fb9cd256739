-- The rules of forms: what every form that can exist keeps.
use Rattle.std.specs.Prelude.{ℕ, ◌+◌, ◌-◌, Bool, true, cond, ◌&&◌, List, [], ◌∷◌, length, take, drop, Ok, Err, sum, Result, ◌==◌, nat_le, nat_lt}
use Rattle.forms.specs.declared.fault.FormFault.{FormFault}
use Rattle.forms.specs.declared.fault.FormFault.TheVariants.{NotAForm}
use Rattle.forms.specs.declared.row.Head.{Head}
use Rattle.forms.specs.declared.row.Row.{Row}
use Rattle.forms.specs.Code.{Code, cut, head_of}
use Rattle.forms.specs.Rows.{row_ok, placed_ok}

-- A block has 1 to 64 rows, and a form 512 at most; `used` rows stand before the block.
abbrev pub count_ok : ℕ → ℕ → Bool
count_ok used count = nat_le 1 count && (nat_le count 64 && nat_le (used + count) 512)

-- Each row keeps the rules, and the last one and no other is an ending.
abbrev pub block_ok : ℕ → List Row → Bool
block_ok last [] = true
block_ok last (r ∷ rows) = (row_ok last r && placed_ok (length rows == 0) r) && block_ok last rows

-- Each block has its number of rows, after `used` rows, and keeps the rules.
abbrev pub blocks_ok : ℕ → ℕ → List (List Row) → Bool
blocks_ok last used [] = true
blocks_ok last used (block ∷ blocks) = count_ok used (length block) && (block_ok last block && blocks_ok last (used + length block) blocks)

-- All numbers of a list are below a limit.
abbrev pub all_below : ℕ → List ℕ → Bool
all_below limit [] = true
all_below limit (x ∷ xs) = nat_lt x limit && all_below limit xs

-- A head counts 1 to 64 blocks and at most 8 parameters.
abbrev pub counts_ok : Head → Bool
counts_ok h = nat_le 1 h.blocks && (nat_le h.blocks 64 && nat_le h.params 8)

-- There is a row count for each block, and a name for each parameter.
abbrev pub complete : Head → Bool
complete h = nat_le h.blocks (length h.counts) && nat_le h.params (length h.names)

-- The parameters' names are below 64, and what is not used is 0.
abbrev pub entries_ok : Head → Bool
entries_ok h =
    (all_below 64 (take h.params h.names)
    && all_below 1 (drop h.params h.names))
    && all_below 1 (drop h.blocks h.counts)

-- A head keeps the rules.
abbrev pub head_ok : Head → Bool
head_ok h = counts_ok h && (complete h && entries_ok h)

-- A code keeps the rules: its head does, and its blocks do.
abbrev pub code_ok : Code → Bool
code_ok code = head_ok (head_of code) && blocks_ok (length code.blocks - 1) 0 code.blocks

-- The rows of the counted lengths are there, and their blocks keep the rules.
abbrev pub rows_ok : ℕ → List ℕ → List Row → Bool
rows_ok last counts rows = nat_le (sum counts) (length rows) && blocks_ok last 0 (cut counts rows)

-- A head and rows make a form. Rows beyond those counted are not looked at.
abbrev pub form_ok : List Row → Head → Bool
form_ok rows h = head_ok h && rows_ok (h.blocks - 1) (take h.blocks h.counts) rows

-- Whether a form is filled with them, or refused.
abbrev pub filled : List Row → Head → Result (Unit {0}) FormFault
filled rows h = cond (form_ok rows h) (Ok tt) (Err NotAForm)
