-- The code of a form: what a head and rows say.
use Rattle.std.specs.Prelude.{ℕ, ◌+◌, List, [], ◌∷◌, map, length, take, drop, replicate}
use Rattle.forms.specs.declared.row.Head.{Head}
use Rattle.forms.specs.declared.row.Row.{Row}
use Rattle.forms.specs.Buffers.{over}

-- The parameters' names, and the rows of each block.
pub record Code : Type 0 where
  pub params : List ℕ
  pub blocks : List (List Row)

-- Rows cut into blocks of the counted lengths.
abbrev pub cut : List ℕ → List Row → List (List Row)
cut [] rows = []
cut (count ∷ counts) rows = take count rows ∷ cut counts (drop count rows)

-- What a head says of rows.
abbrev pub code_of : List Row → Head → Code
code_of rows head = record {
  params = take head.params head.names;
  blocks = cut (take head.blocks head.counts) rows;
}

-- The rows of all blocks.
abbrev pub rows_of : List (List Row) → ℕ
rows_of [] = 0
rows_of (block ∷ blocks) = length block + rows_of blocks

-- How many rows a code has.
abbrev pub row_count : Code → ℕ
row_count c = rows_of c.blocks

-- The head of a code: what is not used is 0.
abbrev pub head_of : Code → Head
head_of code = record {
  blocks = length code.blocks;
  params = length code.params;
  names = over 0 code.params (replicate 8 0);
  counts = over 0 (map length code.blocks) (replicate 64 0);
}

-- The built-in form: one block of one row, give 0.
abbrev pub give_zero : Code
give_zero = record {
  params = [];
  blocks = (record { kind = 10; o = 0; d = 0; a = 0; b = 0; k = 0; c = 0; t = 0; f = 0 } ∷ []) ∷ [];
}
