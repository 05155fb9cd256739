-- A table of cells: variables are one, and so are the slots of a frame.
use Rattle.std.specs.Prelude.{◌≡◌, ℕ, ◌≤◌, Bool, true, cond, ◌&&◌, List, length, map, take, ◌==◌, nat_le, nat_lt, slice_index}
use Rattle.std.specs.Int.{from_le_bytes, w64}
use Rattle.std.specs.List.{list_all}
use Rattle.banks.specs.declared.cells.Cell.{Cell}
use Rattle.banks.specs.Kind.{is_width}
use Rattle.banks.specs.Words.{lowest}

-- The widths of cells.
abbrev pub widths_of : List Cell → List ℕ
widths_of cells = map (λ c. c.width) cells

-- The word of a cell, whose bytes stand lowest first.
abbrev pub word_of : Cell → ℕ
word_of cell = from_le_bytes w64 cell.bytes

-- The words of cells.
abbrev pub words_of : List Cell → List ℕ
words_of cells = map word_of cells

-- All numbers of a list are widths.
abbrev pub all_widths : List ℕ → Bool
all_widths widths = list_all is_width widths

-- A table has 1 to 64 cells, each with a width.
abbrev pub table_ok : List ℕ → Bool
table_ok widths = nat_le 1 (length widths) && (nat_le (length widths) 64 && all_widths widths)

-- The first widths of a row make a table.
abbrev pub Sound : ℕ → List ℕ → Type 0
Sound count widths = (count ≤ 64) × (count ≤ length widths) × (table_ok (take count widths) ≡ true)

-- The width that was declared for each cell, and a word for each, of which the cell holds its lowest bytes.
pub record Table : Type 0 where
  pub widths : List ℕ
  pub words : ℕ → ℕ
  pub sound : table_ok widths ≡ true

-- What a cell of these widths holds, where the words are `words`.
abbrev pub cell_look : List ℕ → (ℕ → ℕ) → ℕ → ℕ
cell_look widths words a = lowest (words a) (slice_index widths a)

-- The words after a put into a cell: its word is the new one. What is no cell takes none.
abbrev pub cell_put : List ℕ → (ℕ → ℕ) → ℕ → ℕ → (ℕ → ℕ)
cell_put widths words a w = λ b. cond (a == b && nat_lt a (length widths)) w (words b)

-- The table with other words.
abbrev pub with_words : Table → (ℕ → ℕ) → Table
with_words t words = record { widths = t.widths; words = words; sound = t.sound }

-- The table after a put into a cell.
abbrev pub table_put : Table → ℕ → ℕ → Table
table_put t a w = with_words t (cell_put t.widths t.words a w)

-- Where a table begins: every word is 0.
abbrev pub no_words : ℕ → ℕ
no_words a = 0
