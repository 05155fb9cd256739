-- Variables: each name has a declared width, touches only itself, and is kept over everything.
use Rattle.std.specs.Prelude.{ℕ, ◌&&◌, List, length, ◌==◌, nat_lt, slice_index}
use Rattle.banks.specs.Kind.{Description, Kind}
use Rattle.banks.specs.Table.{Table, cell_look, table_put}

-- Variables of these widths.
abbrev pub variables_of : List ℕ → Description
variables_of widths = record {
  names = length widths;
  width = λ a. slice_index widths a;
  touches = λ a b. (a == b) && nat_lt a (length widths);
  kept_over = λ l a. nat_lt a (length widths);
}

-- The kind: each name is a cell of a table, and nothing is lost.
abbrev pub variables : Kind
variables = record {
  Meaning = Table;
  describe = λ t. variables_of t.widths;
  look = λ t a. cell_look t.widths t.words a;
  put = table_put;
  lose = λ t l w. t;
}
