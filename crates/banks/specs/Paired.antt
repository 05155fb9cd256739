-- Paired: one-byte cells 0 to 15, lowest first. Names are the cells, the aligned pairs, the aligned fours and the halves.
use Rattle.std.specs.Prelude.{◌≡◌, ℕ, zero, suc, ◌+◌, ◌-◌, ◌*◌, ◌%◌, Bool, true, cond, ◌&&◌, Decides, nat_le, nat_lt}
use Rattle.banks.specs.declared.loss.Loss.{Loss}
use Rattle.banks.specs.declared.loss.Loss.TheVariants.{Call, Pause}
use Rattle.banks.specs.Kind.{Description, Kind}
use Rattle.banks.specs.Words.{byte_of}

-- How many cells a name has: names 0 to 15 one, 16 to 23 two, 24 to 27 four, 28 and 29 eight.
abbrev pub cells_of : ℕ → ℕ
cells_of a = cond (nat_lt a 16) 1 (cond (nat_lt a 24) 2 (cond (nat_lt a 28) 4 (cond (nat_lt a 30) 8 0)))

-- The first of them.
abbrev pub first_cell : ℕ → ℕ
first_cell a = cond (nat_lt a 16) a (cond (nat_lt a 24) (2 * (a - 16)) (cond (nat_lt a 28) (4 * (a - 24)) (cond (nat_lt a 30) (8 * (a - 28)) 0)))

-- Whether a cell is one of n from `first` on.
abbrev pub among : ℕ → ℕ → ℕ → Bool
among first n c = nat_le first c && nat_lt c (first + n)

-- Whether n cells from s on and m cells from t on share one: each begins before the other ends.
abbrev pub overlap : ℕ → ℕ → ℕ → ℕ → Bool
overlap s n t m = nat_lt s (t + m) && nat_lt t (s + n)

-- How many cells a loss takes, the first of them: eight at a call, and all at a pause.
abbrev pub cells_lost : Loss → ℕ
cells_lost Call = 8
cells_lost Pause = 16

-- Two names touch if they share a cell. A name is kept over a loss that takes none of its cells.
abbrev pub paired_description : Description
paired_description = record {
  names = 30;
  width = cells_of;
  touches = λ a b. overlap (first_cell a) (cells_of a) (first_cell b) (cells_of b);
  kept_over = λ l a. nat_lt a 30 && nat_le (cells_lost l) (first_cell a);
}

-- A cell is one of a name's.
abbrev pub HasCell : ℕ → ℕ → Type 0
HasCell a c = among (first_cell a) (cells_of a) c ≡ true

-- Two names touch exactly if they share a cell.
abbrev pub TouchByCells : Type 0
TouchByCells = (a b : ℕ) → Decides (paired_description.touches a b) ((c : ℕ) × (HasCell a c × HasCell b c))

-- The number that n cells from `first` on hold, the lowest first.
abbrev pub number_in : (ℕ → ℕ) → ℕ → ℕ → ℕ
number_in cells first zero = 0
number_in cells first (suc n) = cells first % 256 + 256 * number_in cells (first + 1) n

-- The cells after n of them, from `first` on, took the bytes of a word. Nothing else changes.
abbrev pub written_in : (ℕ → ℕ) → ℕ → ℕ → ℕ → (ℕ → ℕ)
written_in cells first n w = λ c. cond (among first n c) (byte_of w (c - first)) (cells c)

-- The cells after the first n of them are lost: cell c becomes byte c mod 8 of the word.
abbrev pub lost_cells : ℕ → (ℕ → ℕ) → ℕ → (ℕ → ℕ)
lost_cells n cells w = λ c. cond (nat_lt c n) (byte_of w (c % 8)) (cells c)

-- A new bank: as if all cells had been lost with a word.
abbrev pub paired_from : ℕ → (ℕ → ℕ)
paired_from w = lost_cells 16 (λ _. 0) w

-- The kind. It means the bytes of its cells.
abbrev pub paired : Kind
paired = record {
  Meaning = ℕ → ℕ;
  describe = λ cells. paired_description;
  look = λ cells a. number_in cells (first_cell a) (cells_of a);
  put = λ cells a w. written_in cells (first_cell a) (cells_of a) w;
  lose = λ cells l w. lost_cells (cells_lost l) cells w;
}
