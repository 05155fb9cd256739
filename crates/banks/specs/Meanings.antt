-- What the code's banks mean.
use Rattle.std.specs.Prelude.{ℕ, ◌⊎◌, List, take, slice_index}
use Rattle.std.proofs.Common.{inl, inr}
use Rattle.banks.specs.declared.cells.Cells.{Cells}
use Rattle.banks.specs.declared.either.Either.TheVariants.{First, Second}
use Rattle.banks.specs.declared.either.Either.{Either}
use Rattle.banks.specs.declared.nested.Nested.{Nested}
use Rattle.banks.specs.declared.paired.Paired.{Paired}
use Rattle.banks.specs.Table.{Table, widths_of, words_of}

-- A list of numbers, by their places.
abbrev pub by_place : List ℕ → (ℕ → ℕ)
by_place numbers = λ i. slice_index numbers i

-- Cells are a table of as many widths as they count.
abbrev pub table_of : Cells → Table
table_of cells = record { widths = take cells.count (widths_of cells.cells); words = by_place (words_of cells.cells); sound = cells.sound.2 }

-- The words of the units.
abbrev pub units_of : Nested → (ℕ → ℕ)
units_of bank = by_place bank.units

-- The bytes of the cells.
abbrev pub bytes_of : Paired → (ℕ → ℕ)
bytes_of bank = by_place bank.cells

-- What the one of two banks means that it is.
abbrev pub chosen : {A B X Y : Type 0} → (A → X) → (B → Y) → Either A B → X ⊎ Y
chosen f g (First a) = inl (f a)
chosen f g (Second b) = inr (g b)
