use Rattle.std.proofs.Common.{◌≡◌, length, take, replicate}
use Rattle.banks.specs.Table.{widths_of, words_of}
use Rattle.banks.proofs.cells.parts.spread.Given as goal

-- the widths passed so far stand in the row, and every word is still 0
abbrev pub invariant-loop-a : goal.invariant-loop-a
invariant-loop-a l = record {
  long : length l.cells ≡ 64;
  widths : take l.a (widths_of l.cells) ≡ take l.a l.widths;
  words : words_of l.cells ≡ replicate 64 0;
}
