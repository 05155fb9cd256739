use Rattle.std.proofs.Common.{◌≡◌, ◌-◌, length, take}
use Rattle.banks.specs.Meanings.{by_place}
use Rattle.banks.specs.Paired.{number_in}
use Rattle.banks.proofs.paired.number_in.Given as goal

-- the cells that are still to come stand in front, and those behind them are read
abbrev pub invariant-loop-cell : goal.invariant-loop-cell
invariant-loop-cell l =
    let left = length l.cell-iterator.iter.rest.now in
    record {
      front : l.cell-iterator.iter.rest.now ≡ take left l.cells;
      number : l.number ≡ number_in (by_place l.cells) left (length l.cells - left);
    }
