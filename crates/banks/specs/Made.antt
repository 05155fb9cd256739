-- What comes of making a bank or a frame.
use Rattle.std.specs.Prelude.{◌≡◌, ℕ, ◌+◌, cond, ◌&&◌, List, length, Some, None, Option, nat_le}
use Rattle.banks.specs.declared.fault.BankFault.TheVariants.{Count, Width, Names}
use Rattle.banks.specs.declared.fault.BankFault.{BankFault}
use Rattle.banks.specs.Firsts.{◌otherwise◌}
use Rattle.banks.specs.Table.{Table, all_widths, no_words}

-- Why declared widths make no table of at most so many cells, if they make none.
abbrev pub table_fault : ℕ → List ℕ → Option BankFault
table_fault most widths = cond (nat_le 1 (length widths) && nat_le (length widths) most) (cond (all_widths widths) None (Some Width)) (Some Count)

-- Why they make no frame over a bank of n names, if they make none: there are 1 to 32 slots, and at most 64 names in all.
abbrev pub frame_fault : ℕ → List ℕ → Option BankFault
frame_fault n widths = table_fault 32 widths otherwise cond (nat_le (n + length widths) 64) None (Some Names)

-- A table as it is made: of the declared widths, and every word is 0.
abbrev pub Fresh : List ℕ → Table → Type 0
Fresh widths t = (t.widths ≡ widths) × (t.words ≡ no_words)
