-- The refusal that each fault of a number is.
use Rattle.std.specs.Prelude.{ℕ}
use Rattle.numbers.specs.declared.fault.NumberFault.{NumberFault}
use Rattle.numbers.specs.declared.fault.NumberFault.TheVariants.{CutOff, NotShortest, TooLarge}
use Rattle.numbers.specs.declared.refusal.Refusal.{Refusal}

-- A refusal that names a place and nothing else.
abbrev pub at_place : ℕ → ℕ → Refusal
at_place number place = record { number = number; side = 0; place = place; before = 0; after = 0 }

-- All are refusal 1, at the number's first byte.
abbrev pub number_refusal : NumberFault → Refusal
number_refusal (CutOff at) = at_place 1 at
number_refusal (NotShortest at) = at_place 1 at
number_refusal (TooLarge at) = at_place 1 at
