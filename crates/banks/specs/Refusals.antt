-- The refusal that each fault is.
use Rattle.std.specs.Prelude.{ℕ}
use Rattle.numbers.specs.Refusals.{at_place}
use Rattle.numbers.specs.declared.refusal.Refusal.{Refusal}
use Rattle.banks.specs.declared.fault.BankFault.TheVariants.{Count, Width, Names}
use Rattle.banks.specs.declared.fault.BankFault.{BankFault}
use Rattle.banks.specs.declared.misfit.FitFault.TheVariants.{AtRow, AtParameter}
use Rattle.banks.specs.declared.misfit.FitFault.{FitFault}
use Rattle.banks.specs.declared.misfit.Side.TheVariants.{Before, After}
use Rattle.banks.specs.declared.misfit.Side.{Side}

-- A bank that is not made is refusal 15, which names nothing else.
abbrev pub bank_refusal : BankFault → Refusal
bank_refusal Count = at_place 15 0
bank_refusal Width = at_place 15 0
bank_refusal Names = at_place 15 0

-- Refusal 7 names the side, 1 before and 2 after, and a row of that side at a place.
abbrev pub misfit : Side → ℕ → ℕ → Refusal
misfit Before place row = record { number = 7; side = 1; place = place; before = row; after = 0 }
misfit After place row = record { number = 7; side = 2; place = place; before = 0; after = row }

-- The place of a row is its block; a parameter stands at 64, by its number.
abbrev pub fit_refusal : FitFault → Refusal
fit_refusal (AtRow side block row) = misfit side block row
fit_refusal (AtParameter side i) = misfit side 64 i
