use Rattle.banks.proofs.Told.{Told}
use Rattle.banks.proofs.outline.mask.Given as goal

-- the numbers below `i` are told
abbrev pub invariant-loop-i : goal.invariant-loop-i
invariant-loop-i g l = goal.F-IsAlwaysCallable g l.holds × Told (goal.F-post g l.holds) l.i l.word
