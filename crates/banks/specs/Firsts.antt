-- The first of several things that may be there.
use Rattle.std.specs.Prelude.{Some, None, Option}

infixr 20 ◌otherwise◌
-- The first of two, or the other where it is not there.
abbrev pub ◌otherwise◌ : {A : Type 0} → Option A → Option A → Option A
None otherwise other = other
Some x otherwise other = Some x
