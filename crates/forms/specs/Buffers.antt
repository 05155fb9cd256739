-- What is written into a lent buffer.
use Rattle.std.specs.Prelude.{ℕ, ◌+◌, List, [], ◌∷◌, map, length, Ok, Err, Result, slice_set}
use Rattle.numbers.specs.declared.read.Parsed.{Parsed}
use Rattle.forms.specs.declared.fault.FormFault.{FormFault}

module _ {X : Type 0} where
  -- The buffer with the items written over it, one after the other from a place on.
  abbrev pub over : ℕ → List X → List X → List X
  over place [] buffer = buffer
  over place (x ∷ items) buffer = over (place + 1) items (slice_set buffer place x)

  -- The same of items that were read.
  abbrev pub onto : ℕ → List X → Result (Parsed (List X)) FormFault → Result (Parsed (List X)) FormFault
  onto place buffer (Ok p) = Ok (record { value = over place p.value buffer; next = p.next })
  onto place buffer (Err e) = Err e

  -- The lengths of lists that were read.
  abbrev pub lengths : Result (Parsed (List (List X))) FormFault → Result (Parsed (List ℕ)) FormFault
  lengths (Ok p) = Ok (record { value = map length p.value; next = p.next })
  lengths (Err e) = Err e
