-- What a reader does: it reads at its place in the bytes, and then stands after what it read.
use Rattle.std.specs.Prelude.{◌≡◌, ℕ, List, Ok, Err, Result}
use Rattle.numbers.specs.Reading.{number}
use Rattle.numbers.specs.declared.read.Parsed.{Parsed}
use Rattle.forms.specs.declared.fault.FormFault.{FormFault}
use Rattle.forms.specs.declared.read.Reader.{Reader}
use Rattle.forms.specs.Reading.{lifted}

-- What was read, with the place after it.
abbrev pub placed_at : {X : Type 0} → ℕ → Result X FormFault → Result (Parsed X) FormFault
placed_at at (Ok value) = Ok (record { value = value; next = at })
placed_at at (Err e) = Err e

-- The reader looks at the same bytes as before; what it answers, and where it stands after what was read, is what `read` says of its place. (Where it stands after a fault is left open.)
abbrev pub Reads : {X : Type 0} → (List ℕ → ℕ → Result (Parsed X) FormFault) → Reader → Reader → Result X FormFault → Type 0
Reads read old new result = (new.bytes ≡ old.bytes) × (placed_at new.at result ≡ read old.bytes.now old.at)

-- A number as it stands; its fault is the form's.
abbrev pub number_at : List ℕ → ℕ → Result (Parsed ℕ) FormFault
number_at bytes at = lifted (number bytes at)

-- Where a reading ended, if nothing else is told.
abbrev pub reached : Result ℕ FormFault → Result (Parsed (Unit {0})) FormFault
reached (Ok next) = Ok (record { value = tt; next = next })
reached (Err e) = Err e
