-- What the bytes of a form say: numbers and fields, a row, the counts and names; then readings that store rows, and the whole form; last, what a call leaves.
use Rattle.std.specs.Prelude.{◌≡◌, ℕ, zero, suc, ◌+◌, ◌-◌, Bool, cond, ◌&&◌, List, [], ◌∷◌, ◌++◌, length, Some, None, Ok, Err, Option, Result, ◌==◌, nat_le, nat_lt}
use Rattle.numbers.specs.Reading.{number}
use Rattle.numbers.specs.declared.fault.NumberFault.{NumberFault}
use Rattle.numbers.specs.declared.read.Parsed.{Parsed}
use Rattle.forms.specs.declared.fault.FormFault.{FormFault}
use Rattle.forms.specs.declared.fault.FormFault.TheVariants.{Number, Count, Range, Ending, LeftOver, NoPlace}
use Rattle.forms.specs.declared.limits.Limits.{Limits}
use Rattle.forms.specs.declared.row.Head.{Head}
use Rattle.forms.specs.declared.row.Row.{Row}
use Rattle.forms.specs.Buffers.{over}
use Rattle.forms.specs.Code.{Code, code_of, head_of}
use Rattle.forms.specs.Rows.{limits_of, placed_ok}
use Rattle.forms.specs.Rules.{count_ok, filled}

-- A number's fault stands whole in the form's.
abbrev pub lifted : Result (Parsed ℕ) NumberFault → Result (Parsed ℕ) FormFault
lifted (Ok p) = Ok p
lifted (Err e) = Err (Number e)

module _ {X Y : Type 0} where
  -- Go on with what was read, unless it was refused.
  abbrev pub and_then : Result X FormFault → (X → Result Y FormFault) → Result Y FormFault
  and_then (Ok x) go = go x
  and_then (Err e) go = Err e

-- A number up to the highest that may stand there.
abbrev pub up_to : ℕ → ℕ → Parsed ℕ → Result (Parsed ℕ) FormFault
up_to highest at p = cond (nat_le p.value highest) (Ok p) (Err (Range at))

-- A field; of one that the kind lacks nothing is read.
abbrev pub field_at : Option ℕ → List ℕ → ℕ → Result (Parsed ℕ) FormFault
field_at None bytes at = Ok (record { value = 0; next = at })
field_at (Some highest) bytes at = and_then (lifted (number bytes at)) (up_to highest at)

-- A constant, where there is one: any number.
abbrev pub word_at : Bool → List ℕ → ℕ → Result (Parsed ℕ) FormFault
word_at there bytes at = cond there (lifted (number bytes at)) (Ok (record { value = 0; next = at }))

-- The fields of a row in the order in which they are written: o and k come before the names, c, t and f after them.
abbrev pub fields_at : Limits → ℕ → List ℕ → ℕ → Result (Parsed Row) FormFault
fields_at l kind bytes at =
    and_then (field_at l.o bytes at) (λ o.
    and_then (field_at l.k bytes o.next) (λ k.
    and_then (field_at l.d bytes k.next) (λ d.
    and_then (field_at l.a bytes d.next) (λ a.
    and_then (field_at l.b bytes a.next) (λ b.
    and_then (word_at l.c bytes b.next) (λ c.
    and_then (field_at l.t bytes c.next) (λ t.
    and_then (field_at l.f bytes t.next) (λ f.
    Ok (record {
      value = record {
        kind = kind;
        o = o.value;
        d = d.value;
        a = a.value;
        b = b.value;
        k = k.value;
        c = c.value;
        t = t.value;
        f = f.value;
      };
      next = f.next;
    })))))))))

-- A row: its kind, then its fields.
abbrev pub row_at : ℕ → List ℕ → ℕ → Result (Parsed Row) FormFault
row_at last bytes at = and_then (field_at (Some 10) bytes at) (λ kind. fields_at (limits_of kind.value last) kind.value bytes kind.next)

-- A count from `low` to `high`.
abbrev pub count_in : ℕ → ℕ → List ℕ → ℕ → Result (Parsed ℕ) FormFault
count_in low high bytes at = and_then (lifted (number bytes at)) (λ p. cond (nat_le low p.value && nat_le p.value high) (Ok p) (Err (Count at)))

-- How many rows a block has, after `used` rows.
abbrev pub row_count_at : ℕ → List ℕ → ℕ → Result (Parsed ℕ) FormFault
row_count_at used bytes at = and_then (lifted (number bytes at)) (λ p. cond (count_ok used p.value) (Ok p) (Err (Count at)))

module _ {X : Type 0} where
  -- One item before the others that were read.
  abbrev pub before : X → Result (Parsed (List X)) FormFault → Result (Parsed (List X)) FormFault
  before x (Ok p) = Ok (record { value = x ∷ p.value; next = p.next })
  before x (Err e) = Err e

-- So many parameters' names.
abbrev pub names_at : ℕ → List ℕ → ℕ → Result (Parsed (List ℕ)) FormFault
names_at zero bytes at = Ok (record { value = []; next = at })
names_at (suc left) bytes at = and_then (field_at (Some 63) bytes at) (λ p. before p.value (names_at left bytes p.next))

-- A reading that stores rows: those stored, whatever comes after them, and what came out.
pub record Reading (X : Type 0) : Type 0 where
  pub stored : List Row
  pub outcome : Result X FormFault

module _ {X : Type 0} where
  -- What came out, with no row stored.
  abbrev pub bare : Result X FormFault → Reading X
  bare outcome = record { stored = []; outcome = outcome }

  -- Rows stored before the others.
  abbrev pub storing : List Row → Reading X → Reading X
  storing rows s = record { stored = rows ++ s.stored; outcome = s.outcome }

module _ {X Y : Type 0} where
  -- Go on with what was read, unless it was refused; a refusal stores nothing more.
  abbrev pub go_on : Result X FormFault → (X → Reading Y) → Reading Y
  go_on (Ok x) go = go x
  go_on (Err e) go = bare (Err e)

-- So many rows of a block, in a form whose last block is `last`; `place` rows are stored already, and there is room for `room`. What comes out is the place after them in the bytes.
abbrev pub rows_at : ℕ → ℕ → ℕ → List ℕ → ℕ → ℕ → Reading ℕ
rows_at zero last room bytes at place = bare (Ok at)
rows_at (suc left) last room bytes at place =
    go_on (row_at last bytes at) (λ p.
    cond (placed_ok (left == 0) p.value)
    (cond (nat_lt place room)
    (storing (p.value ∷ []) (rows_at left last room bytes p.next (place + 1)))
    (bare (Err (NoPlace at))))
    (bare (Err (Ending at))))

-- A block that was read comes before the others; after one that was refused nothing comes.
abbrev pub block_then : List Row → Result ℕ FormFault → (ℕ → Reading (Parsed (List (List Row)))) → Reading (Parsed (List (List Row)))
block_then rows (Ok next) go = record { stored = rows ++ (go next).stored; outcome = before rows (go next).outcome }
block_then rows (Err e) go = record { stored = rows; outcome = Err e }

-- So many blocks, each its row count and its rows.
abbrev pub blocks_at : ℕ → ℕ → ℕ → List ℕ → ℕ → ℕ → Reading (Parsed (List (List Row)))
blocks_at zero last room bytes at place = bare (Ok (record { value = []; next = at }))
blocks_at (suc left) last room bytes at place =
    go_on (row_count_at place bytes at) (λ count.
    let block : Reading ℕ = rows_at count.value last room bytes count.next place in
    block_then block.stored block.outcome (λ next. blocks_at left last room bytes next (place + count.value)))

-- The code, if no bytes are left over.
abbrev pub closed : List ℕ → List ℕ → Parsed (List (List Row)) → Result Code FormFault
closed names bytes p = cond (nat_lt p.next (length bytes)) (Err (LeftOver p.next)) (Ok (record { params = names; blocks = p.value }))

-- A form: block count, parameter count, the parameters' names, the blocks; and nothing after them.
abbrev pub reading : List ℕ → ℕ → Reading Code
reading bytes room =
    go_on (count_in 1 64 bytes 0) (λ n.
    go_on (count_in 0 8 bytes n.next) (λ m.
    go_on (names_at m.value bytes m.next) (λ names.
    let blocks : Reading (Parsed (List (List Row))) = blocks_at n.value (n.value - 1) room bytes names.next 0 in
    record { stored = blocks.stored; outcome = and_then blocks.outcome (closed names.value bytes) })))

-- What the caller is told.
abbrev pub told : Result Code FormFault → Result (Unit {0}) FormFault
told (Ok code) = Ok tt
told (Err e) = Err e

-- The head is written only where nothing is refused.
abbrev pub head_from : Result Code FormFault → Head → Head
head_from (Ok code) old = head_of code
head_from (Err e) old = old

-- Reading bytes into lent rows and a lent head: what it answers.
abbrev pub answer : List ℕ → List Row → Result (Unit {0}) FormFault
answer bytes rows = told (reading bytes (length rows)).outcome

-- The rows after it: those that were stored, written over those lent.
abbrev pub rows_after : List ℕ → List Row → List Row
rows_after bytes rows = over 0 (reading bytes (length rows)).stored rows

-- The head after it.
abbrev pub head_after : List ℕ → List Row → Head → Head
head_after bytes rows old = head_from (reading bytes (length rows)).outcome old

-- A form that was read is filled from the rows and the head, and has the code that the bytes say.
abbrev pub Fills : List ℕ → ℕ → List Row → Head → Type 0
Fills bytes room rows head = (code : Code) → (reading bytes room).outcome ≡ Ok code → (filled rows head ≡ Ok tt) × (code_of rows head ≡ code)
