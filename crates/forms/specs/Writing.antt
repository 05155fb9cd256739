-- How a form is written.
use Rattle.std.specs.Prelude.{◌≡◌, ℕ, ◌-◌, ◌^◌, ◌≤◌, Bool, true, cond, ◌&&◌, List, [], ◌∷◌, ◌++◌, length, Some, None, Ok, Option, nat_lt}
use Rattle.numbers.specs.Writing.{written}
use Rattle.forms.specs.declared.limits.Limits.{Limits}
use Rattle.forms.specs.declared.row.Row.{Row}
use Rattle.forms.specs.Code.{Code, row_count}
use Rattle.forms.specs.Reading.{reading}
use Rattle.forms.specs.Rows.{limits_of}
use Rattle.forms.specs.Rules.{code_ok}

-- A field is a number; one that the kind lacks is not written.
abbrev pub field_bytes : Option ℕ → ℕ → List ℕ
field_bytes None value = []
field_bytes (Some highest) value = written value

-- A constant, where there is one.
abbrev pub word_bytes : Bool → ℕ → List ℕ
word_bytes there value = cond there (written value) []

-- The fields of a row: o and k come before the names, c, t and f after them.
abbrev pub fields_bytes : Limits → Row → List ℕ
fields_bytes l r =
    field_bytes l.o r.o ++ (field_bytes l.k r.k ++ (field_bytes l.d r.d ++ (field_bytes l.a r.a
    ++ (field_bytes l.b r.b ++ (word_bytes l.c r.c ++ (field_bytes l.t r.t ++ field_bytes l.f r.f))))))

-- A row: its kind, then its fields.
abbrev pub row_bytes : ℕ → Row → List ℕ
row_bytes last r = written r.kind ++ fields_bytes (limits_of r.kind last) r

-- Rows one after the other.
abbrev pub rows_bytes : ℕ → List Row → List ℕ
rows_bytes last [] = []
rows_bytes last (r ∷ rows) = row_bytes last r ++ rows_bytes last rows

-- Blocks one after the other, each its row count and its rows.
abbrev pub blocks_bytes : ℕ → List (List Row) → List ℕ
blocks_bytes last [] = []
blocks_bytes last (block ∷ blocks) = written (length block) ++ (rows_bytes last block ++ blocks_bytes last blocks)

-- Names one after the other.
abbrev pub names_bytes : List ℕ → List ℕ
names_bytes [] = []
names_bytes (x ∷ names) = written x ++ names_bytes names

-- A form: block count, parameter count, the parameters' names, the blocks.
abbrev pub code_bytes : Code → List ℕ
code_bytes code =
    written (length code.blocks) ++ (written (length code.params) ++ (names_bytes code.params ++ blocks_bytes (length code.blocks - 1) code.blocks))

-- Whatever reads as a form is what would be written for it.
abbrev pub IsWritten : List ℕ → ℕ → Type 0
IsWritten bytes room = (code : Code) → (reading bytes room).outcome ≡ Ok code → bytes ≡ code_bytes code

-- The constants of rows are words.
abbrev pub words_ok : List Row → Bool
words_ok [] = true
words_ok (r ∷ rows) = nat_lt r.c (2 ^ 64) && words_ok rows

-- The constants of all blocks are.
abbrev pub all_words : List (List Row) → Bool
all_words [] = true
all_words (block ∷ blocks) = words_ok block && all_words blocks

-- The bytes of every code that keeps the rules are read as that code, where there is room for its rows.
abbrev pub Accepts : List ℕ → ℕ → Type 0
Accepts bytes room =
    (code : Code) → code_ok code ≡ true → all_words code.blocks ≡ true → bytes ≡ code_bytes code → row_count code ≤ room → (reading bytes room).outcome ≡ Ok code
