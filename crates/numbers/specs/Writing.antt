-- How a number is written, and what holds between writing and reading.
use Rattle.std.specs.Prelude.{◌≡◌, ℕ, zero, suc, ◌+◌, ◌/◌, ◌%◌, cond, List, [], ◌∷◌, ◌++◌, length, take, drop, Ok, nat_lt}
use Rattle.numbers.specs.declared.read.Parsed.{Parsed}
use Rattle.numbers.specs.Reading.{number}

-- Groups of seven bits, lowest first, in at most `left` bytes.
abbrev pub written_in : ℕ → ℕ → List ℕ
written_in zero n = []
written_in (suc left) n = cond (nat_lt n 128) (n ∷ []) ((128 + n % 128) ∷ written_in left (n / 128))

-- A number below 2^64 as it is written: ten groups suffice.
unfoldable pub written : ℕ → List ℕ
written n = written_in 10 n

-- The bytes from `at` up to the place after the number are that number, written.
abbrev pub WrittenAt : List ℕ → ℕ → Parsed ℕ → Type 0
WrittenAt bytes at p = (p.next ≡ at + length (written p.value)) × (take (length (written p.value)) (drop at bytes) ≡ written p.value)

-- At `at` the bytes say n and end with it, and they still say n whatever follows.
abbrev pub ReadsBack : ℕ → ℕ → List ℕ → Type 0
ReadsBack n at bytes = (rest : List ℕ) → number (bytes ++ rest) at ≡ Ok (record { value = n; next = length bytes })
