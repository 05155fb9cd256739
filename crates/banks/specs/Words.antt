-- Words, by their bytes and bits.
use Rattle.std.specs.Prelude.{ℕ, ◌*◌, ◌/◌, ◌%◌, ◌^◌, Bool, ◌==◌}

-- The lowest bytes of a word, so many as the width says.
abbrev pub lowest : ℕ → ℕ → ℕ
lowest w width = w % 2 ^ (8 * width)

-- Byte i of a word, the lowest first.
abbrev pub byte_of : ℕ → ℕ → ℕ
byte_of w i = w / 2 ^ (8 * i) % 256

-- Bit i of a word, the lowest first.
abbrev pub bit : ℕ → ℕ → Bool
bit w i = w / 2 ^ i % 2 == 1
