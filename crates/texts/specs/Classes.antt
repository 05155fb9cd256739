-- Classes of bytes, and what a name is.
use Rattle.std.specs.Prelude.{ℕ, Bool, ◌&&◌, ◌||◌, List, length, ◌==◌, nat_lt}
use Rattle.std.specs.List.{prefix_len}
use Rattle.std.specs.Int.{is_in_range}

-- A space, a tab or a carriage return: these separate words.
abbrev pub blank : ℕ → Bool
blank b = b == 32 || (b == 9 || b == 13)

-- A letter, a digit, an underscore or a hyphen.
abbrev pub letter : ℕ → Bool
letter b = is_in_range 97 122 b || (is_in_range 65 90 b || (is_in_range 48 57 b || (b == 95 || b == 45)))

-- A name: one such byte at least, and no other.
abbrev pub is_name : List ℕ → Bool
is_name bs = nat_lt 0 (length bs) && prefix_len letter bs == length bs
