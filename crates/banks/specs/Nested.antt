-- Nested: units 0 to 7 of eight bytes, lowest byte first. Name 4 × u + k is the lowest 2^k bytes of unit u.
use Rattle.std.specs.Prelude.{ℕ, ◌+◌, ◌*◌, ◌/◌, ◌%◌, ◌^◌, cond, ◌&&◌, ◌==◌, nat_le, nat_lt}
use Rattle.banks.specs.declared.loss.Loss.{Loss}
use Rattle.banks.specs.declared.loss.Loss.TheVariants.{Call, Pause}
use Rattle.banks.specs.Kind.{Description, Kind}
use Rattle.banks.specs.Words.{lowest}

-- The unit of a name.
abbrev pub unit_of : ℕ → ℕ
unit_of a = a / 4

-- The bytes of a name: 1, 2, 4 or 8 of its unit.
abbrev pub nested_width : ℕ → ℕ
nested_width a = cond (nat_lt a 32) (2 ^ (a % 4)) 0

-- A unit after a put of w into its lowest bytes: one or two bytes leave the rest, four clear the upper four, and eight are all.
abbrev pub unit_after : ℕ → ℕ → ℕ → ℕ
unit_after width old w = cond (nat_le width 2) (old / 2 ^ (8 * width) * 2 ^ (8 * width) + lowest w width) (lowest w width)

-- How many units a loss takes, the first of them: four at a call, and all at a pause.
abbrev pub units_lost : Loss → ℕ
units_lost Call = 4
units_lost Pause = 8

-- Two names touch if they share a unit. A name is kept over a loss that does not take its unit.
abbrev pub nested_description : Description
nested_description = record {
  names = 32;
  width = nested_width;
  touches = λ a b. nat_lt a 32 && (nat_lt b 32 && unit_of a == unit_of b);
  kept_over = λ l a. nat_lt a 32 && nat_le (units_lost l) (unit_of a);
}

-- What a name holds, where the units hold `units`.
abbrev pub nested_look : (ℕ → ℕ) → ℕ → ℕ
nested_look units a = lowest (units (unit_of a)) (nested_width a)

-- The units after a put. A number that is no name has no bytes, so that nothing changes.
abbrev pub nested_put : (ℕ → ℕ) → ℕ → ℕ → (ℕ → ℕ)
nested_put units a w = λ u. cond (unit_of a == u) (unit_after (nested_width a) (units u) w) (units u)

-- The units after the first n of them are lost: each becomes the word.
abbrev pub lost_units : ℕ → (ℕ → ℕ) → ℕ → (ℕ → ℕ)
lost_units n units w = λ u. cond (nat_lt u n) w (units u)

-- A new bank: as if all units had been lost with a word.
abbrev pub nested_from : ℕ → (ℕ → ℕ)
nested_from w = lost_units 8 (λ _. 0) w

-- The kind. It means the words of its units.
abbrev pub nested : Kind
nested = record {
  Meaning = ℕ → ℕ;
  describe = λ units. nested_description;
  look = nested_look;
  put = nested_put;
  lose = λ units l w. lost_units (units_lost l) units w;
}
