-- What digits stand for.
use Rattle.std.specs.Prelude.{◌≡◌, ℕ, ◌+◌, ◌-◌, ◌*◌, ◌^◌, min, cond, ◌&&◌, List, [], ◌∷◌, ◌++◌, drop, Some, None, Ok, Err, Option, Result, ◌==◌, nat_lt, slice_index}
use Rattle.texts.specs.declared.numerals.PairsFault.{PairsFault}
use Rattle.texts.specs.declared.numerals.PairsFault.TheVariants.{NotPairs, Memory}
use Rattle.std.specs.Int.{is_in_range}

-- the value of a hexadecimal digit
abbrev pub digit : ℕ → Option ℕ
digit b = cond (is_in_range 48 57 b) (Some (b - 48)) (cond (is_in_range 97 102 b) (Some (b - 87)) (cond (is_in_range 65 70 b) (Some (b - 55)) None))

-- f of what an option holds
abbrev pub then : {X Y : Type 0} → Option X → (X → Option Y) → Option Y
then None f = None
then (Some x) f = f x

-- the value of a digit in a base
abbrev pub digit_in : ℕ → ℕ → Option ℕ
digit_in base b = then (digit b) (λ d. cond (nat_lt d base) (Some d) None)

-- the number that digits write after those that wrote n
abbrev pub written : ℕ → ℕ → List ℕ → Option ℕ
written base n [] = Some n
written base n (b ∷ bs) = then (digit_in base b) (λ d. written base (n * base + d) bs)

-- the number that one digit or more write
abbrev pub numeral : ℕ → List ℕ → Option ℕ
numeral base [] = None
numeral base (b ∷ bs) = written base 0 (b ∷ bs)

-- what has 64 bits
abbrev pub narrow : Option ℕ → Option ℕ
narrow o = then o (λ n. cond (nat_lt n (2 ^ 64)) (Some n) None)

-- a number with one digit more, where that has 64 bits
abbrev pub extended : ℕ → ℕ → ℕ → Option ℕ
extended base n b = narrow (then (digit_in base b) (λ d. Some (n * base + d)))

-- the number that a word writes: 0x and hexadecimal digits, or decimal digits
abbrev pub number : List ℕ → Option ℕ
number bs = cond (slice_index bs 0 == 48 && slice_index bs 1 == 120) (narrow (numeral 16 (drop 2 bs))) (narrow (numeral 10 bs))

-- the number below 256 that a word writes
abbrev pub byte_number : List ℕ → Option ℕ
byte_number bs = then (number bs) (λ n. cond (nat_lt n 256) (Some n) None)

-- the width that a word declares: a number, and 255, which is no width, for each that is larger
abbrev pub declared_width : List ℕ → Option ℕ
declared_width bs = then (number bs) (λ n. Some (min n 255))

-- the byte that two digits write
abbrev pub pair : ℕ → ℕ → Option ℕ
pair a b = then (digit a) (λ x. then (digit b) (λ y. Some (x * 16 + y)))

-- the bytes that pairs of digits write
abbrev pub pairs : List ℕ → Option (List ℕ)
pairs [] = Some []
pairs (a ∷ []) = None
pairs (a ∷ b ∷ bs) = then (pair a b) (λ x. then (pairs bs) (λ xs. Some (x ∷ xs)))

-- what was pushed on old, giving new: the bytes that a word writes, or not all of them
abbrev pub Pushed : List ℕ → List ℕ → Option (List ℕ) → Result Unit PairsFault → Type 0
Pushed old new wrote (Ok _) = (xs : List ℕ) × (wrote ≡ Some xs) × (new ≡ old ++ xs)
Pushed old new wrote (Err NotPairs) = wrote ≡ None
Pushed old new wrote (Err Memory) = Unit {0}
