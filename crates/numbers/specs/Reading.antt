-- What the bytes at a place say: a number in groups of seven bits, lowest first; the top bit of a byte says that another group follows.
use Rattle.std.specs.Prelude.{ℕ, zero, suc, ◌+◌, ◌-◌, ◌*◌, ◌^◌, cond, ◌&&◌, List, [], ◌∷◌, drop, Ok, Err, Result, ◌==◌, nat_lt}
use Rattle.numbers.specs.declared.fault.NumberFault.{NumberFault}
use Rattle.numbers.specs.declared.fault.NumberFault.TheVariants.{CutOff, NotShortest, TooLarge}
use Rattle.numbers.specs.declared.read.Parsed.{Parsed}

-- At most `left` more groups. The number begins at `at`; `next` is the byte to read now, `value` what the groups before it say, and one in this group is worth `scale`.
abbrev pub groups : ℕ → ℕ → ℕ → ℕ → ℕ → List ℕ → Result (Parsed ℕ) NumberFault
groups zero at next value scale bytes = Err (TooLarge at)
groups (suc left) at next value scale [] = Err (CutOff at)
groups (suc left) at next value scale (b ∷ bytes) =
    cond (nat_lt b 128)
    (cond (b == 0 && nat_lt at next) (Err (NotShortest at))
    (cond (nat_lt (value + b * scale) (2 ^ 64)) (Ok (record { value = value + b * scale; next = next + 1 })) (Err (TooLarge at))))
    (groups left at (next + 1) (value + (b - 128) * scale) (scale * 128) bytes)

-- The number at a place, with the place after it; or why there is none.
abbrev pub number : List ℕ → ℕ → Result (Parsed ℕ) NumberFault
number bytes at = groups 10 at at 0 1 (drop at bytes)
