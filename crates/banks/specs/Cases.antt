-- Worked cases of banks, and the claim that they all hold.
use Rattle.std.specs.Prelude.{◌≡◌, ℕ, Bool, true, false, List, [], ◌∷◌}
use Rattle.banks.specs.Nested.{nested_from, nested_look, nested_put}
use Rattle.banks.specs.Paired.{paired_description}

-- A case, with what it should come to.
pub data Case : Type 0 where
  -- Nested made from a word: a second word put under a name makes another name show a value.
  nested_put_shows : (word name second other value : ℕ) → Case
  -- Whether a name of Paired touches another.
  paired_touch : (a b : ℕ) → Bool → Case

-- What a case claims.
abbrev pub Holds : Case → Type 0
Holds (nested_put_shows word name second other value) = nested_look (nested_put (nested_from word) name second) other ≡ value
Holds (paired_touch a b answer) = paired_description.touches a b ≡ answer

-- All cases of a list hold.
abbrev pub AllHold : List Case → Type 0
AllHold [] = Unit {0}
AllHold (c ∷ cases) = Holds c × AllHold cases

-- Four bytes clear the upper half of a unit, and one byte leaves the rest. A four touches the pair in it, and not the next.
abbrev pub bank_cases : List Case
bank_cases =
    nested_put_shows 0x1122334455667788 2 0xaabbccdd 3 0xaabbccdd
    ∷ nested_put_shows 0x1122334455667788 0 0x99 3 0x1122334455667799
    ∷ paired_touch 24 17 true
    ∷ paired_touch 24 18 false
    ∷ []
