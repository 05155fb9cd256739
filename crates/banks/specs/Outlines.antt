-- What an outline describes.
use Rattle.std.specs.Prelude.{◌≡◌, ℕ, Bool, slice_index}
use Rattle.banks.specs.declared.outline.Outline.{Outline}
use Rattle.banks.specs.declared.loss.Loss.{Loss}
use Rattle.banks.specs.declared.loss.Loss.TheVariants.{Call, Pause}
use Rattle.banks.specs.Kind.{Description}
use Rattle.banks.specs.Words.{bit}

-- The bits of a word are those of a set of numbers.
abbrev pub Bits : ℕ → (ℕ → Bool) → Type 0
Bits word set = (i : ℕ) → bit word i ≡ set i

-- The word of an outline that says what is kept over a loss.
abbrev pub kept_word : Outline → Loss → ℕ
kept_word o Call = o.kept_over_call
kept_word o Pause = o.kept_over_pause

-- The description that an outline is the table of.
abbrev pub outlined : Outline → Description
outlined o = record {
  names = o.names;
  width = λ a. slice_index o.widths a;
  touches = λ a b. bit (slice_index o.touched a) b;
  kept_over = λ l. bit (kept_word o l);
}
