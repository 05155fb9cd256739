-- What an outline tells is what the bank describes.
use Rattle.std.proofs.Common.{◌≡◌, ℕ, ◌<◌, ◌≤◌, Bool, false, length, get_or, ◌==◌, sym, ap, ◌∙◌, le_trans, arith}
use Rattle.std.proofs.lemmas.List.{get_or_past}
use Rattle.std.proofs.lemmas.Nat.Bits.{bit_at-zero}
use Rattle.banks.specs.declared.loss.Loss.{Loss}
use Rattle.banks.specs.declared.loss.Loss.TheVariants.{Call, Pause}
use Rattle.banks.specs.declared.outline.Outline.{Outline}
use Rattle.banks.specs.Kind.{Description, Described}
use Rattle.banks.specs.Outlines.{Bits, kept_word, outlined}
use Rattle.banks.specs.Words.{bit}
use Rattle.banks.specs.Splits.{by_order}

-- A word tells a set of numbers below 64, if it tells it of these.
pub bits_all : (word : ℕ) (set : ℕ → Bool) → ((i : ℕ) → i < 64 → bit word i ≡ set i) → ((i : ℕ) → 64 ≤ i → bit word i ≡ false) → ((i : ℕ) → 64 ≤ i → set i ≡ false) → Bits word set
bits_all word set told others none i = by_order i 64 (λ l t. told i l) (λ l t. others i l ∙ sym (none i l))

module _ {d : Description} (D : Described d) where
  -- No name is 64 or above.
  pub no_touch_above : (a b : ℕ) → 64 ≤ b → d.touches a b ≡ false
  no_touch_above a b h = D.touches_back a b ∙ D.no_touch b a (le_trans D.few h)

  pub not_over_above : (l : Loss) (a : ℕ) → 64 ≤ a → d.kept_over l a ≡ false
  not_over_above l a h = D.not_over l a (le_trans D.few h)

  -- An outline of 64 places describes what its places tell.
  module _ (o : Outline) (names : o.names ≡ d.names)
      (many_widths : length o.widths ≡ 64) (width : (a : ℕ) → a < 64 → get_or o.widths a 0 ≡ d.width a)
      (many_touched : length o.touched ≡ 64) (touches : (a : ℕ) → a < 64 → Bits (get_or o.touched a 0) (d.touches a))
      (call : Bits o.kept_over_call (d.kept_over Call)) (pause : Bits o.kept_over_pause (d.kept_over Pause)) where
    width_is : (a : ℕ) → get_or o.widths a 0 ≡ d.width a
    width_is a = by_order a 64 (λ l t. width a l) (λ l t. get_or_past o.widths a 0 (omega arith) ∙ sym (D.no_width a (le_trans D.few l)))

    touches_is : (a b : ℕ) → bit (get_or o.touched a 0) b ≡ d.touches a b
    touches_is a b = by_order a 64
        (λ l t. touches a l b)
        (λ l t. ap (λ w. bit w b) (get_or_past o.touched a 0 (omega arith)) ∙ ap (λ x. x == 1) (bit_at-zero b) ∙ sym (D.no_touch a b (le_trans D.few l)))

    kept_is : (l : Loss) (a : ℕ) → bit (kept_word o l) a ≡ d.kept_over l a
    kept_is Call = call
    kept_is Pause = pause

    pub outline_is : outlined o ≡ d
    outline_is = λ i. record {
      names = names i;
      width = λ a. width_is a i;
      touches = λ a b. touches_is a b i;
      kept_over = λ l a. kept_is l a i;
    }
