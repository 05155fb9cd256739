-- The bits of words, for whoever works on words that stand for sets.
use Rattle.std.proofs.Common.{◌≡◌, ℕ, zero, suc, ◌*◌, ◌/◌, ◌%◌, ◌^◌, ◌<◌, max, true, false, ◌&&◌, ◌||◌, eqb, sym, refl, ap, ◌∙◌, arith}
use native.Mathlib.Nat.{zero-div, pow-succ', div-eq_of_lt, div-div-eq-div-mul}
use lib.Bits.{bit_or, or_shr, or_step}
use lib.Dec.{eqb-suc-zero, eqb-zero-suc, eqb-suc-suc}
use Rattle.std.proofs.lemmas.Nat.{pow_below, one_shl}
use Rattle.banks.specs.Words.{bit}

max_digit : (p q : ℕ) → p < 2 → q < 2 → eqb (max p q) 1 ≡ (eqb p 1 || eqb q 1)
max_digit zero zero h l = refl
max_digit zero (suc zero) h l = refl
max_digit (suc zero) zero h l = refl
max_digit (suc zero) (suc zero) h l = refl
max_digit zero (suc (suc q)) h l = absurd (omega arith)
max_digit (suc zero) (suc (suc q)) h l = absurd (omega arith)
max_digit (suc (suc p)) q h l = absurd (omega arith)

low_or : (a b : ℕ) → bit_or a b % 2 ≡ max (a % 2) (b % 2)
low_or a b = let step = or_step a b in omega arith

pub bit_of_or : (a b r : ℕ) → bit (bit_or a b) r ≡ (bit a r || bit b r)
bit_of_or a b r =
    ap (λ w. eqb (w % 2) 1) (or_shr a b r)
    ∙ ap (λ w. eqb w 1) (low_or (a / 2 ^ r) (b / 2 ^ r))
    ∙ max_digit (a / 2 ^ r % 2) (b / 2 ^ r % 2) (omega arith) (omega arith)

pub bit_none : (r : ℕ) → bit 0 r ≡ false
bit_none r = rw zero-div

-- A power of two has one bit.
pub bit_power : (k r : ℕ) → bit (2 ^ k) r ≡ eqb r k
bit_power zero zero = refl
bit_power zero (suc r) = ap (λ w. eqb (w % 2) 1) (div-eq_of_lt (pow_below 0 (suc r) (omega arith))) ∙ sym (eqb-suc-zero r)
bit_power (suc k) zero =
    let even : 2 ^ suc k / 2 ^ 0 % 2 ≡ 0 = omega (arith, pow-succ' 2 k) in
    ap (λ w. eqb w 1) even ∙ sym (eqb-zero-suc k)
bit_power (suc k) (suc r) = ap (λ w. eqb (w % 2) 1) halves ∙ bit_power k r ∙ sym (eqb-suc-suc r k)
  where
    halves : 2 ^ suc k / 2 ^ suc r ≡ 2 ^ k / 2 ^ r
    halves = rw (pow-succ' 2 k, pow-succ' 2 r, ← div-div-eq-div-mul (2 * 2 ^ k) 2 (2 ^ r)) (ap (λ x. x / 2 ^ r) (omega arith))

-- One more bit is set.
pub bit_set : (word i k : ℕ) → i < 64 → bit (bit_or word ((1 * 2 ^ i) % 2 ^ 64)) k ≡ (bit word k || (true && eqb k i))
bit_set word i k h = bit_of_or word ((1 * 2 ^ i) % 2 ^ 64) k ∙ ap (λ b. bit word k || b) (ap (λ w. bit w k) (one_shl i 64 h) ∙ bit_power i k)
