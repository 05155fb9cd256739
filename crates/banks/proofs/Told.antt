-- Words that tell, bit by bit, of which numbers a test holds.
use Rattle.std.proofs.Common.{◌≡◌, ℕ, ◌+◌, ◌*◌, ◌%◌, ◌^◌, ◌<◌, ◌≤◌, Bool, true, false, eqb, bit_or, w64, sym, ap, ◌∙◌, subst, arith}
use Rattle.std.proofs.lemmas.Nat.Bits.{bit_at_set_same, bit_at_set_other}
use Rattle.banks.specs.Words.{bit}
use Rattle.banks.specs.Splits.{by_equal}

-- The bits below n tell what P says of them, and no other is set.
pub record Told (P : ℕ → Bool → Type 0) (n word : ℕ) : Type 0 where
  pub told : (k : ℕ) → k < n → P k (bit word k)
  pub rest : (k : ℕ) → n ≤ k → bit word k ≡ false

-- One more number is told.
module _ (P : ℕ → Bool → Type 0) (n word : ℕ) (h : n < 64) (t : Told P n word) where
  other : (k : ℕ) → (k ≡ n → ⊥) → bit (bit_or word (1 * 2 ^ n % 2 ^ 64)) k ≡ bit word k
  other k q = ap (λ x. eqb x 1) (bit_at_set_other w64 word n h k q)

  pub told_set : P n true → Told P (n + 1) (bit_or word (1 * 2 ^ n % 2 ^ 64))
  told_set p = record {
    told = λ k l. by_equal k n
        (λ q e. subst (λ x. P x (bit (bit_or word (1 * 2 ^ n % 2 ^ 64)) x)) (sym q) (subst (P n) (sym (ap (λ x. eqb x 1) (bit_at_set_same w64 word n h))) p))
        (λ q e. subst (P k) (sym (other k q)) (t.told k (omega arith)));
    rest = λ k l. other k (λ q. absurd (omega arith)) ∙ t.rest k (omega arith);
  }

  pub told_not : P n false → Told P (n + 1) word
  told_not p = record {
    told = λ k l. by_equal k n
        (λ q e. subst (λ x. P x (bit word x)) (sym q) (subst (P n) (sym (t.rest n (omega arith))) p))
        (λ q e. t.told k (omega arith));
    rest = λ k l. t.rest k (omega arith);
  }
