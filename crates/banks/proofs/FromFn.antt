-- An array made by a closure that changes nothing.
use Rattle.std.proofs.Common.{◌≡◌, ℕ, zero, suc, ◌+◌, ◌<◌, ◌≤◌, List, get_or, sym, subst, arith}
use Rattle.std.specs.Array.{IsFromFnResultFrom}
use denote.Param.Members.{Mut, Called}
use Rattle.banks.specs.Splits.{by_equal}

-- What one call shows of its number and its answer, the array shows at each place.
module _ {F B : Type 0} (g : Mut F (ℕ × Unit {0}) B) (P : ℕ → B → Type 0) (f : F) (one : (i : ℕ) (y : B) (q : F) → Called g f (i, tt) y q → P i y × (q ≡ f)) (ys : List B) (d : B) where
  pub made_at : (n i : ℕ) → IsFromFnResultFrom g f ys i n → (k : ℕ) → i ≤ k → k < i + n → P k (get_or ys k d)
  made_at zero i h k l m = absurd (omega arith)
  made_at (suc n) i h k l m = by_equal k i
      (λ e t. subst (λ x. P x (get_or ys x d)) (sym e) (subst (P i) (sym (h.2.1 d)) (one i h.1 h.0 h.3).0))
      (λ e t. made_at n (i + 1) (subst (λ p. IsFromFnResultFrom g p ys (i + 1) n) (one i h.1 h.0 h.3).1 h.4) k (omega arith) (omega arith))
