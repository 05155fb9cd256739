-- A write to a list of numbers, by its places.
use Rattle.std.specs.Prelude.{◌≡◌, ℕ, ◌<◌, cond, List, length, ◌==◌, slice_index, slice_set}
use Rattle.std.proofs.Common.{sym, ◌∙◌, subst}
use Rattle.std.proofs.lemmas.Bool.{cond-true, cond-false}
use Rattle.std.proofs.lemmas.List.{get_or-set_same, get_or-set_other}
use Rattle.banks.specs.Splits.{by_equal}

-- The place holds what was written, and every other what it held.
pub place_set : (l : List ℕ) (a v : ℕ) → a < length l → (b : ℕ) → slice_index (slice_set l a v) b ≡ cond (a == b) v (slice_index l b)
place_set l a v i b = by_equal a b
    (λ e t. subst (λ (x : ℕ). slice_index (slice_set l a v) x ≡ v) e (get_or-set_same l a v 0 i) ∙ sym (cond-true (a == b) v (slice_index l b) t))
    (λ n t. get_or-set_other l a b v 0 (λ q. n (sym q)) ∙ sym (cond-false (a == b) v (slice_index l b) t))
