use Rattle.std.proofs.Common.{◌≡◌, ℕ, List, ◌++◌, Some, vec_items}
use Rattle.std.specs.Slice.Iter.{chunks_rest, chunks_size}
use Rattle.texts.specs.Digits.{pairs, then}
use Rattle.texts.proofs.numerals.push_pairs.Given as goal

abbrev pub invariant-loop-digits : goal.invariant-loop-digits
invariant-loop-digits l =
    (chunks_size l.digits-iterator ≡ 2)
    × (xs : List ℕ) × (vec_items l.bytes ≡ vec_items l.initial.bytes ++ xs) × (pairs l.word ≡ then (pairs (chunks_rest l.digits-iterator)) (λ ys. Some (xs ++ ys)))
