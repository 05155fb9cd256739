-- What is written into a buffer, one item and one part at a time.
use Rattle.std.proofs.Common.{◌≡◌, ℕ, suc, ◌+◌, ◌-◌, ◌<◌, ◌≤◌, List, [], ◌∷◌, ◌++◌, length, take, drop, set, Ok, Err, Result, sym, refl, ◌∙◌, arith, length-set}
use Rattle.std.proofs.lemmas.List.{append_assoc, take_more_set, take-set-le, drop-set-lt, drop-set-add, take-append-drop}
use Rattle.numbers.specs.declared.read.Parsed.{Parsed}
use Rattle.forms.specs.declared.fault.FormFault.{FormFault}
use Rattle.forms.specs.Buffers.{over, onto}
use Rattle.forms.specs.Reading.{before}

-- one turn of a loop that counts up
pub fuel : (n i : ℕ) → i < n → n - i ≡ suc (n - (i + 1))
fuel n i h = omega arith

module _ {X : Type 0} where
  -- an item before the others is written before them
  pub onto_before : (place : ℕ) (buffer : List X) (x : X) (r : Result (Parsed (List X)) FormFault)
      → onto place buffer (before x r) ≡ onto (place + 1) (set buffer place x) r
  onto_before place buffer x (Ok p) = refl
  onto_before place buffer x (Err e) = refl

  -- a part and then the rest
  pub over_append : (place : ℕ) (xs ys buffer : List X) → over place (xs ++ ys) buffer ≡ over (place + length xs) ys (over place xs buffer)
  over_append place [] ys buffer = let z : place + 0 ≡ place = omega arith in rw z refl
  over_append place (x ∷ xs) ys buffer =
      let z : (place + 1) + length xs ≡ place + suc (length xs) = omega arith in
      over_append (place + 1) xs ys (set buffer place x) ∙ rw z refl

  pub length_over : (place : ℕ) (xs buffer : List X) → length (over place xs buffer) ≡ length buffer
  length_over place [] buffer = refl
  length_over place (x ∷ xs) buffer = length_over (place + 1) xs (set buffer place x) ∙ length-set buffer place x

  -- what was written stands where it was written, and what stood around it stands there still
  over_is : (place : ℕ) (xs buffer : List X) → place + length xs ≤ length buffer
      → over place xs buffer ≡ take place buffer ++ (xs ++ drop (place + length xs) buffer)
  over_is place [] buffer h = let z : place + 0 ≡ place = omega arith in rw z (sym (take-append-drop place buffer))
  over_is place (x ∷ xs) buffer h =
      let l : place < length buffer = omega arith in
      let n : (place + 1) + length xs ≡ place + suc (length xs) = omega arith in
      let m : place < place + suc (length xs) = omega arith in
      over_is (place + 1) xs (set buffer place x) (omega (arith, length-set buffer place x))
      ∙ rw (take_more_set buffer place x l, n, drop-set-lt (place + suc (length xs)) buffer place x m) (append_assoc (take place buffer) (x ∷ []) (xs ++ drop (place + suc (length xs)) buffer))

  pub over_start : (xs buffer : List X) → length xs ≤ length buffer → over 0 xs buffer ≡ xs ++ drop (length xs) buffer
  over_start xs buffer h =
      let z : 0 + length xs ≡ length xs = omega arith in
      rw z at (over_is 0 xs buffer (omega arith))

  -- what stands before the place stays
  over_after : (place k : ℕ) (xs buffer : List X) → over (k + place) xs buffer ≡ take k buffer ++ over place xs (drop k buffer)
  over_after place k [] buffer = sym (take-append-drop k buffer)
  over_after place k (x ∷ xs) buffer =
      let z : (k + place) + 1 ≡ k + (place + 1) = omega arith in
      rw z (over_after (place + 1) k xs (set buffer (k + place) x)
      ∙ rw (take-set-le k buffer (k + place) x (omega arith), drop-set-add k buffer place x) refl)

  pub over_behind : (place : ℕ) (xs buffer : List X) → over place xs buffer ≡ take place buffer ++ over 0 xs (drop place buffer)
  over_behind place xs buffer = let z : place + 0 ≡ place = omega arith in rw z at (over_after 0 place xs buffer)
