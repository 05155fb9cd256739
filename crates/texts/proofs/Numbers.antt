-- A loop that reads digits.
use Rattle.std.proofs.Common.{◌≡◌, ℕ, ◌+◌, ◌*◌, ◌^◌, ◌<◌, ◌≤◌, Bool, true, false, cond, ltb, List, [], ◌∷◌, ◌++◌, length, get_or, Some, None, Option, sym, refl, ap, ◌∙◌, append_assoc, mul-le-mul_left, mul-one, arith}
use Rattle.std.proofs.lemmas.Bool.{cond-true, cond-false, lt-ltb, le-ltb, ltb-true, ltb-false}
use Rattle.std.proofs.lemmas.Option.{cond_some, none-some}
use Rattle.texts.specs.Digits.{then, digit_in, written, narrow, extended, numeral, pair, pairs}

narrow_large : (n : ℕ) → 2 ^ 64 ≤ n → narrow (Some n) ≡ None
narrow_large n h = cond-false (ltb n (2 ^ 64)) _ _ (le-ltb n (2 ^ 64) h)

pub narrow_small : (n : ℕ) → n < 2 ^ 64 → narrow (Some n) ≡ Some n
narrow_small n h = cond-true (ltb n (2 ^ 64)) _ _ (lt-ltb n (2 ^ 64) h)

-- a number that has more than 64 bits stays so
too_large : (base n : ℕ) (bs : List ℕ) → 1 ≤ base → 2 ^ 64 ≤ n → narrow (written base n bs) ≡ None
too_large base n [] one h = narrow_large n h
too_large base n (b ∷ bs) one h = at_digit (digit_in base b) (λ d. too_large base (n * base + d) bs one (omega (arith, mul-le-mul_left n one, mul-one n)))
  where
    at_digit : (o : Option ℕ) → ((d : ℕ) → narrow (written base (n * base + d) bs) ≡ None) → narrow (then o (λ d. written base (n * base + d) bs)) ≡ None
    at_digit None k = refl
    at_digit (Some d) k = k d

lost : (t : Bool) (m : ℕ) → cond t (Some m) None ≡ None → t ≡ false
lost true m e = absurd (grind arith)
lost false m e = refl

module _ (base n b : ℕ) (bs : List ℕ) where
  pub goes_on : (w : ℕ) → extended base n b ≡ Some w → (w < 2 ^ 64) × (written base n (b ∷ bs) ≡ written base w bs)
  goes_on w = at_digit (digit_in base b)
    where
      at_digit : (o : Option ℕ) → narrow (then o (λ d. Some (n * base + d))) ≡ Some w → (w < 2 ^ 64) × (then o (λ d. written base (n * base + d) bs) ≡ written base w bs)
      at_digit None e = absurd (none-some w e)
      at_digit (Some d) e =
          let (small, is) = cond_some (ltb (n * base + d) (2 ^ 64)) (n * base + d) w e in
          (omega (arith, is, ltb-true (n * base + d) (2 ^ 64) small), ap (λ m. written base m bs) is)

  pub breaks_off : 1 ≤ base → extended base n b ≡ None → narrow (written base n (b ∷ bs)) ≡ None
  breaks_off one = at_digit (digit_in base b)
    where
      at_digit : (o : Option ℕ) → narrow (then o (λ d. Some (n * base + d))) ≡ None → narrow (then o (λ d. written base (n * base + d) bs)) ≡ None
      at_digit None e = refl
      at_digit (Some d) e = too_large base (n * base + d) bs one (ltb-false (n * base + d) (2 ^ 64) (lost (ltb (n * base + d) (2 ^ 64)) (n * base + d) e))

pub numeral_some : (base : ℕ) (bs : List ℕ) → 0 < length bs → numeral base bs ≡ written base 0 bs
numeral_some base [] h = absurd (omega arith)
numeral_some base (b ∷ bs) h = refl

-- two digits before the rest
pairs_cons : (ds rest : List ℕ) → length ds ≡ 2 → pairs (ds ++ rest) ≡ then (pair (get_or ds 0 0) (get_or ds 1 0)) (λ x. then (pairs rest) (λ xs. Some (x ∷ xs)))
pairs_cons [] rest h = absurd (omega arith)
pairs_cons (a ∷ []) rest h = absurd (omega arith)
pairs_cons (a ∷ b ∷ []) rest h = refl
pairs_cons (a ∷ b ∷ c ∷ ds) rest h = absurd (omega arith)

grown : (xs : List ℕ) (byte : ℕ) (o : Option (List ℕ)) → then (then o (λ ys. Some (byte ∷ ys))) (λ ys. Some (xs ++ ys)) ≡ then o (λ ys. Some ((xs ++ byte ∷ []) ++ ys))
grown xs byte None = refl
grown xs byte (Some ys) = ap Some (sym (append_assoc xs (byte ∷ []) ys))

pub one_pair : (wrote : Option (List ℕ)) (xs ds rest : List ℕ) → length ds ≡ 2 → wrote ≡ then (pairs (ds ++ rest)) (λ ys. Some (xs ++ ys)) → (byte : ℕ) → pair (get_or ds 0 0) (get_or ds 1 0) ≡ Some byte → wrote ≡ then (pairs rest) (λ ys. Some ((xs ++ byte ∷ []) ++ ys))
one_pair wrote xs ds rest two sofar byte e =
    let front = pairs_cons ds rest two ∙ ap (λ o. then o (λ x. then (pairs rest) (λ ys. Some (x ∷ ys)))) e in
    sofar ∙ ap (λ o. then o (λ ys. Some (xs ++ ys))) front ∙ grown xs byte (pairs rest)

pub unchanged : (wrote : Option (List ℕ)) → wrote ≡ then wrote (λ ys. Some ([] ++ ys))
unchanged None = refl
unchanged (Some ys) = refl

pub pushed_after : (old items new xs : List ℕ) (byte : ℕ) → new ≡ items ++ byte ∷ [] → items ≡ old ++ xs → new ≡ old ++ (xs ++ byte ∷ [])
pushed_after old items new xs byte e f = e ∙ ap (λ l. l ++ byte ∷ []) f ∙ append_assoc old xs (byte ∷ [])
