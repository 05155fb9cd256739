-- What is written reads back as itself, whatever stands before it and follows it.
use Rattle.std.proofs.Common.{◌≡◌, ℕ, zero, suc, ◌+◌, ◌-◌, ◌*◌, ◌/◌, ◌%◌, ◌^◌, ◌<◌, ◌≤◌, cond, List, ◌++◌, length, drop, is_ok, IfOk, Ok, Err, Result, sym, refl, ap, ◌∙◌, ⊎_elim, mul_assoc, mul_comm, add-mul, div-add-mod', arith, shr_lt}
use Rattle.std.proofs.lemmas.Nat.{le-div}
use Rattle.std.proofs.lemmas.List.{append_assoc, drop_at, length-append}
use Rattle.std.proofs.lemmas.Bool.{cases_lt, lt-ltb, le-ltb}
use Rattle.std.proofs.lemmas.Bool.Decides.{nat_tests}
use Rattle.numbers.specs.declared.fault.NumberFault.{NumberFault}
use Rattle.numbers.specs.declared.read.Parsed.{Parsed}
use Rattle.numbers.specs.Reading.{groups, number}
use Rattle.numbers.specs.Writing.{written_in, written, ReadsBack}

-- a number and the place after it
said : ℕ → ℕ → Result (Parsed ℕ) NumberFault
said value next = Ok (record { value = value; next = next })

-- a group and the rest are the whole
sums : (m scale : ℕ) → ((128 + m % 128) - 128) * scale + (m / 128) * (scale * 128) ≡ m * scale
sums m scale =
    let a : (128 + m % 128) - 128 ≡ m % 128 = omega arith in
    let b : (m / 128) * (scale * 128) ≡ (m / 128 * 128) * scale = ap (λ (x : ℕ). (m / 128) * x) (mul_comm scale 128) ∙ sym (mul_assoc (m / 128) 128 scale) in
    let d : m * scale ≡ (m / 128 * 128 + m % 128) * scale = sym (ap (λ (x : ℕ). x * scale) (div-add-mod' m 128)) in
    let e = add-mul (m / 128 * 128) (m % 128) scale in
    rw (a, b) (omega (arith, d, e))

module _ (k at next value scale m : ℕ) (rest : List ℕ) where
  -- one group
  short : m < 128 → value + m * scale < 2 ^ 64 → (m ≡ 0 → next ≤ at)
      → groups (suc k) at next value scale (written_in (suc k) m ++ rest) ≡ said (value + m * scale) (next + length (written_in (suc k) m))
  unfolding said
  short h f z = rw (lt-ltb m 128 h) (grind (arith, nat_tests))

  -- more than one
  long : 128 ≤ m
      → groups (suc k) at next value scale (written_in (suc k) m ++ rest)
      ≡ groups k at (next + 1) (value + ((128 + m % 128) - 128) * scale) (scale * 128) (written_in k (m / 128) ++ rest)
  long h =
      let b : 128 ≤ 128 + m % 128 = omega arith in
      rw (le-ltb m 128 h) (rw (le-ltb (128 + m % 128) 128 b) refl)

long_length : (k m : ℕ) → 128 ≤ m → length (written_in (suc k) m) ≡ suc (length (written_in k (m / 128)))
long_length k m h = rw (le-ltb m 128 h) refl

back : (k at next value scale m : ℕ) (rest : List ℕ) → m < 2 ^ (7 * suc k) → value + m * scale < 2 ^ 64 → (m ≡ 0 → next ≤ at)
    → groups (suc k) at next value scale (written_in (suc k) m ++ rest) ≡ said (value + m * scale) (next + length (written_in (suc k) m))
back zero at next value scale m rest h f z = short zero at next value scale m rest h f z
back (suc k) at next value scale m rest h f z =
    ⊎_elim
    (λ (l : m < 128). short (suc k) at next value scale m rest l f z)
    (λ (l : 128 ≤ m).
    let e : 7 * suc (suc k) ≡ 7 * suc k + 7 = omega arith in
    let d : m / 128 < 2 ^ (7 * suc k) = shr_lt (7 * suc k) 7 (rw e at h) in
    let q : 1 ≤ m / 128 = le-div 1 m 128 (omega arith) (omega arith) in
    let s = sums m scale in
    let a : (value + ((128 + m % 128) - 128) * scale) + (m / 128) * (scale * 128) ≡ value + m * scale = omega arith in
    let n : (next + 1) + length (written_in (suc k) (m / 128)) ≡ next + length (written_in (suc (suc k)) m) = omega (arith, long_length (suc k) m l) in
    long (suc k) at next value scale m rest l
    ∙ back k at (next + 1) (value + ((128 + m % 128) - 128) * scale) (scale * 128) (m / 128) rest d (omega arith) (λ y. absurd (omega arith))
    ∙ ap (λ (x : ℕ). said x ((next + 1) + length (written_in (suc k) (m / 128)))) a
    ∙ ap (λ (y : ℕ). said (value + m * scale) y) n)
    (cases_lt m 128)

-- a number that stands at a place
pub reads_at : (n : ℕ) → n < 2 ^ 64 → (bytes : List ℕ) (at : ℕ) (rest : List ℕ) → drop at bytes ≡ written n ++ rest
    → number bytes at ≡ Ok (record { value = n; next = at + length (written n) })
unfolding written said
reads_at n h bytes at rest e =
    let b : n < 2 ^ (7 * 10) = omega arith in
    let o : 0 + n * 1 ≡ n = omega arith in
    ap (groups 10 at at 0 1) e
    ∙ back 9 at at 0 1 n rest b (omega arith) (λ _. omega arith)
    ∙ ap (λ (x : ℕ). said x (at + length (written_in 10 n))) o

-- a number appended to what stands before it
pub reads_back : (n : ℕ) → n < 2 ^ 64 → (front : List ℕ) → ReadsBack n (length front) (front ++ written n)
unfolding said
reads_back n h front rest =
    let l : length front + length (written n) ≡ length (front ++ written n) = sym (length-append front (written n)) in
    reads_at n h ((front ++ written n) ++ rest) (length front) rest (ap (drop (length front)) (append_assoc front (written n) rest) ∙ drop_at front (written n ++ rest) (length front) refl)
    ∙ ap (said n) l

-- the same of what a call that may fail leaves
pub appended : {T E : Type 0} (r : Result T E) (n : ℕ) → n < 2 ^ 64 → (front out : List ℕ) (at : ℕ)
    → at ≡ length front → out ≡ cond (is_ok r) (front ++ written n) front → IfOk r (λ _. ReadsBack n at out)
appended (Ok x) n h front out at e o = λ rest. rw (e, o) (reads_back n h front rest)
appended (Err y) n h front out at e o = tt
