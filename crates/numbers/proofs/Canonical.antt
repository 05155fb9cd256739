-- Whatever reads as a number is what would be written for it.
use Rattle.std.proofs.Common.{◌≡◌, ℕ, zero, suc, ◌+◌, ◌-◌, ◌*◌, ◌/◌, ◌%◌, ◌^◌, ◌<◌, ◌≤◌, cond, ◌&&◌, eqb, ltb, List, [], ◌∷◌, length, get_or, take, drop, Ok, Err, sym, refl, ap, ◌∙◌, subst, ⊎_elim, mul_assoc, mul_comm, add-mul, arith, get_or-drop}
use Rattle.std.proofs.lemmas.Bool.{cases_lt, lt-ltb, le-ltb}
use Rattle.std.proofs.lemmas.Bool.Decides.{nat_tests}
use Rattle.numbers.specs.declared.fault.NumberFault.TheVariants.{NotShortest, TooLarge}
use Rattle.numbers.specs.declared.read.Parsed.{Parsed}
use Rattle.numbers.specs.Reading.{groups, number}
use Rattle.numbers.specs.Writing.{written_in, written, WrittenAt}

-- what was read from `next` on: the groups say `worth`, and are it, written
record Canon (left at next value scale : ℕ) (bytes : List ℕ) (p : Parsed ℕ) : Type 0 where
  worth : ℕ
  sum : p.value ≡ value + worth * scale
  some : at < next → 0 < worth
  ends : p.next ≡ next + length (written_in left worth)
  same : take (length (written_in left worth)) bytes ≡ written_in left worth

-- a last group
module _ (left at next value scale b : ℕ) (bytes : List ℕ) (p : Parsed ℕ) (h : b < 128) where
  lone : written_in (suc left) b ≡ b ∷ []
  lone = rw (lt-ltb b 128 h) refl

  ended : groups (suc left) at next value scale (b ∷ bytes) ≡ Ok p
      → (p ≡ record { value = value + b * scale; next = next + 1 }) × (at < next → 0 < b)
  ended e =
      let f : cond (eqb b 0 && ltb at next) (Err (NotShortest at)) (cond (ltb (value + b * scale) (2 ^ 64)) (Ok (record { value = value + b * scale; next = next + 1 })) (Err (TooLarge at))) ≡ Ok p
      = simp (lt-ltb b 128 h) at e in
      (grind (arith, nat_tests), (λ l. grind (arith, nat_tests)))

  last_canon : groups (suc left) at next value scale (b ∷ bytes) ≡ Ok p → Canon (suc left) at next value scale (b ∷ bytes) p
  last_canon e = record {
    worth = b;
    sum = ap (λ (x : Parsed ℕ). x.value) (ended e).0;
    some = (ended e).1;
    ends = ap (λ (x : Parsed ℕ). x.next) (ended e).0 ∙ rw lone refl;
    same = rw lone refl;
  }

-- a group and what follows it
module _ (left at next value scale b : ℕ) (bytes : List ℕ) (p : Parsed ℕ) (h : 128 ≤ b) (k : b < 256)
    (r : Canon left at (next + 1) (value + (b - 128) * scale) (scale * 128) bytes p) (l : at ≤ next) where
  all : ℕ
  all = (b - 128) + 128 * r.worth

  lead : written_in (suc left) all ≡ b ∷ written_in left r.worth
  unfolding all
  lead =
      let s = r.some (omega arith) in
      let a : 128 ≤ (b - 128) + 128 * r.worth = omega arith in
      let m : 128 + ((b - 128) + 128 * r.worth) % 128 ≡ b = omega arith in
      let d : ((b - 128) + 128 * r.worth) / 128 ≡ r.worth = omega arith in
      rw (le-ltb _ 128 a, m, d) refl

  more_canon : Canon (suc left) at next value scale (b ∷ bytes) p
  unfolding all
  more_canon = record {
    worth = all;
    sum =
        let x : r.worth * (scale * 128) ≡ (128 * r.worth) * scale
        = ap (λ (y : ℕ). r.worth * y) (mul_comm scale 128) ∙ sym (mul_assoc r.worth 128 scale) ∙ ap (λ (y : ℕ). y * scale) (mul_comm r.worth 128) in
        r.sum ∙ omega (arith, add-mul (b - 128) (128 * r.worth) scale);
    some = λ y. let s = r.some (omega arith) in omega arith;
    ends = r.ends ∙ omega (arith, ap length lead);
    same = rw lead (ap (λ (x : List ℕ). b ∷ x) r.same);
  }

canon : (left at next value scale : ℕ) (bytes : List ℕ) (p : Parsed ℕ) → ((i : ℕ) → get_or bytes i 0 < 256) → at ≤ next
    → groups left at next value scale bytes ≡ Ok p → Canon left at next value scale bytes p
canon zero at next value scale bytes p f l e = absurd (grind arith)
canon (suc left) at next value scale [] p f l e = absurd (grind arith)
canon (suc left) at next value scale (b ∷ bytes) p f l e =
    ⊎_elim
    (λ (h : b < 128). last_canon left at next value scale b bytes p h e)
    (λ (h : 128 ≤ b).
    more_canon left at next value scale b bytes p h (f 0)
    (canon left at (next + 1) (value + (b - 128) * scale) (scale * 128) bytes p (λ i. f (suc i)) (omega arith) (simp (le-ltb b 128 h) at e)) l)
    (cases_lt b 128)

pub written_at : (bytes : List ℕ) (at : ℕ) → ((i : ℕ) → get_or bytes i 0 < 256) → (p : Parsed ℕ) → number bytes at ≡ Ok p → WrittenAt bytes at p
unfolding written
written_at bytes at f p e =
    let r = canon 10 at at 0 1 (drop at bytes) p (λ i. rw get_or-drop (f (at + i))) (omega arith) e in
    let v : r.worth ≡ p.value = omega (arith, r.sum) in
    subst (λ (x : ℕ). (p.next ≡ at + length (written_in 10 x)) × (take (length (written_in 10 x)) (drop at bytes) ≡ written_in 10 x)) v (r.ends, r.same)
