-- One group more of what is written.
use Rattle.std.proofs.Common.{◌≡◌, ℕ, suc, ◌+◌, ◌-◌, ◌*◌, ◌/◌, ◌%◌, ◌^◌, ◌<◌, ◌≤◌, List, [], ◌∷◌, ◌++◌, length, refl, ap, ⊎_elim, arith, shr_lt}
use Rattle.std.proofs.lemmas.List.{append_assoc, length-append}
use Rattle.std.proofs.lemmas.Bool.{cases_lt, le-ltb}
use Rattle.numbers.specs.Writing.{written_in, written}

-- these groups and what is left to write are the whole, and what is left has room
pub record Partly (value rest : ℕ) (groups : List ℕ) : Type 0 where
  pub few : length groups ≤ 9
  pub low : rest < 2 ^ (7 * (10 - length groups))
  pub whole : groups ++ written_in (10 - length groups) rest ≡ written value

pub none : (value : ℕ) (groups : List ℕ) → value < 2 ^ 64 → groups ≡ [] → Partly value value groups
unfolding written
none value groups h e = rw e (record { few = omega arith; low = omega arith; whole = refl })

module _ {value rest : ℕ} {groups : List ℕ} (s : Partly value rest groups) where
  fuel : 10 - length groups ≡ suc (10 - (length groups + 1))
  fuel = let f = s.few in omega arith

  -- the tenth group is the last
  not_last : 128 ≤ rest → length groups < 9
  not_last h =
      ⊎_elim
      (λ (l : length groups < 9). l)
      (λ (l : 9 ≤ length groups).
      let e : 10 - length groups ≡ 1 = let f = s.few in omega arith in
      let b : rest < 128 = rw e at s.low in
      absurd (omega arith))
      (cases_lt (length groups) 9)

  pub more : 128 ≤ rest → (groups' : List ℕ) → groups' ≡ groups ++ ((128 + rest % 128) ∷ []) → Partly value (rest / 128) groups'
  more h groups' e =
      let n : length groups' ≡ length groups + 1 = omega (arith, ap length e, length-append groups ((128 + rest % 128) ∷ [])) in
      let t : 7 * (10 - length groups) ≡ 7 * (10 - (length groups + 1)) + 7 = let f = s.few in omega arith in
      let b : rest / 128 < 2 ^ (7 * (10 - (length groups + 1))) = shr_lt (7 * (10 - (length groups + 1))) 7 (rw t at s.low) in
      record {
        few = omega (arith, not_last h);
        low = rw n b;
        whole = rw (n, e, append_assoc) (rw (le-ltb rest 128 h) at (rw fuel at s.whole));
      }
